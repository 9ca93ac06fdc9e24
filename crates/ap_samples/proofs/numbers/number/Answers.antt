use Rattle.std.proofs.Common.{◌≡◌, true, Err, sym, arith}
use Rattle.ap_samples.specs.Numbers.{is_decimal_lem}
use Rattle.ap_samples.proofs.Decimals.{is_text, told}
use Rattle.ap_samples.proofs.numbers.number.Goals as goal

pub returns-in_default : goal.returns-in_default
returns-in_default c = absurd (c.in_default.ensures.cases.0 (is_text c.args.text.now (sym c.if-not-is_decimal.ensures)))

pub returns-in_default-parse : goal.returns-in_default-parse
returns-in_default-parse c =
    let same : c.in-Ok.digits.now ≡ c.args.text.now = c.in-Ok.ensures.cases.0 in
    let is : is_decimal_lem c.in-Ok.digits.now ≡ true = rw same (sym c.if-not-is_decimal.ensures) in
    rw (← same) (told c.args.least c.args.most c.in-Ok.digits.now (Err c.in_default-parse.field-0) is (omega arith) c.in_default-parse.ensures.value.0)
