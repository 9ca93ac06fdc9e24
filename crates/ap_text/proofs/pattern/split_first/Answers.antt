use Rattle.std.proofs.Common.{◌≡◌, ◌++◌, length, length-append, arith, ap, sym, ◌∙◌}
use Rattle.std.specs.Char.{encode_utf8}
use Rattle.std.proofs.lemmas.Str.{chars_past_char, length-encode, len_utf8_bounds}
use Rattle.ap_text.proofs.pattern.split_first.Goals as goal

pub returns-in-Some : goal.returns-in-Some
returns-in-Some c =
    let parts : c.args.text.now ≡ encode_utf8 c.in-Some.first ++ c.as_str.result.now = sym c.chars-rest.ensures.rest ∙ c.in-Some.ensures.steps.0 ∙ ap (λ t. encode_utf8 c.in-Some.first ++ t) (sym c.as_str.ensures) in
    record {
      split = chars_past_char c.args.text.now c.as_str.result.now c.in-Some.first c.utf8.text parts;
      shorter = omega (arith, ap length parts, length-append (encode_utf8 c.in-Some.first) c.as_str.result.now, length-encode c.in-Some.first, (len_utf8_bounds c.in-Some.first).0);
    }
