use Rattle.std.proofs.Common.{◌≡◌, suc, ◌+◌, ◌-◌, ◌*◌, ◌<◌, ◌≤◌, length, get_or, take, drop, refl, ap, sym, ◌∙◌, subst, arith}
use Rattle.ap_rows.specs.Readers.{value_onto}
use Rattle.ap_rows.proofs.Digits.{count_of, count_of-fits, count_of-pow, room-step, within, cons-again}
use Rattle.ap_rows.proofs.fields.value_of.Goals as goal

pub loop-rest-init : goal.loop-rest-init
loop-rest-init c = (refl, omega arith)

pub returns-clause-fits : goal.returns-clause-fits
returns-clause-fits c =
    let rest = c.loop-rest.rest.now in
    let none : length rest ≡ 0 = omega (arith, c.in_default.len_below) in
    let last : (c.loop-rest.n + 1) * count_of 0 ≤ count_of (length c.args.digits.now) = subst (λ k. (c.loop-rest.n + 1) * count_of k ≤ count_of (length c.args.digits.now)) none c.loop-rest.invariant.1 in
    subst (λ m. c.loop-rest.n < m) (count_of-pow (length c.args.digits.now)) (omega arith)

pub overflow_mul-n : goal.overflow_mul-n
overflow_mul-n c =
    let most = count_of (length c.args.digits.now) in
    let fits = count_of-fits (length c.args.digits.now) c.requires in
    let k = length c.loop-rest.rest.now in
    let room = within (c.loop-rest.n * 256 + 0 + 1) (k - 1) most (room-step c.loop-rest.n 0 k most (omega arith) c.in-len1-up.len_at_least c.loop-rest.invariant.1) in
    omega arith

pub overflow_add-n : goal.overflow_add-n
overflow_add-n c =
    let most = count_of (length c.args.digits.now) in
    let fits = count_of-fits (length c.args.digits.now) c.requires in
    let k = length c.loop-rest.rest.now in
    let b = get_or c.loop-rest.rest.now 0 0 in
    let low : b < 256 = omega arith in
    let room = within (c.loop-rest.n * 256 + b + 1) (k - 1) most (room-step c.loop-rest.n b k most low c.in-len1-up.len_at_least c.loop-rest.invariant.1) in
    omega arith

pub loop-rest-preserved : goal.loop-rest-preserved
loop-rest-preserved c =
    let rest = c.loop-rest.rest.now in
    let most = count_of (length c.args.digits.now) in
    let k = length rest in
    let b = get_or rest 0 0 in
    let low : b < 256 = omega arith in
    let later = take (length rest - 1) (drop 1 rest) in
    let all = cons-again 0 rest c.in-len1-up.len_at_least in
    let long : length later ≡ k - 1 = let h : suc (length later) ≡ k = ap length all in omega arith in (
      ap (value_onto c.loop-rest.n) all ∙ c.loop-rest.invariant.0,
      subst (λ m. (c.loop-rest.n * 256 + b + 1) * count_of m ≤ most) (sym long) (room-step c.loop-rest.n b k most low c.in-len1-up.len_at_least c.loop-rest.invariant.1),
    )
