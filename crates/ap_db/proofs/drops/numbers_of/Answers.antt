use Rattle.std.proofs.Common.{◌≡◌, ◌≤◌, ◌∙◌, ◌-◌, ◌++◌, ◌∷◌, [], ℕ, List, length, map, get_or, take, drop, sym, refl, ap, subst, arith, append_assoc, IsPermutation}
use Rattle.std.proofs.lemmas.List.{append-nil}
use Rattle.ap_db.specs.declared.drops.Dropped.{Dropped}
use Rattle.ap_db.specs.TakenOut.{number_there}
use Rattle.ap_db.proofs.Taking.{cons-again}
use Rattle.ap_db.proofs.drops.numbers_of.Goals as goal

pub loop-rest-init : goal.loop-rest-init
loop-rest-init c = ap (λ l. l ++ map number_there c.args.dropped.now) c.new-numbers.ensures.items

pub loop-rest-preserved : goal.loop-rest-preserved
loop-rest-preserved c =
    let d : Dropped = record { m = record { 0 = 0 }; thing = record { number = 0; named = 0 } } in
    let rest = c.loop-rest.rest.now in
    let later = take (length rest - 1) (drop 1 rest) in
    let all = cons-again d rest c.in-len1-up.len_at_least in
    ap (λ l. l ++ map number_there later) c.in_ok-push.ensures.items
    ∙ append_assoc c.loop-rest.numbers.items ((get_or rest 0 d).thing.number ∷ []) (map number_there later)
    ∙ ap (λ (l : List Dropped). c.loop-rest.numbers.items ++ map number_there l) all
    ∙ c.loop-rest.invariant

none_left : (xs : List Dropped) → length xs ≤ 0 → xs ≡ []
none_left [] e = refl
none_left (x ∷ xs) e = absurd (omega (arith, e))

pub returns-clause-same : goal.returns-clause-same
returns-clause-same c =
    let none : c.loop-rest.rest.now ≡ [] = none_left c.loop-rest.rest.now (omega (arith, c.in_default.len_below)) in
    let all : c.loop-rest.numbers.items ≡ map number_there c.args.dropped.now =
    sym (append-nil c.loop-rest.numbers.items) ∙ ap (λ (l : List Dropped). c.loop-rest.numbers.items ++ map number_there l) (sym none) ∙ c.loop-rest.invariant in
    subst (λ (l : List ℕ). IsPermutation l c.sort_unstable.new.self.items) all c.sort_unstable.ensures.permutation
