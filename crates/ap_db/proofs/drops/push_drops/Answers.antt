use Rattle.std.proofs.Common.{◌≡◌, ◌∙◌, ◌++◌, ◌∷◌, [], ℕ, List, length, map, reverse, refl, sym, ap, arith, append_assoc, length-append}
use Rattle.std.proofs.lemmas.List.{reverse-append, append-nil}
use Rattle.ap_db.specs.TakenOut.{drop_of}
use Rattle.ap_db.proofs.drops.push_drops.Goals as goal

pub loop-n-init : goal.loop-n-init
loop-n-init c = refl

pub loop-n-smaller : goal.loop-n-smaller
loop-n-smaller c =
    let long = ap (λ (l : List ℕ). length l) c.in-Some.ensures.items ∙ length-append c.pop.new.self.items (c.in-Some.n ∷ []) in
    omega (arith, long)

pub loop-n-preserved : goal.loop-n-preserved
loop-n-preserved c =
    let last : reverse c.loop-n.numbers.items ≡ c.in-Some.n ∷ reverse c.pop.new.self.items = ap (λ (l : List ℕ). reverse l) c.in-Some.ensures.items ∙ reverse-append c.pop.new.self.items (c.in-Some.n ∷ []) in
    ap (λ l. l ++ map drop_of (reverse c.pop.new.self.items)) c.in_ok-push.ensures.items
    ∙ append_assoc c.loop-n.items.items (drop_of c.in-Some.n ∷ []) (map drop_of (reverse c.pop.new.self.items))
    ∙ ap (λ (l : List ℕ). c.loop-n.items.items ++ map drop_of l) (sym last)
    ∙ c.loop-n.invariant

none_left : (xs : List ℕ) → length xs ≡ 0 → xs ≡ []
none_left [] e = refl
none_left (x ∷ xs) e = absurd (omega (arith, e))

pub returns : goal.returns
returns c =
    let none : c.loop-n.numbers.items ≡ [] = none_left c.loop-n.numbers.items (sym c.loop-n.numbers.ok.0 ∙ c.in_default.ensures.cases.0) in
    sym (append-nil c.loop-n.items.items) ∙ ap (λ (l : List ℕ). c.loop-n.items.items ++ map drop_of (reverse l)) (sym none) ∙ c.loop-n.invariant
