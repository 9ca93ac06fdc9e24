-- A list in the forms of the pattern `[first, after @ ..]`.
use Rattle.std.proofs.Common.{◌≡◌, ◌≤◌, ◌<◌, ◌-◌, suc, List, [], ◌∷◌, length, take, drop, get_or, refl, sym, ◌∙◌, ap, arith}
use Rattle.std.proofs.Math.Seq.{take-length}

-- all but the first of a list
abbrev pub after : {X : Type 0} → List X → List X
after xs = take (length xs - 1) (drop 1 xs)

pub after-cons : {X : Type 0} (x : X) (xs : List X) → after (x ∷ xs) ≡ xs
after-cons x xs = ap (λ n. take n xs) rest ∙ take-length xs
  where
    rest : suc (length xs) - 1 ≡ length xs
    rest = omega arith

pub first_of : {X : Type 0} (xs : List X) (x : X) → 1 ≤ length xs → x ≡ get_or xs 0 x → xs ≡ x ∷ after xs
first_of [] x some is = absurd (omega arith)
first_of (y ∷ ys) x some is = ap (λ rest. y ∷ rest) (sym (after-cons y ys)) ∙ ap (λ first. first ∷ after (y ∷ ys)) (sym is)

pub none_of : {X : Type 0} (xs : List X) → length xs < 1 → xs ≡ []
none_of [] none = refl
none_of (x ∷ xs) none = absurd (omega arith)
