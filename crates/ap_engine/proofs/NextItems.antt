-- One step along a list, in the forms of the pattern `[first, after @ ..]` and of a `for`.
use Rattle.std.proofs.Common.{◌≡◌, ◌≤◌, ◌<◌, ◌-◌, ◌+◌, ℕ, suc, List, [], ◌∷◌, length, take, drop, get_or, All, refl, sym, ◌∙◌, ap, subst, arith}
use Rattle.std.proofs.lemmas.List.{take_all}
use Rattle.std.proofs.Math.Seq.{take-length}
use Rattle.std.proofs.lemmas.List.Elements.{All-more}
use Rattle.ap_db.specs.Listed.{AreAll}

-- all but the first of a list
abbrev pub after : {X : Type 0} → List X → List X
after xs = take (length xs - 1) (drop 1 xs)

after-cons : {X : Type 0} (x : X) (xs : List X) → after (x ∷ xs) ≡ xs
after-cons x xs = ap (λ n. take n xs) rest ∙ take-length xs
  where
    rest : suc (length xs) - 1 ≡ length xs
    rest = omega arith

-- a list is its first item and those after it
pub first_again : {X : Type 0} (rest : List X) (x : X) → 1 ≤ length rest → x ≡ get_or rest 0 x → rest ≡ x ∷ after rest
first_again [] x some is = absurd (omega (arith, some))
first_again (y ∷ ys) x some is = ap (λ z. z ∷ ys) (sym is) ∙ ap (λ zs. x ∷ zs) (sym (after-cons y ys))

-- what is the first of related lists
pub first_of : {X Y : Type 0} (R : X → Y → Type 0) (x : X) (xs : List X) (ys : List Y) → AreAll R (x ∷ xs) ys → (y : Y) × (others : List Y) × (ys ≡ y ∷ others) × R x y × AreAll R xs others
first_of R x xs [] are = absurd are
first_of R x xs (y ∷ ys) are = (y, ys, refl, are.0, are.1)

-- items that have a property so far, and the next one
pub all_next : {X : Type 0} (P : X → Type 0) (xs : List X) (i : ℕ) (x : X) → i < length xs → x ≡ get_or xs i x → P x → All P (take i xs) → All P (take (i + 1) xs)
all_next P xs i x lt is p all = All-more P xs i x lt all (subst P is p)

pub all_so_far : {X : Type 0} (P : X → Type 0) (xs : List X) (i : ℕ) → length xs ≤ i → All P (take i xs) → All P xs
all_so_far P xs i le all = subst (All P) (take_all i xs le) all

pub none_left : {X : Type 0} (xs : List X) → length xs < 1 → xs ≡ []
none_left [] few = refl
none_left (x ∷ xs) few = absurd (omega (arith, few))
