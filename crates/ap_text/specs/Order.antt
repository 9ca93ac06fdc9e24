-- The order of paths, by their bytes, and the lists that rise by an order.
use Rattle.std.specs.Prelude.{◌↔◌, ℕ, List, [], ◌∷◌, Contains}
use Rattle.std.specs.List.Sorted.{IsStrictlySortedBy}
use Rattle.std.specs.declared.cmp.Ordering.{Ordering}
use Rattle.std.specs.Ordering.{nat_cmp, match_ordering}
use Rattle.std.specs.Cmp.Lexicographic.{slice_cmp}

-- the order of texts by their bytes
abbrev pub bytes_cmp : List ℕ → List ℕ → Ordering
bytes_cmp = slice_cmp nat_cmp

-- the strictly rising list of exactly the values for which P holds
pub record Lists {X : Type 0} (cmp : X → X → Ordering) (P : X → Type 0) (values : List X) : Type 0 where
  pub rises : IsStrictlySortedBy cmp values
  pub holds : (x : X) → Contains values x ↔ P x

-- a rising list with a value put in its place, where it replaces the one of its rank
abbrev pub put_in_order : {X : Type 0} → (X → X → Ordering) → X → List X → List X
put_in_order cmp x [] = x ∷ []
put_in_order cmp x (y ∷ ys) = match_ordering (cmp x y) (x ∷ y ∷ ys) (x ∷ ys) (y ∷ put_in_order cmp x ys)

-- the values of a list in rising order, each once
abbrev pub in_order : {X : Type 0} → (X → X → Ordering) → List X → List X
in_order cmp [] = []
in_order cmp (x ∷ xs) = put_in_order cmp x (in_order cmp xs)
