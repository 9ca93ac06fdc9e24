-- A sorted list without its first.
use Rattle.std.proofs.Common.{◌≡◌, ◌+◌, ℕ, Bool, List, ◌∷◌, get_or, refl, arith, add-one}
use Rattle.std.specs.List.Sorted.{IsSortedBy}

pub tail_sorted : {X : Type 0} (lt : X → X → Bool) (x : X) (xs : List X) → IsSortedBy lt (x ∷ xs) → IsSortedBy lt xs
tail_sorted lt x xs sorted k d low within = rw (← at (k + 1), ← at k) (sorted (k + 1) d (omega arith) (omega arith))
  where
    at : (i : ℕ) → get_or (x ∷ xs) (i + 1) d ≡ get_or xs i d
    at i = rw (add-one i) refl
