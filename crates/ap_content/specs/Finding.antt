-- The index of numbers by digest. No public clause cites this module.
use Rattle.std.specs.Prelude.{◌≡◌, ◌≢◌, ◌⊎◌, ℕ, List, Some, Contains, nat_eq}
use Rattle.std.specs.HashMap.{get}
use Rattle.std.specs.Cmp.Lexicographic.{pointwise}
use Rattle.ap_content.specs.declared.index.Index.{Index}

-- the index has the number under the digest
abbrev pub Finds : Index → List ℕ → ℕ → Type 0
Finds index digest n = (get (pointwise nat_eq) index.first digest ≡ Some n) ⊎ Contains index.clashes.items (digest, n)

pub record FindsSame (old new : Index) : Type 0 where
  pub still : (d : List ℕ) (m : ℕ) → Finds old d m → Finds new d m
  pub only : (d : List ℕ) (m : ℕ) → Finds new d m → Finds old d m

-- the number is found under the digest too
pub record FindsToo (old new : Index) (digest : List ℕ) (n : ℕ) : Type 0 where
  pub finds : Finds new digest n
  pub still : (d : List ℕ) (m : ℕ) → Finds old d m → Finds new d m
  pub only : (d : List ℕ) (m : ℕ) → Finds new d m → Finds old d m ⊎ ((d ≡ digest) × (m ≡ n))

-- the number isn't found any more
pub record Forgets (old new : Index) (n : ℕ) : Type 0 where
  pub gone : (d : List ℕ) → Finds new d n → ⊥
  pub still : (d : List ℕ) (m : ℕ) → m ≢ n → Finds old d m → Finds new d m
  pub only : (d : List ℕ) (m : ℕ) → Finds new d m → Finds old d m
