-- Counts of names, under all numbers.
use Rattle.std.proofs.Common.{◌≡◌, ◌<◌, ◌≤◌, ℕ, zero, suc, List, [], ◌∷◌, length, take, replicate, ◌++◌, Option, Some, None, refl, arith}
use Rattle.std.specs.Prelude.{slice_index_or}
use Rattle.ap_db.specs.declared.things.FileThing.{FileThing}

-- what is there is within
pub there_within : (things : List (Option FileThing)) (i : ℕ) (t : FileThing) → slice_index_or things i None ≡ Some t → i < length things
there_within [] i t e = absurd (cc e)
there_within (x ∷ things) zero t e = omega arith
there_within (x ∷ things) (suc i) t e = omega (arith, there_within things i t e)

in_none : (n i : ℕ) → slice_index_or {A = Option FileThing} (replicate n None) i None ≡ None
in_none zero i = refl
in_none (suc n) zero = refl
in_none (suc n) (suc i) = in_none n i

-- room that is made has nothing
pub grown : (things : List (Option FileThing)) (n count i : ℕ) → length things ≤ n → slice_index_or (take n things ++ replicate count None) i None ≡ slice_index_or things i None
grown [] zero count i le = in_none count i
grown [] (suc n) count i le = in_none count i
grown (t ∷ things) zero count i le = absurd (omega (arith, le))
grown (t ∷ things) (suc n) count zero le = refl
grown (t ∷ things) (suc n) count (suc i) le = grown things n count i (omega (arith, le))
