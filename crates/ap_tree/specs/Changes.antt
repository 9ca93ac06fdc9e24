-- What the calls of a cache folder do to its files.
use Rattle.std.specs.Prelude.{◌≡◌, ◌≢◌, ◌⊎◌, ℕ, List, Option, Some, None}
use Rattle.ap_tree.specs.Files.{content_at}

-- what was told is told again, and stands so to what it was; what wasn't told still isn't
abbrev pub TellsAs : {X : Type 0} → Option X → Option X → (X → X → Type 0) → Type 0
TellsAs None None Relates = Unit {0}
TellsAs None (Some new) Relates = ⊥
TellsAs (Some old) None Relates = ⊥
TellsAs (Some old) (Some new) Relates = Relates old new

-- the file at this path now has this content, where there is one, and the others are as before
pub record Puts (old new : List (List ℕ × List ℕ)) (path : List ℕ) (content : Option (List ℕ)) : Type 0 where
  pub here : content_at new path ≡ content
  pub others : (other : List ℕ) → other ≢ path → content_at new other ≡ content_at old other

-- the other files are as before
abbrev pub KeepsOthers : (old new : List (List ℕ × List ℕ)) → List ℕ → Type 0
KeepsOthers old new path = (other : List ℕ) → other ≢ path → content_at new other ≡ content_at old other

-- the file at this path is as before or gone, and the others are as before
pub record KeepsOrLoses (old new : List (List ℕ × List ℕ)) (path : List ℕ) : Type 0 where
  pub here : (content_at new path ≡ content_at old path) ⊎ (content_at new path ≡ None)
  pub others : KeepsOthers old new path

-- all files are as before
abbrev pub SameFiles : (old new : List (List ℕ × List ℕ)) → Type 0
SameFiles old new = (path : List ℕ) → content_at new path ≡ content_at old path
