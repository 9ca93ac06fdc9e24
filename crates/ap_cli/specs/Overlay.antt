-- What a cache has once files were written into it.
use Rattle.std.specs.Prelude.{◌≡◌, ◌≢◌, ◌⊎◌, ℕ, List, Option, Some, None}
use Rattle.ap_tree.specs.Files.{content_at}
use Rattle.ap_scan.specs.Winners.{Files}

-- the first, or else the second
abbrev pub or_else : {X : Type 0} → Option X → Option X → Option X
or_else (Some x) o = Some x
or_else None o = o

-- at each path there is what was put there, or else what was there
abbrev pub Overlays : Files → Files → Files → Type 0
Overlays put old new = (path : List ℕ) → content_at new path ≡ or_else (content_at put path) (content_at old path)

-- but for the file at one path, each is as it was or as it was put
abbrev pub LaidAllButOne : Files → Files → Files → Type 0
LaidAllButOne put old new = (failed : List ℕ) × ((path : List ℕ) → path ≢ failed → (content_at new path ≡ content_at old path) ⊎ (content_at new path ≡ content_at put path))
