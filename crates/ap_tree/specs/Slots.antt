-- Where a file stands in a list of files.
use Rattle.std.specs.Prelude.{ℕ, suc, if◌then◌else◌, List, [], ◌∷◌, bytes_eq}

-- the place of the first file at a path, or the number of files
abbrev pub slot_of : List (List ℕ × List ℕ) → List ℕ → ℕ
slot_of [] path = 0
slot_of (file ∷ files) path = if bytes_eq file.0 path then 0 else suc (slot_of files path)
