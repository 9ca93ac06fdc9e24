-- What a list of files (path, bytes) holds.
use Rattle.std.specs.Prelude.{ℕ, ◌+◌, Bool, true, ◌&&◌, ◌==◌, nat_eq, nat_lt, nat_le, if◌then◌else◌, List, [], ◌∷◌, length, drop, map, slice_index, bytes_eq, Option, Some, None, is_none}
use Rattle.std.specs.List.{starts_with}
use Rattle.ap_text.specs.declared.seen.Seen.{Seen}
use Rattle.ap_text.specs.declared.seen.Seen.TheVariants.{Bytes, Absent, TooLarge}

-- the path begins with the folder and a slash
abbrev pub is_below_lem : List ℕ → List ℕ → Bool
is_below_lem folder path = nat_lt (length folder) (length path) && starts_with nat_eq path folder && slice_index path (length folder) == 47

-- what follows the folder and its slash in the paths below it
abbrev pub names_below : List ℕ → List (List ℕ × List ℕ) → List (List ℕ)
names_below folder [] = []
names_below folder (file ∷ files) =
    if is_below_lem folder file.0 then drop (length folder + 1) file.0 ∷ names_below folder files else names_below folder files

-- the bytes of the file at a path
abbrev pub content_at : List (List ℕ × List ℕ) → List ℕ → Option (List ℕ)
content_at [] path = None
content_at (file ∷ files) path = if bytes_eq file.0 path then Some file.1 else content_at files path

-- how a reader sees it that takes no file of more than this many bytes
abbrev pub seen_up_to : ℕ → Option (List ℕ) → Seen
seen_up_to limit None = Absent
seen_up_to limit (Some bytes) = if nat_le (length bytes) limit then Bytes bytes else TooLarge

-- the files' paths
abbrev pub paths : List (List ℕ × List ℕ) → List (List ℕ)
paths files = map (λ file. file.0) files

-- no path stands twice
abbrev pub has_distinct_paths : List (List ℕ × List ℕ) → Bool
has_distinct_paths [] = true
has_distinct_paths (file ∷ files) = is_none (content_at files file.0) && has_distinct_paths files
