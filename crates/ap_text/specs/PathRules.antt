-- The grammar of a relative path, and its parts.
use Rattle.std.specs.Prelude.{◌≡◌, ◌≢◌, ◌≤◌, ℕ, Bool, true, false, not, ◌==◌, ◌&&◌, ◌||◌, nat_lt, nat_le, List, [], ◌∷◌, length}
use Rattle.std.specs.List.{list_any, slice_split, before_last, after_last}
use Rattle.std.specs.Str.{IsUtf8, is_utf8}

-- a part that names no file of its own: empty, `.` or `..`
abbrev pub is_bad_part_lem : List ℕ → Bool
is_bad_part_lem [] = true
is_bad_part_lem (a ∷ []) = a == 46
is_bad_part_lem (a ∷ b ∷ []) = a == 46 && b == 46
is_bad_part_lem part = false

-- some part between the slashes is bad
abbrev pub has_bad_part_lem : List ℕ → Bool
has_bad_part_lem bytes = list_any is_bad_part_lem (slice_split (λ b. b == 47) bytes)

-- a backslash, a control character or DEL
abbrev pub is_bad_byte : ℕ → Bool
is_bad_byte b = b == 92 || nat_lt b 32 || b == 127

abbrev pub has_bad_byte_lem : List ℕ → Bool
has_bad_byte_lem bytes = list_any is_bad_byte bytes

-- a relative path
pub record IsRelPath (bytes : List ℕ) : Type 0 where
  pub some : bytes ≢ []
  pub short : length bytes ≤ 240
  pub text : IsUtf8 bytes
  pub parts : has_bad_part_lem bytes ≡ false
  pub plain : has_bad_byte_lem bytes ≡ false

-- the test of it
unfoldable pub is_rel_path : List ℕ → Bool
is_rel_path path = not (length path == 0) && nat_le (length path) 240 && is_utf8 path && not (has_bad_part_lem path) && not (has_bad_byte_lem path)

-- the folder of a path: what stands before its last slash, or nothing
abbrev pub parent_lem : List ℕ → List ℕ
parent_lem path = before_last (λ b. b == 47) path

-- the name of a path's file: what stands behind its last slash, or all of it
abbrev pub file_name_lem : List ℕ → List ℕ
file_name_lem path = after_last (λ b. b == 47) path
