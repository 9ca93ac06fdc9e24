-- The grammars of names, platforms and file names.
use Rattle.std.specs.Prelude.{◌≡◌, ◌≢◌, ◌≤◌, ℕ, Bool, true, false, not, ◌==◌, ◌&&◌, ◌||◌, nat_lt, nat_le, List, [], ◌∷◌, length}
use Rattle.std.specs.List.{list_all}
use Rattle.std.specs.Str.{IsUtf8, is_utf8}

-- a lower-case letter or a digit
abbrev pub is_platform_byte_lem : ℕ → Bool
is_platform_byte_lem b = (nat_le 97 b && nat_le b 122) || (nat_le 48 b && nat_le b 57)

-- the same, `_` or `-`
abbrev pub is_name_byte_lem : ℕ → Bool
is_name_byte_lem b = is_platform_byte_lem b || b == 95 || b == 45

-- no slash, backslash, control character, DEL or upper-case letter
abbrev pub is_file_name_byte_lem : ℕ → Bool
is_file_name_byte_lem b = not (b == 47 || b == 92 || nat_lt b 32 || b == 127 || (nat_le 65 b && nat_le b 90))

-- `.` and `..`
abbrev pub is_dots_lem : List ℕ → Bool
is_dots_lem (a ∷ []) = a == 46
is_dots_lem (a ∷ b ∷ []) = a == 46 && b == 46
is_dots_lem bytes = false

pub record IsName (bytes : List ℕ) : Type 0 where
  pub some : bytes ≢ []
  pub short : length bytes ≤ 32
  pub plain : list_all is_name_byte_lem bytes ≡ true

pub record IsPlatform (bytes : List ℕ) : Type 0 where
  pub some : bytes ≢ []
  pub short : length bytes ≤ 16
  pub plain : list_all is_platform_byte_lem bytes ≡ true

pub record IsFileName (bytes : List ℕ) : Type 0 where
  pub some : bytes ≢ []
  pub short : length bytes ≤ 255
  pub named : is_dots_lem bytes ≡ false
  pub plain : list_all is_file_name_byte_lem bytes ≡ true
  pub text : IsUtf8 bytes

-- ---- the tests of these

unfoldable pub is_name : List ℕ → Bool
is_name name = not (length name == 0) && nat_le (length name) 32 && list_all is_name_byte_lem name

unfoldable pub is_platform : List ℕ → Bool
is_platform name = not (length name == 0) && nat_le (length name) 16 && list_all is_platform_byte_lem name

unfoldable pub is_file_name : List ℕ → Bool
is_file_name name = not (length name == 0) && nat_le (length name) 255 && not (is_dots_lem name) && list_all is_file_name_byte_lem name && is_utf8 name
