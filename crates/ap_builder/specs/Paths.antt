-- What the paths, patterns and lists in the answers of builders keep to.
use Rattle.std.specs.Prelude.{◌≡◌, ◌≢◌, ◌≤◌, ◌<◌, ◌^◌, ℕ, List, [], length}
use Rattle.std.specs.Str.{IsUtf8, str_to_ascii_lowercase}

-- folding leaves the path as it is
abbrev pub IsFolded : List ℕ → Type 0
IsFolded path = str_to_ascii_lowercase path ≡ path

-- text of 1 to 240 bytes
pub record IsPattern (bytes : List ℕ) : Type 0 where
  pub some : bytes ≢ []
  pub short : length bytes ≤ 240
  pub text : IsUtf8 bytes

-- fewer than 4,294,967,296 items
abbrev pub IsShort : {X : Type 0} → List X → Type 0
IsShort items = length items < 2 ^ 32
