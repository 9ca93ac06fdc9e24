-- What reading a path answers.
use Rattle.std.specs.Prelude.{◌≡◌, ◌≢◌, ◌≤◌, ◌<◌, ℕ, true, false, List, [], length, Result, Ok, Err}
use Rattle.std.specs.Str.{IsUtf8}
use Rattle.ap_text.specs.declared.path.PathFault.{PathFault}
use Rattle.ap_text.specs.declared.path.PathFault.TheVariants.{Empty, TooLong, NotUtf8, BadPart, BadByte, OutOfMemory}
use Rattle.ap_text.specs.PathRules.{IsRelPath, has_bad_part_lem, has_bad_byte_lem}

-- the first rule that the bytes break
abbrev pub IsFirstBroken : List ℕ → PathFault → Type 0
IsFirstBroken bytes OutOfMemory = Unit {0}
IsFirstBroken bytes Empty = bytes ≡ []
IsFirstBroken bytes TooLong = 240 < length bytes
IsFirstBroken bytes NotUtf8 = (bytes ≢ []) × (length bytes ≤ 240) × ¬ IsUtf8 bytes
IsFirstBroken bytes BadPart = (bytes ≢ []) × (length bytes ≤ 240) × IsUtf8 bytes × (has_bad_part_lem bytes ≡ true)
IsFirstBroken bytes BadByte = (bytes ≢ []) × (length bytes ≤ 240) × IsUtf8 bytes × (has_bad_part_lem bytes ≡ false) × (has_bad_byte_lem bytes ≡ true)

-- the path that the bytes are, or the first rule that they break
abbrev pub ReadsPath : List ℕ → Result (List ℕ) PathFault → Type 0
ReadsPath bytes (Ok path) = (path ≡ bytes) × IsRelPath bytes
ReadsPath bytes (Err fault) = IsFirstBroken bytes fault
