-- What reading a name answers.
use Rattle.std.specs.Prelude.{◌≡◌, ℕ, List, Result, Ok, Err}
use Rattle.ap_text.specs.declared.name.NameFault.{NameFault}
use Rattle.ap_text.specs.declared.name.NameFault.TheVariants.{Bad, OutOfMemory}
use Rattle.ap_text.specs.NameRules.{IsName, IsPlatform, IsFileName}

-- `Ok` with the bytes where they are in the grammar, `Bad` where they aren't
abbrev pub Reads : (List ℕ → Type 0) → List ℕ → Result (List ℕ) NameFault → Type 0
Reads IsIn bytes (Ok name) = (name ≡ bytes) × IsIn bytes
Reads IsIn bytes (Err Bad) = ¬ IsIn bytes
Reads IsIn bytes (Err OutOfMemory) = Unit {0}

abbrev pub ReadsName : List ℕ → Result (List ℕ) NameFault → Type 0
ReadsName = Reads IsName

abbrev pub ReadsPlatform : List ℕ → Result (List ℕ) NameFault → Type 0
ReadsPlatform = Reads IsPlatform

abbrev pub ReadsFileName : List ℕ → Result (List ℕ) NameFault → Type 0
ReadsFileName = Reads IsFileName
