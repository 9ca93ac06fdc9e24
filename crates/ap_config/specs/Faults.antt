-- The words of the faults of a configuration.
use Rattle.std.specs.Prelude.{ℕ, List, ◌++◌, codes}
use Rattle.std.specs.Fmt.{decimal}
use Rattle.ap_config.specs.declared.fault.ConfigFault.{ConfigFault}
use Rattle.ap_config.specs.declared.fault.ConfigFault.TheVariants.{NotToml, UnknownKey, WrongKind, SameOrder, UnknownBuilder, BadPlatform, NothingEnabled, BadPath, BadPattern, OutOfMemory}

abbrev pub fault_words : ConfigFault → List ℕ
fault_words NotToml = codes "not toml"
fault_words (UnknownKey name) = codes "unknown key " ++ name
fault_words (WrongKind name) = codes "wrong kind " ++ name
fault_words (SameOrder order) = codes "same order " ++ decimal order
fault_words (UnknownBuilder name) = codes "unknown builder " ++ name
fault_words (BadPlatform name) = codes "bad platform " ++ name
fault_words NothingEnabled = codes "nothing enabled"
fault_words (BadPath path) = codes "bad path " ++ path
fault_words (BadPattern pattern) = codes "bad pattern " ++ pattern
fault_words OutOfMemory = codes "out of memory"
