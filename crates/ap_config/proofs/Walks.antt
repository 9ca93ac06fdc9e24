-- What a loop over the items of a list has still to read.
use Rattle.std.proofs.Common.{◌++◌, List, Result, Ok}
use Rattle.ap_config.specs.declared.fault.ConfigFault.{ConfigFault}
use Rattle.ap_config.specs.Configuration.{next}

-- what is given behind the items that were read
abbrev pub behind : {X : Type 0} → List X → Result (List X) ConfigFault → Result (List X) ConfigFault
behind done given = next given (λ xs. Ok (done ++ xs))
