use Rattle.std.proofs.Common.{◌≡◌, length}
use Rattle.ap_config.specs.Configuration.{folders_have_patterns}
use Rattle.ap_config.proofs.judge.check_folder_patterns.Given as goal

abbrev pub invariant-loop-rest : goal.invariant-loop-rest
invariant-loop-rest l = folders_have_patterns l.rest ≡ folders_have_patterns l.folders

abbrev pub decreases-loop-rest : goal.decreases-loop-rest
decreases-loop-rest l = length l.rest
