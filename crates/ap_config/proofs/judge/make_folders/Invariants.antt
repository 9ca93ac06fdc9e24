use Rattle.std.proofs.Common.{◌≡◌, length}
use Rattle.ap_config.specs.Configuration.{each_value, folder_of}
use Rattle.ap_config.proofs.Walks.{behind}
use Rattle.ap_config.proofs.judge.make_folders.Given as goal

abbrev pub invariant-loop-rest : goal.invariant-loop-rest
invariant-loop-rest l = behind l.folders.items (each_value folder_of l.rest) ≡ each_value folder_of l.values

abbrev pub decreases-loop-rest : goal.decreases-loop-rest
decreases-loop-rest l = length l.rest
