use Rattle.std.proofs.Common.{◌≡◌, ◌++◌, length}
use Rattle.ap_tree.specs.Files.{paths}
use Rattle.ap_tree.proofs.lookup.all_paths.Given as goal

abbrev pub invariant-loop-rest : goal.invariant-loop-rest
invariant-loop-rest l = l.names.items ++ paths l.rest ≡ paths l.files

abbrev pub decreases-loop-rest : goal.decreases-loop-rest
decreases-loop-rest l = length l.rest
