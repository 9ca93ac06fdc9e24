use Rattle.std.proofs.Common.{◌≡◌, length}
use Rattle.ap_tree.specs.Files.{has_distinct_paths}
use Rattle.ap_tree.proofs.lookup.are_distinct.Given as goal

abbrev pub invariant-loop-rest : goal.invariant-loop-rest
invariant-loop-rest l = has_distinct_paths l.rest ≡ has_distinct_paths l.files

abbrev pub decreases-loop-rest : goal.decreases-loop-rest
decreases-loop-rest l = length l.rest
