use Rattle.std.proofs.Common.{◌≡◌, ◌++◌, length}
use Rattle.ap_tree.specs.Files.{names_below}
use Rattle.ap_tree.proofs.lookup.list_below.Given as goal

abbrev pub invariant-loop-rest : goal.invariant-loop-rest
invariant-loop-rest l = l.names.items ++ names_below l.folder l.rest ≡ names_below l.folder l.files

abbrev pub decreases-loop-rest : goal.decreases-loop-rest
decreases-loop-rest l = length l.rest
