use Rattle.std.proofs.Common.{◌≡◌, length}
use Rattle.ap_cli.specs.Neighbours.{has_front_next}
use Rattle.ap_cli.proofs.conflicts.begins_next.Given as goal

abbrev pub invariant-loop-rest : goal.invariant-loop-rest
invariant-loop-rest l = has_front_next l.rest ≡ has_front_next l.paths

abbrev pub decreases-loop-rest : goal.decreases-loop-rest
decreases-loop-rest l = length l.rest
