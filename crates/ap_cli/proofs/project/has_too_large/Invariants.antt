use Rattle.std.proofs.Common.{◌↔◌, length}
use Rattle.ap_cli.specs.Unbuilt.{HasTooLarge}
use Rattle.ap_cli.proofs.project.has_too_large.Given as goal

abbrev pub invariant-loop-rest : goal.invariant-loop-rest
invariant-loop-rest l = HasTooLarge l.winners ↔ HasTooLarge l.rest

abbrev pub decreases-loop-rest : goal.decreases-loop-rest
decreases-loop-rest l = length l.rest
