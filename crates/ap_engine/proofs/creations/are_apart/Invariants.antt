use Rattle.std.proofs.Common.{◌≡◌, length}
use Rattle.ap_engine.specs.Asked.{all_apart}
use Rattle.ap_engine.proofs.creations.are_apart.Given as goal

abbrev pub invariant-loop-rest : goal.invariant-loop-rest
invariant-loop-rest l = all_apart l.rest ≡ all_apart l.jobs

abbrev pub decreases-loop-rest : goal.decreases-loop-rest
decreases-loop-rest l = length l.rest
