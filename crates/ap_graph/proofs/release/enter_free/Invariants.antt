use Rattle.ap_graph.proofs.Releasing.{Entering}
use Rattle.ap_graph.proofs.release.enter_free.Given as goal

abbrev pub invariant-loop-place : goal.invariant-loop-place
invariant-loop-place l = Entering l.progress l.waiting l.place l.fn.ready l.ready
