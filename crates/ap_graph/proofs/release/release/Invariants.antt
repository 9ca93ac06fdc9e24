use Rattle.std.proofs.Common.{take}
use Rattle.ap_graph.proofs.Releasing.{Released}
use Rattle.ap_graph.proofs.release.release.Given as goal

abbrev pub invariant-loop-place : goal.invariant-loop-place
invariant-loop-place l = Released l.progress (take l.place-index l.dependents) l.fn.waiting l.waiting l.fn.ready l.ready
