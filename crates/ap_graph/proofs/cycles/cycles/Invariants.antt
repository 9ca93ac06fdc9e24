use Rattle.std.proofs.Common.{length}
use Rattle.ap_graph.proofs.Parting.{Rooting}
use Rattle.ap_graph.proofs.cycles.cycles.Given as goal

abbrev pub invariant-loop-root : goal.invariant-loop-root
invariant-loop-root l = Rooting l.arrows l.group.items l.whole.items l.order.items

abbrev pub decreases-loop-root : goal.decreases-loop-root
decreases-loop-root l = length l.order.items
