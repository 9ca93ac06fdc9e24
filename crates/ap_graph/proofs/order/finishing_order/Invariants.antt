use Rattle.std.proofs.Common.{length}
use Rattle.ap_graph.proofs.Ordering.{Walking, weight}
use Rattle.ap_graph.proofs.order.finishing_order.Given as goal

abbrev pub invariant-loop-visit : goal.invariant-loop-visit
invariant-loop-visit l = Walking (length l.arrows) l.seen.items l.stack.items l.order.items

abbrev pub decreases-loop-visit : goal.decreases-loop-visit
decreases-loop-visit l = weight l.arrows l.seen.items l.stack.items
