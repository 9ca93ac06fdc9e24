use Rattle.std.proofs.Common.{◌≡◌, ◌≤◌, ◌+◌, ◌*◌, [], length, drop}
use Rattle.ap_graph.specs.Rows.{row_at, count_of}
use Rattle.ap_graph.proofs.Searching.{Searching, Looking}
use Rattle.ap_graph.proofs.search.move_reached.Given as goal

abbrev pub invariant-loop-node : goal.invariant-loop-node
invariant-loop-node l = Searching l.arrows l.start l.to l.fn.group l.group l.stack.items l.start []

abbrev pub decreases-loop-node : goal.decreases-loop-node
decreases-loop-node l = 2 * count_of l.from l.group + length l.stack.items

abbrev pub invariant-loop-target : goal.invariant-loop-target
invariant-loop-target l = record {
  looking : Looking l.arrows l.start l.to l.fn.group l.group l.stack.items l.node (drop l.target-index (row_at l.arrows l.node));
  weight : count_of l.from l.group + length l.stack.items ≡ count_of l.from l.initial.group + length l.initial.stack.items;
  grows : length l.initial.stack.items ≤ length l.stack.items;
}
