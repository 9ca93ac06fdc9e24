use Rattle.std.proofs.Common.{◌<◌, ℕ, All, Contains}
use Rattle.ap_graph.specs.Visits.{IsWithin}
use Rattle.ap_graph.specs.declared.order.Visit.TheVariants.{Enter}
use Rattle.ap_graph.proofs.order.all_to_enter.Given as goal

abbrev pub invariant-loop-node : goal.invariant-loop-node
invariant-loop-node l = record {
  all : (v : ℕ) → v < l.node → Contains l.stack.items (Enter v);
  only : All (IsWithin l.count) l.stack.items;
}
