use Rattle.std.proofs.Common.{◌≡◌, ◌<◌, ℕ, false, length, get_or}
use Rattle.ap_graph.specs.Rows.{row_at}
use Rattle.ap_graph.specs.Groups.{leads_into_lem}
use Rattle.ap_graph.proofs.cycles.inside.Given as goal

abbrev pub invariant-loop-node : goal.invariant-loop-node
invariant-loop-node l = record {
  places : length l.inside.items ≡ l.node;
  each : (v : ℕ) → v < l.node → get_or l.inside.items v false ≡ leads_into_lem (row_at l.arrows v) l.group (get_or l.group v 0);
}
