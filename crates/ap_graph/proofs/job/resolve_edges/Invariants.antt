use Rattle.std.proofs.Common.{◌≡◌, ◌<◌, length, All, take}
use Rattle.ap_graph.specs.Held.{named}
use Rattle.ap_graph.proofs.job.resolve_edges.Given as goal

abbrev pub invariant-loop-edge : goal.invariant-loop-edge
invariant-loop-edge l = record {
  same : named l.ids l.placed.items ≡ take l.edge-index l.edges;
  within : All (λ edge. edge.1 < length l.ids) l.placed.items;
}
