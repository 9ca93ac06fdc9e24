use Rattle.std.proofs.Common.{◌≡◌, true, take, All}
use Rattle.ap_graph.specs.Nodes.{is_node}
use Rattle.ap_graph.proofs.tests.has_all.Given as goal

abbrev pub invariant-loop-edge : goal.invariant-loop-edge
invariant-loop-edge l = All (λ edge. is_node l.nodes edge.1 ≡ true) (take l.edge-index l.edges)
