use Rattle.std.proofs.Common.{◌≡◌, true, take, All}
use Rattle.std.specs.List.{AllByRecursion}
use Rattle.ap_graph.specs.Nodes.{is_node}
use Rattle.ap_graph.proofs.tests.is_resolved.Given as goal

abbrev pub invariant-loop-node : goal.invariant-loop-node
invariant-loop-node l = All (λ node. AllByRecursion (λ edge. is_node l.nodes edge.1 ≡ true) node.edges) (take l.node-index l.nodes)
