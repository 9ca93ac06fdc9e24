use Rattle.std.proofs.Common.{◌≡◌, map, take}
use Rattle.ap_graph.proofs.job.by_id.Given as goal

abbrev pub invariant-loop-node : goal.invariant-loop-node
invariant-loop-node l = map (λ node. node.now) l.sorted.items ≡ take l.node-index l.nodes
