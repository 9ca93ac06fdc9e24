use Rattle.std.proofs.Common.{◌≡◌, map, take}
use Rattle.ap_graph.proofs.job.copy_ids.Given as goal

abbrev pub invariant-loop-node : goal.invariant-loop-node
invariant-loop-node l = l.ids.items ≡ map (λ node. node.now.id) (take l.node-index l.nodes)
