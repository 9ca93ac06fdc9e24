use Rattle.std.proofs.Common.{◌≡◌, length, map, take}
use Rattle.ap_graph.specs.Held.{nodes_held, EdgesWithin}
use Rattle.ap_graph.proofs.job.resolve.Given as goal

abbrev pub invariant-loop-node : goal.invariant-loop-node
invariant-loop-node l = record {
  held : nodes_held l.ids (take l.node-index l.ids) l.jobs.items ≡ map (λ node. node.now) (take l.node-index l.nodes);
  places : length l.jobs.items ≡ l.node-index;
  within : EdgesWithin (length l.ids) l.jobs.items;
}
