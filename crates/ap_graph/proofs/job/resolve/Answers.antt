use Rattle.std.proofs.Common.{◌≡◌, ◌∷◌, ◌++◌, [], length, ◌∙◌, refl, arith, rules}
use Rattle.ap_graph.specs.declared.job.Job.{Job}
use Rattle.ap_graph.proofs.Holding.{resolved_more, node_path, edges_pushed}
use Rattle.ap_graph.proofs.job.resolve.Goals as goal

pub loop-node-preserved : goal.loop-node-preserved
loop-node-preserved c =
    let node = c.node-item.result in
    let ids = c.args.ids.now in
    let inv = c.loop-node.invariant in
    let edges = c.in_ok-resolve_edges.ensures.named ∙ c.as_slice.ensures in
    let kept : Job = record { priority = node.now.priority; edges = c.in_ok-resolve_edges.field-0; processed = node.now.processed } in
    let pushed : c.push.new.self.items ≡ c.loop-node.jobs.items ++ kept ∷ [] = search rules in
    record {
      held = resolved_more ids c.args.nodes.now c.loop-node.node-index node c.loop-node.jobs.items c.push.new.self.items kept c.requires.ids (omega arith) c.node-item.is
          pushed (node_path ids node.now kept refl refl edges) inv.places inv.held;
      places = omega (arith, c.in_ok-push.ensures.len, inv.places);
      within = edges_pushed (length ids) c.loop-node.jobs.items c.push.new.self.items kept pushed inv.within c.in_ok-resolve_edges.ensures.within;
    }
