use Rattle.std.proofs.Common.{◌<◌, ℕ, List, length, Vec, Global, sym, ◌∙◌, ap, arith}
use Rattle.ap_graph.proofs.Holding.{waited_more, waited_same, edge_in, edge_read}
use Rattle.ap_graph.proofs.links.awaited.Goals as goal
use Rattle.ap_graph.proofs.links.awaited.Goals.{then-waits+in_ok-push, else-waits}

pub loop-edge-preserved : goal.loop-edge-preserved
loop-edge-preserved c =
    let edges = c.args.edges.now in
    let i = c.loop-edge.edge-index in
    let within : i < length edges = omega arith in
    let items : Vec ℕ Global → List ℕ = λ v. v.items in
    elim c.if-waits.branch [
      | then-waits+in_ok-push w ↦ waited_more c.args.processed edges i (edge_in edges i) c.loop-edge.awaited.items c.if-waits.awaited.items within (edge_read edges i within) (sym c.waits.ensures ∙ w.if-waits.true)
          (ap items w.awaited-is ∙ w.in_ok-push.ensures.items) c.loop-edge.invariant
      | else-waits w ↦ ap items w.awaited-is ∙ waited_same c.args.processed edges i (edge_in edges i) c.loop-edge.awaited.items within (edge_read edges i within) (sym c.waits.ensures ∙ w.if-waits.false) c.loop-edge.invariant
    ]
