use Rattle.std.proofs.Common.{◌≡◌, List, Bor, All, length, map, replicate, sym, ◌∙◌, ap, subst}
use Rattle.std.specs.List.Sorted.{IsStrictlySortedBy}
use Rattle.std.proofs.lemmas.Result.{IfOk-weaker}
use Rattle.ap_text.specs.declared.job_id.JobId.{JobId}
use Rattle.ap_graph.specs.declared.node.JobNode.{JobNode}
use Rattle.ap_text.specs.JobOrder.{job_cmp}
use Rattle.ap_graph.specs.Places.{HavePlaces}
use Rattle.ap_graph.specs.Jobs.{GraphJob, AreNew}
use Rattle.ap_graph.specs.declared.node.Progress.TheVariants.{Pending}
use Rattle.ap_graph.specs.Held.{nodes_held, marked}
use Rattle.ap_graph.proofs.Graphs.{graph_is_new, ids_rise, edges_resolved}
use Rattle.ap_graph.proofs.graph.Graph.new.Goals as goal

pub resolve-requires-clause-rises : goal.resolve-requires-clause-rises
resolve-requires-clause-rises c =
    let are : c.in_ok-ids.ids.items ≡ map (λ node. node.now.id) c.in_ok-sorted.sorted.items = c.in_ok-ids.ensures ∙ ap (map (λ (node : Bor JobNode). node.now.id)) c.deref.ensures.value in
    subst (λ (l : List JobId). IsStrictlySortedBy job_cmp l) (sym c.deref-2.ensures.value) (ids_rise c.args.nodes.now c.in_ok-sorted.sorted.items c.in_ok-ids.ids.items are c.in_ok-sorted.ensures)

pub resolve-requires-clause-resolved : goal.resolve-requires-clause-resolved
resolve-requires-clause-resolved c =
    let are : c.in_ok-ids.ids.items ≡ map (λ node. node.now.id) c.in_ok-sorted.sorted.items = c.in_ok-ids.ensures ∙ ap (map (λ (node : Bor JobNode). node.now.id)) c.deref.ensures.value in
    subst (λ (l : List JobId). All (λ node. HavePlaces l node.now.edges) c.deref-3.result.now) (sym c.deref-2.ensures.value)
    (subst (λ (s : List (Bor JobNode)). All (λ node. HavePlaces c.in_ok-ids.ids.items node.now.edges) s) (sym c.deref-3.ensures.value)
    (edges_resolved c.args.nodes.now c.in_ok-sorted.sorted.items c.in_ok-ids.ids.items c.requires.resolved are c.in_ok-sorted.ensures))

pub of-requires-clause-rises : goal.of-requires-clause-rises
of-requires-clause-rises c =
    let are : c.in_ok-ids.ids.items ≡ map (λ node. node.now.id) c.in_ok-sorted.sorted.items = c.in_ok-ids.ensures ∙ ap (map (λ (node : Bor JobNode). node.now.id)) c.deref.ensures.value in
    ids_rise c.args.nodes.now c.in_ok-sorted.sorted.items c.in_ok-ids.ids.items are c.in_ok-sorted.ensures

pub returns : goal.returns
returns c =
    let ids = c.in_ok-ids.ids.items in
    let jobs = c.in_ok-jobs.jobs.items in
    let held : nodes_held c.in_ok-ids.ids.items c.in_ok-ids.ids.items c.in_ok-jobs.jobs.items ≡ map (λ node. node.now) c.in_ok-sorted.sorted.items =
    ap (λ (l : List JobId). nodes_held l l c.in_ok-jobs.jobs.items) (sym c.deref-2.ensures.value) ∙ c.in_ok-jobs.ensures.nodes ∙ ap (map (λ (node : Bor JobNode). node.now)) c.deref-3.ensures.value in
    let places : length c.in_ok-jobs.jobs.items ≡ length c.in_ok-ids.ids.items = c.in_ok-jobs.ensures.places ∙ ap length c.deref-2.ensures.value in
    IfOk-weaker c.of.result (λ graph. graph ≡ marked (nodes_held ids ids jobs) (replicate (length jobs) Pending)) (λ graph. AreNew c.args.nodes.now graph)
    (λ graph is. subst (λ (v : List GraphJob). AreNew c.args.nodes.now v) (sym is)
    (graph_is_new c.args.nodes.now (map (λ node. node.now) c.in_ok-sorted.sorted.items) ids jobs places held c.in_ok-sorted.ensures))
    c.of.ensures
