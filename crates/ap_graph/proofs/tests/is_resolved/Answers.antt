use Rattle.std.proofs.Common.{◌≡◌, true, List, All, subst, arith}
use Rattle.std.specs.List.{AllByRecursion}
use Rattle.std.proofs.lemmas.List.{take_all}
use Rattle.std.proofs.lemmas.List.Elements.{recursion_from_All, All-more}
use Rattle.ap_text.specs.declared.job_id.JobId.{JobId}
use Rattle.ap_graph.specs.declared.node.JobNode.{JobNode}
use Rattle.ap_graph.specs.Waits.{Kind}
use Rattle.ap_graph.specs.Nodes.{is_node}
use Rattle.ap_graph.proofs.tests.is_resolved.Goals as goal

pub loop-node-preserved : goal.loop-node-preserved
loop-node-preserved c =
    All-more (λ (node : JobNode). AllByRecursion (λ edge. is_node c.args.nodes.now edge.1 ≡ true) node.edges) c.args.nodes.now c.loop-node.node-index c.node-item.result (omega arith) c.loop-node.invariant
    (subst (λ (node : JobNode). AllByRecursion (λ edge. is_node c.args.nodes.now edge.1 ≡ true) node.edges) c.node-item.is
    (subst (λ (l : List (Kind × JobId)). AllByRecursion (λ edge. is_node c.args.nodes.now edge.1 ≡ true) l) c.as_slice.ensures (c.has_all.ensures c.if-not-has_all.false)))

pub returns : goal.returns
returns c = λ _. recursion_from_All (λ (node : JobNode). AllByRecursion (λ edge. is_node c.args.nodes.now edge.1 ≡ true) node.edges) c.args.nodes.now
    (subst (λ (l : List JobNode). All (λ node. AllByRecursion (λ edge. is_node c.args.nodes.now edge.1 ≡ true) node.edges) l) (take_all c.loop-node.node-index c.args.nodes.now (omega arith)) c.loop-node.invariant)
