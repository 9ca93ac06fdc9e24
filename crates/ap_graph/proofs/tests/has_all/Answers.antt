use Rattle.std.proofs.Common.{◌≡◌, true, List, All, subst, arith}
use Rattle.std.proofs.lemmas.List.{take_all}
use Rattle.std.proofs.lemmas.List.Elements.{recursion_from_All}
use Rattle.ap_text.specs.declared.job_id.JobId.{JobId}
use Rattle.ap_graph.specs.Waits.{Kind}
use Rattle.ap_graph.specs.Nodes.{is_node}
use Rattle.ap_graph.proofs.tests.has_all.Goals as goal

pub returns : goal.returns
returns c = λ _. recursion_from_All (λ (edge : Kind × JobId). is_node c.args.nodes.now edge.1 ≡ true) c.args.edges.now
    (subst (λ (l : List (Kind × JobId)). All (λ edge. is_node c.args.nodes.now edge.1 ≡ true) l) (take_all c.loop-edge.edge-index c.args.edges.now (omega arith)) c.loop-edge.invariant)
