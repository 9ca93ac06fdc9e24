use Rattle.std.proofs.Common.{rules}
use Rattle.std.proofs.lemmas.Fn.{always_returns_same}
use Rattle.ap_text.specs.JobOrder.{job_cmp}
use Rattle.ap_graph.proofs.Knowing.{found_is_node}
use Rattle.ap_graph.proofs.tests.has.Goals as goal

pub returns : goal.returns
returns c = λ h. found_is_node c.args.nodes.now c.args.id.now c.binary_search_by.result
    (c.binary_search_by.ensures.position (λ node. job_cmp node.id c.args.id.now) (always_returns_same _ _ _ (λ a r q k. search rules))) c.binary_search_by.ensures.bound (search rules)
