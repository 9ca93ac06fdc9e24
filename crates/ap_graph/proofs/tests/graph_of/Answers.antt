use Rattle.ap_graph.proofs.Knowing.{rises_distinct, new_known}
use Rattle.ap_graph.proofs.tests.graph_of.Goals as goal

pub new-requires-clause-distinct : goal.new-requires-clause-distinct
new-requires-clause-distinct c = rises_distinct c.args.nodes.now (c.rises.ensures c.if-not-rises.false)

pub returns-in-Ok : goal.returns-in-Ok
returns-in-Ok c = new_known c.args.nodes.now c.in-Ok.graph c.in-Ok.ensures
