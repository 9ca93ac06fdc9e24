use Rattle.ap_graph.proofs.RowFacts.{targets_within}
use Rattle.ap_graph.proofs.cycles.inside.Goals as goal

pub leads_into-requires : goal.leads_into-requires
leads_into-requires c = targets_within _ c.loop-node.node c.row.result.now _ c.requires.closed c.row.ensures c.requires.places
