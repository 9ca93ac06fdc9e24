use Rattle.ap_graph.proofs.RowFacts.{added}
use Rattle.ap_graph.proofs.arrows.Arrows.add.Goals as goal

pub returns : goal.returns
returns c = added c.self.inside.rows.items c.args.self.now c.args.from c.args.to c.index_mut.result.now c.push.new.self
    c.self.view_is c.requires c.index_mut.ensures.value c.in_ok-push.ensures.items
