use Rattle.ap_content.specs.Laws.{holds_at-gained}
use Rattle.ap_content.proofs.tests.parent_of.Goals as goal

pub returns-clause-others : goal.returns-clause-others
returns-clause-others g c = holds_at-gained c.args.contents.now c.intern_node.new.self c.in_ok-intern_node.field-0 c.in_ok-node.node c.in_ok-intern_node.ensures.gains
