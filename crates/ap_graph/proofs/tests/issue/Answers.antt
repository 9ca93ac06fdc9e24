use Rattle.ap_graph.specs.declared.node.Progress.TheVariants.{Issued}
use Rattle.ap_graph.proofs.Knowing.{known_after}
use Rattle.ap_graph.proofs.tests.issue.Goals as goal

pub returns-in-Ready : goal.returns-in-Ready
returns-in-Ready c = known_after c.args.nodes.now c.args.graph.now c.issue.new.self _ Issued c.issue.ensures c.requires
