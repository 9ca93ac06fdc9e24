use Rattle.ap_graph.specs.declared.node.Progress.TheVariants.{Settled}
use Rattle.ap_graph.proofs.Knowing.{known_after}
use Rattle.ap_graph.proofs.tests.settle.Goals as goal

pub returns-then-on_cycle : goal.returns-then-on_cycle
returns-then-on_cycle c = known_after c.args.nodes.now c.args.graph.now c.settle-then-on_cycle.new.self _ Settled c.settle-then-on_cycle.ensures c.requires

pub returns-in-Ready : goal.returns-in-Ready
returns-in-Ready c = known_after c.args.nodes.now c.args.graph.now c.settle.new.self _ Settled c.settle.ensures c.requires

pub returns-in-Issued : goal.returns-in-Issued
returns-in-Issued c = known_after c.args.nodes.now c.args.graph.now c.settle-in-Issued.new.self _ Settled c.settle-in-Issued.ensures c.requires
