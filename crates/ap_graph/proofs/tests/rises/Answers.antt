use Rattle.std.proofs.Common.{arith}
use Rattle.ap_graph.proofs.Knowing.{adjacent_rises}
use Rattle.ap_graph.proofs.tests.rises.Goals as goal

pub returns : goal.returns
returns c = λ _. adjacent_rises c.args.nodes.now (λ k d within. c.loop-at.invariant k d (omega arith))
