use Rattle.ap_graph.proofs.RowFacts.{ReversesFirst}
use Rattle.ap_graph.proofs.reverse.reverse.Given as goal

abbrev pub invariant-loop-from : goal.invariant-loop-from
invariant-loop-from l = ReversesFirst l.arrows l.back l.from
