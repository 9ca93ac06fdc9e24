use Rattle.std.proofs.Common.{take}
use Rattle.ap_graph.specs.Rows.{AddsBack}
use Rattle.ap_graph.proofs.reverse.add_back.Given as goal

abbrev pub invariant-loop-target : goal.invariant-loop-target
invariant-loop-target l = AddsBack l.fn.back l.back l.from (take l.target-index l.targets)
