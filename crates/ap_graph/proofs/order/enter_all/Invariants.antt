use Rattle.std.proofs.Common.{◌≡◌, ◌++◌, map, take}
use Rattle.ap_graph.specs.declared.order.Visit.TheVariants.{Enter}
use Rattle.ap_graph.proofs.order.enter_all.Given as goal

abbrev pub invariant-loop-target : goal.invariant-loop-target
invariant-loop-target l = l.stack.items ≡ l.fn.stack.items ++ map Enter (take l.target-index l.targets)
