use Rattle.std.proofs.Common.{◌≡◌, false, take}
use Rattle.ap_graph.specs.Groups.{leads_into_lem}
use Rattle.ap_graph.proofs.cycles.leads_into.Given as goal

abbrev pub invariant-loop-target : goal.invariant-loop-target
invariant-loop-target l = leads_into_lem (take l.target-index l.targets) l.group l.own ≡ false
