use Rattle.std.proofs.Common.{◌≡◌, take}
use Rattle.ap_graph.specs.Held.{targets_in}
use Rattle.ap_graph.proofs.links.targets.Given as goal

abbrev pub invariant-loop-edge : goal.invariant-loop-edge
invariant-loop-edge l = l.targets.items ≡ targets_in (take l.edge-index l.edges)
