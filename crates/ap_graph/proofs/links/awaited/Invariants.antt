use Rattle.std.proofs.Common.{◌≡◌, take}
use Rattle.ap_graph.specs.Held.{waits_in}
use Rattle.ap_graph.proofs.links.awaited.Given as goal

abbrev pub invariant-loop-edge : goal.invariant-loop-edge
invariant-loop-edge l = l.awaited.items ≡ waits_in l.processed (take l.edge-index l.edges)
