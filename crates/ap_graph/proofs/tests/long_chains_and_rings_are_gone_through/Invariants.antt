use Rattle.std.proofs.Common.{◌≡◌, true}
use Rattle.std.specs.List.{AllByRecursion}
use Rattle.ap_graph.specs.Jobs.{is_job}
use Rattle.ap_graph.proofs.tests.long_chains_and_rings_are_gone_through.Given as goal

abbrev pub invariant-loop-at : goal.invariant-loop-at
invariant-loop-at g l = AllByRecursion (λ node. is_job l.graph node.id ≡ true) l.nodes.items
