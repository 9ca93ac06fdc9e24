use Rattle.std.proofs.Common.{◌≡◌, true}
use Rattle.std.specs.List.{AllByRecursion}
use Rattle.ap_graph.specs.Jobs.{is_job}
use Rattle.ap_graph.proofs.tests.goes_on.Given as goal

abbrev pub invariant-loop : goal.invariant-loop
invariant-loop l = AllByRecursion (λ node. is_job l.graph node.id ≡ true) l.nodes
