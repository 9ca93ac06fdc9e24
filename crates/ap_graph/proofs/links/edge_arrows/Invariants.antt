use Rattle.std.proofs.Common.{◌≡◌, take}
use Rattle.ap_graph.specs.Held.{all_targets}
use Rattle.ap_graph.proofs.links.edge_arrows.Given as goal

abbrev pub invariant-loop-job : goal.invariant-loop-job
invariant-loop-job l = l.arrows ≡ all_targets (take l.job-index l.jobs)
