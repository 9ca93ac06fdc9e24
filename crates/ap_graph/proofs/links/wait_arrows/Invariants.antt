use Rattle.std.proofs.Common.{◌≡◌, take}
use Rattle.ap_graph.specs.Held.{all_waits}
use Rattle.ap_graph.proofs.links.wait_arrows.Given as goal

abbrev pub invariant-loop-job : goal.invariant-loop-job
invariant-loop-job l = l.arrows ≡ all_waits (take l.job-index l.jobs)
