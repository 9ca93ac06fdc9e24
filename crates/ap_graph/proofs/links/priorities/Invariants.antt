use Rattle.std.proofs.Common.{◌≡◌, map, take}
use Rattle.ap_graph.proofs.links.priorities.Given as goal

abbrev pub invariant-loop-job : goal.invariant-loop-job
invariant-loop-job l = l.priorities.items ≡ map (λ job. job.priority) (take l.job-index l.jobs)
