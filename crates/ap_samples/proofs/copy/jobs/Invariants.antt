use Rattle.std.proofs.Common.{◌≡◌, ◌++◌, length, map}
use Rattle.ap_samples.specs.Copying.{copy_job}
use Rattle.ap_samples.proofs.copy.jobs.Given as goal

abbrev pub invariant-loop-rest : goal.invariant-loop-rest
invariant-loop-rest l = l.jobs.items ++ map (copy_job l.builder l.input) l.rest ≡ map (copy_job l.builder l.input) l.input.platforms

abbrev pub decreases-loop-rest : goal.decreases-loop-rest
decreases-loop-rest l = length l.rest
