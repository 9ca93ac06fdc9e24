use Rattle.std.proofs.Common.{◌≡◌, ◌++◌, length, map}
use Rattle.ap_samples.specs.Creating.{job_by}
use Rattle.ap_samples.proofs.creating.jobs.Given as goal

abbrev pub invariant-loop-rest : goal.invariant-loop-rest
invariant-loop-rest l = l.jobs.items ++ map (job_by l.builder l.input l.directives) l.rest ≡ map (job_by l.builder l.input l.directives) l.input.platforms

abbrev pub decreases-loop-rest : goal.decreases-loop-rest
decreases-loop-rest l = length l.rest
