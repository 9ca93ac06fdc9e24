use Rattle.std.proofs.Common.{◌≡◌, length}
use Rattle.ap_engine.specs.Removals.{is_job_of}
use Rattle.ap_engine.proofs.jobs_of.has_job.Given as goal

-- those left have it where all do
abbrev pub invariant-loop-rest : goal.invariant-loop-rest
invariant-loop-rest l = is_job_of l.rest l.id ≡ is_job_of l.jobs l.id

abbrev pub decreases-loop-rest : goal.decreases-loop-rest
decreases-loop-rest l = length l.rest
