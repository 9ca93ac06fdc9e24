use Rattle.std.proofs.Common.{◌≡◌, ◌≤◌, ◌+◌, length}
use Rattle.ap_db.specs.Listed.{total}
use Rattle.ap_db.specs.Putting.{puts_job_row}
use Rattle.ap_db.proofs.putting.count_jobs.Given as goal

-- the count so far and that of what is left come to all, and are no more than the items
abbrev pub invariant-loop-rest : goal.invariant-loop-rest
invariant-loop-rest l = (l.count + total puts_job_row l.rest ≡ total puts_job_row l.items) × (l.count + length l.rest ≤ length l.items)

abbrev pub decreases-loop-rest : goal.decreases-loop-rest
decreases-loop-rest l = length l.rest
