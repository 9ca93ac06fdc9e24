use Rattle.std.proofs.Common.{◌≡◌, length}
use Rattle.ap_db.specs.Lookup.{job_left, left_after}
use Rattle.ap_db.proofs.lawful.job_after.Given as goal

-- what the items left come to is what all come to
abbrev pub invariant-loop-rest : goal.invariant-loop-rest
invariant-loop-rest l = left_after job_left l.rest l.id l.there ≡ left_after job_left l.items l.id l.first

abbrev pub decreases-loop-rest : goal.decreases-loop-rest
decreases-loop-rest l = length l.rest
