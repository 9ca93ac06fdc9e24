use Rattle.std.proofs.Common.{◌≡◌, length}
use Rattle.ap_db.specs.Lookup.{create_left, left_after}
use Rattle.ap_db.proofs.lawful.create_after.Given as goal

-- what the items left come to is what all come to
abbrev pub invariant-loop-rest : goal.invariant-loop-rest
invariant-loop-rest l = left_after create_left l.rest l.source l.there ≡ left_after create_left l.items l.source l.first

abbrev pub decreases-loop-rest : goal.decreases-loop-rest
decreases-loop-rest l = length l.rest
