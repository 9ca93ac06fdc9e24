use Rattle.std.proofs.Common.{◌≡◌, length}
use Rattle.ap_content.specs.declared.node.Number.{Number}
use Rattle.ap_db.specs.States.{file_thing}
use Rattle.ap_db.specs.Naming.{lowered, times_of}
use Rattle.ap_db.proofs.things.lower_all.Given as goal

-- what is still to be counted is what all the numbers come to
abbrev pub invariant-loop-rest : goal.invariant-loop-rest
invariant-loop-rest l =
    ((k : Number) → lowered (times_of l.rest k) (file_thing l.things k) ≡ lowered (times_of l.kids k) (file_thing l.initial.things k))
    × (length l.things ≡ length l.initial.things)

abbrev pub decreases-loop-rest : goal.decreases-loop-rest
decreases-loop-rest l = length l.rest
