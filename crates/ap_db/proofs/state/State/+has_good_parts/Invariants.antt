use Rattle.std.proofs.Common.{◌≡◌, ℕ, ◌+◌, List, length}
use Rattle.ap_content.specs.Things.{Thing}
use Rattle.ap_content.specs.Entries.{Stands}
use Rattle.ap_db.specs.Stored.{Stored}
use Rattle.ap_db.specs.States.{StandsFor}
use Rattle.ap_db.specs.NewThings.{size}
use Rattle.ap_db.specs.GoodParts.{IsDescent, KidsLeft}
use Rattle.ap_db.proofs.state.State.+has_good_parts.Given as goal

abbrev pub decreases-has_good_parts : goal.decreases-has_good_parts
decreases-has_good_parts l = l.depth

-- the kids before these have good parts
abbrev pub invariant-loop-rest : goal.invariant-loop-rest
invariant-loop-rest l = (stored : Stored) (x : Thing) (above : List ℕ) → StandsFor l.self l.contents stored → Stands l.contents (record { 0 = l.fn.n }) x → IsDescent l.contents (size x) above
    → length above + l.depth ≡ 18446744073709551616 → KidsLeft stored l.contents x l.rest

abbrev pub decreases-loop-rest : goal.decreases-loop-rest
decreases-loop-rest l = length l.rest
