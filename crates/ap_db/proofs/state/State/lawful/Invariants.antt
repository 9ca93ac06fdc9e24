use Rattle.std.proofs.Common.{◌≤◌, ◌-◌, length, take}
use Rattle.ap_content.specs.Entries.{Stands}
use Rattle.ap_db.specs.Stored.{Stored}
use Rattle.ap_db.specs.States.{StandsFor}
use Rattle.ap_db.proofs.LawfulSteps.{SoFar}
use Rattle.ap_db.proofs.state.State.lawful.Given as goal

-- so far each item is lawful
abbrev pub invariant-loop-at : goal.invariant-loop-at
invariant-loop-at l = ((stored : Stored) → StandsFor l.self l.contents stored → SoFar (Stands l.contents) stored (take l.at l.items)) × (l.at ≤ length l.items)

abbrev pub decreases-loop-at : goal.decreases-loop-at
decreases-loop-at l = length l.items - l.at
