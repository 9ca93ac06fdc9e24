use Rattle.std.proofs.Common.{List, length, fold, ◌≤◌}
use Rattle.ap_content.specs.Things.{Thing}
use Rattle.ap_content.specs.Entries.{Stands}
use Rattle.ap_db.specs.Stored.{Stored, and_thing}
use Rattle.ap_db.specs.Listed.{AreAll}
use Rattle.ap_db.specs.States.{StandsFor}
use Rattle.ap_db.specs.WellStored.{IsWellStored}
use Rattle.ap_db.specs.DefineLaws.{AreGrown}
use Rattle.ap_db.proofs.Undefining.{StillDefined}
use Rattle.ap_db.proofs.state.State.undefine_all.Given as goal

-- the rest is still defined
abbrev pub invariant-loop-rest : goal.invariant-loop-rest
invariant-loop-rest l = record {
  short : length l.rest ≤ length l.defined;
  still : (stored : Stored) (xs : List Thing) → IsWellStored stored → AreGrown stored xs → StandsFor l.fn.self l.contents (fold and_thing stored xs) → AreAll (Stands l.contents) l.fn.defined xs → StillDefined l.contents stored l.self l.rest;
}

abbrev pub decreases-loop-rest : goal.decreases-loop-rest
decreases-loop-rest l = length l.rest
