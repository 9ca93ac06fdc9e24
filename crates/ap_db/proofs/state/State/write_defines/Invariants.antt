use Rattle.std.proofs.Common.{List, length}
use Rattle.ap_content.specs.Things.{Thing}
use Rattle.ap_content.specs.Entries.{Stands}
use Rattle.ap_db.specs.Stored.{Live, Stored}
use Rattle.ap_db.specs.Listed.{AreAll}
use Rattle.ap_db.specs.States.{StandsFor}
use Rattle.ap_db.specs.DefineLaws.{AreNumbered}
use Rattle.ap_db.proofs.WritingDefines.{AreWritten}
use Rattle.ap_db.proofs.state.State.write_defines.Given as goal

-- the Defines of those before the rest are written
abbrev pub invariant-loop-rest : goal.invariant-loop-rest
invariant-loop-rest l = (numbers : List Live) (stored : Stored) (xs : List Thing) → StandsFor l.self l.contents stored → AreNumbered numbers stored → AreAll (Stands l.contents) l.defined xs
    → AreWritten l.contents numbers xs l.fn.written.items l.written.items l.rest

abbrev pub decreases-loop-rest : goal.decreases-loop-rest
decreases-loop-rest l = length l.rest
