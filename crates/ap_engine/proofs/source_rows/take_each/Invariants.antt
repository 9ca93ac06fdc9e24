use Rattle.std.proofs.Common.{List, length}
use Rattle.ap_db.specs.Changes.{Whole}
use Rattle.ap_db.specs.Stored.{Stored}
use Rattle.ap_engine.specs.Ledgers.{IsReady}
use Rattle.ap_engine.specs.SourceSteps.{AreStepsFor, AreThere}
use Rattle.ap_engine.proofs.StepsTaken.{AreTaken}
use Rattle.ap_engine.proofs.source_rows.take_each.Given as goal

abbrev pub invariant-loop-rest : goal.invariant-loop-rest
invariant-loop-rest g l = (stored : Stored) → IsReady g.D.Disk.seen g.D.Disk.may_leave g.D.Disk.room l.fn.ledger.db l.fn.ledger.contents l.fn.store stored
    → (changes : List Whole) → AreStepsFor l.fn.ledger.db l.fn.ledger.contents l.steps changes → AreThere stored.tables changes
    → AreTaken g.D.Disk.seen g.D.Disk.may_leave g.D.Disk.clock g.D.Disk.left_at g.D.Disk.room g.D.Disk.faults l.fn.ledger.db l.fn.ledger.contents l.ledger.db l.ledger.contents l.fn.store l.store stored changes l.rest

abbrev pub decreases-loop-rest : goal.decreases-loop-rest
decreases-loop-rest g l = length l.rest
