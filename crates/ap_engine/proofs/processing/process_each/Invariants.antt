use Rattle.std.proofs.Common.{List, length}
use Rattle.ap_rows.specs.Inputs.{MadeFrom}
use Rattle.ap_db.specs.Listed.{AreAll}
use Rattle.ap_db.specs.Stored.{Stored}
use Rattle.ap_engine.specs.Ledgers.{IsReady}
use Rattle.ap_engine.specs.NeededJobs.{IsNeededJob}
use Rattle.ap_engine.proofs.ProcessSteps.{AreProcessed}
use Rattle.ap_engine.proofs.processing.process_each.Given as goal

-- the jobs before those that are left are asked for and recorded
abbrev pub invariant-loop-rest : goal.invariant-loop-rest
invariant-loop-rest g l = (stored : Stored) → IsReady g.D.Disk.seen g.D.Disk.may_leave g.D.Disk.room l.fn.ledger.db l.fn.ledger.contents l.fn.store stored
    → (froms : List MadeFrom) → AreAll (IsNeededJob l.fn.ledger.db l.fn.ledger.contents) l.needed froms
    → AreProcessed g.D.Disk.seen g.D.Disk.may_leave g.D.Disk.clock g.D.Disk.left_at g.D.Disk.room g.D.Disk.faults g.B.Builders.makes l.fn.ledger.db l.fn.ledger.contents l.fn.store l.fn.bench stored froms
    l.ledger.db l.ledger.contents l.store l.bench l.rest

abbrev pub decreases-loop-rest : goal.decreases-loop-rest
decreases-loop-rest g l = length l.rest
