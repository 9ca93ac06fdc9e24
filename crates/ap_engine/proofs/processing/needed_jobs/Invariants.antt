use Rattle.std.proofs.Common.{◌≡◌, List, length}
use Rattle.ap_db.specs.Listed.{AreAll}
use Rattle.ap_db.specs.Stored.{Stored}
use Rattle.ap_rows.specs.Inputs.{MadeFrom}
use Rattle.ap_engine.specs.Ledgers.{IsBeside, StayHeld}
use Rattle.ap_engine.specs.NeededJobs.{IsJobOf}
use Rattle.ap_engine.proofs.NeededJobFacts.{AreSoFar}
use Rattle.ap_engine.proofs.processing.needed_jobs.Given as goal

-- the jobs are those before the ones that are left
abbrev pub invariant-loop-rest : goal.invariant-loop-rest
invariant-loop-rest l = record {
  beside : (stored : Stored) → IsBeside l.fn.ledger.db l.fn.ledger.contents stored → IsBeside l.ledger.db l.ledger.contents stored;
  stay : (stored : Stored) → IsBeside l.fn.ledger.db l.fn.ledger.contents stored → StayHeld l.fn.ledger.db l.fn.ledger.contents l.ledger.db l.ledger.contents;
  db : l.ledger.db ≡ l.fn.ledger.db;
  needed : (stored : Stored) → IsBeside l.fn.ledger.db l.fn.ledger.contents stored → (froms : List MadeFrom) → AreAll (IsJobOf l.fn.ledger.db l.fn.ledger.contents) l.jobs froms
      → AreSoFar l.fn.ledger.db l.fn.ledger.contents l.ledger.db l.ledger.contents stored.tables froms l.needed.items l.rest;
}

abbrev pub decreases-loop-rest : goal.decreases-loop-rest
decreases-loop-rest l = length l.rest
