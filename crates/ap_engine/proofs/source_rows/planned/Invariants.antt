use Rattle.std.proofs.Common.{◌+◌, List, length}
use Rattle.ap_scan.specs.declared.results.Winner.{Winner}
use Rattle.ap_db.specs.Stored.{Stored}
use Rattle.ap_engine.specs.Interned.{AreSourcesOf}
use Rattle.ap_engine.specs.Ledgers.{IsBeside}
use Rattle.ap_engine.specs.SourceSteps.{AreRead, changes_among, ArePlanned}
use Rattle.ap_engine.proofs.source_rows.planned.Given as goal

abbrev pub invariant-loop-left : goal.invariant-loop-left
invariant-loop-left l = (stored : Stored) → IsBeside l.ledger.db l.ledger.contents stored → (winners : List Winner) → AreRead winners → AreSourcesOf l.ledger.db l.ledger.contents l.all winners
    → ArePlanned l.ledger.db l.ledger.contents l.left.rows.now l.left.sources.now l.steps.items (changes_among winners stored.tables.sources)

abbrev pub decreases-loop-left : goal.decreases-loop-left
decreases-loop-left l = length l.left.rows.now + length l.left.sources.now
