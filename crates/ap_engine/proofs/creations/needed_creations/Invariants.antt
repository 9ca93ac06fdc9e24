use Rattle.std.proofs.Common.{◌≡◌, List, length}
use Rattle.std.specs.List.{AllByRecursion}
use Rattle.ap_scan.specs.declared.results.Winner.{Winner}
use Rattle.ap_builder.specs.Meanings.{Meanings}
use Rattle.ap_db.specs.Stored.{Stored}
use Rattle.ap_sources.specs.Sources.{sources}
use Rattle.ap_engine.specs.Worlds.{AreQuiet}
use Rattle.ap_engine.specs.Ledgers.{IsBeside, StayHeld}
use Rattle.ap_engine.specs.Interned.{AreSourcesOf}
use Rattle.ap_engine.specs.Asked.{HasHeldBytes}
use Rattle.ap_engine.proofs.NeededSources.{AreFound}
use Rattle.ap_engine.proofs.creations.needed_creations.Given as goal

abbrev pub invariant-loop-rest : goal.invariant-loop-rest
invariant-loop-rest l = record {
  held : AllByRecursion (HasHeldBytes l.ledger.db l.ledger.contents) l.rest;
  beside : (stored : Stored) → IsBeside l.fn.ledger.db l.fn.ledger.contents stored → IsBeside l.ledger.db l.ledger.contents stored;
  stay : (stored : Stored) → IsBeside l.fn.ledger.db l.fn.ledger.contents stored → StayHeld l.fn.ledger.db l.fn.ledger.contents l.ledger.db l.ledger.contents;
  db : l.ledger.db ≡ l.fn.ledger.db;
  found : (stored : Stored) → IsBeside l.fn.ledger.db l.fn.ledger.contents stored → (builders : Meanings) (winners : List Winner) → AreQuiet builders l.config winners → AreSourcesOf l.fn.ledger.db l.fn.ledger.contents l.all (sources l.config winners)
      → AreFound builders l.config winners stored.tables l.ledger.db l.ledger.contents l.rest l.needed.items;
}

abbrev pub decreases-loop-rest : goal.decreases-loop-rest
decreases-loop-rest l = length l.rest
