use Rattle.std.proofs.Common.{◌≡◌, Contains}
use Rattle.std.specs.Vec.Iter.{into_iter_items}
use Rattle.ap_scan.specs.declared.results.Winner.{Winner}
use Rattle.ap_db.specs.Stored.{Stored}
use Rattle.ap_engine.specs.Ledgers.{IsBeside, StayHeld}
use Rattle.ap_engine.specs.Worlds.{IsRead}
use Rattle.ap_engine.proofs.InternedSources.{AreInterned}
use Rattle.ap_engine.proofs.interning.intern_sources.Given as goal

abbrev pub invariant-loop-winner : goal.invariant-loop-winner
invariant-loop-winner l = record {
  beside : (stored : Stored) → IsBeside l.fn.ledger.db l.fn.ledger.contents stored → IsBeside l.ledger.db l.ledger.contents stored;
  stay : (stored : Stored) → IsBeside l.fn.ledger.db l.fn.ledger.contents stored → StayHeld l.fn.ledger.db l.fn.ledger.contents l.ledger.db l.ledger.contents;
  db : l.ledger.db ≡ l.fn.ledger.db;
  interned : (stored : Stored) → IsBeside l.fn.ledger.db l.fn.ledger.contents stored → ((winner : Winner) → Contains l.fn.winners.items winner → IsRead winner)
      → AreInterned l.config l.fn.winners.items l.ledger.db l.ledger.contents (into_iter_items l.winner-iterator) l.all.items;
}
