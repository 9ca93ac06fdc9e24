use Rattle.std.proofs.Common.{◌≡◌, ◌+◌, length}
use Rattle.ap_db.specs.Stored.{Stored}
use Rattle.ap_db.specs.TakenOut.{IsSwept}
use Rattle.ap_db.proofs.state.State.sweep.Given as goal

-- what was taken out so far, and the numbers that still wait
abbrev pub invariant-loop-m : goal.invariant-loop-m
invariant-loop-m l = record {
  is : (stored : Stored) × IsSwept l.self l.contents stored l.sweep.dropped.items l.sweep.awaited.items;
  swept : (stored : Stored) → IsSwept l.fn.self l.contents stored l.fn.sweep.dropped.items l.fn.sweep.awaited.items → IsSwept l.self l.contents stored l.sweep.dropped.items l.sweep.awaited.items;
  kept : (l.self.tables ≡ l.fn.self.tables) × (l.self.defined ≡ l.fn.self.defined) × (length l.self.things.items ≡ length l.fn.self.things.items);
}

abbrev pub decreases-loop-m : goal.decreases-loop-m
decreases-loop-m l = l.self.names + length l.sweep.awaited.items
