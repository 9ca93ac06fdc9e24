use Rattle.std.proofs.Common.{◌≡◌, ◌≤◌, length}
use Rattle.ap_db.specs.Stored.{Stored}
use Rattle.ap_db.specs.TakenOut.{HasTakenOut}
use Rattle.ap_db.proofs.state.State.undrop_all.Given as goal

-- those behind the rest are back
abbrev pub invariant-loop-rest : goal.invariant-loop-rest
invariant-loop-rest l = record {
  within : length l.rest ≤ length l.dropped;
  is : (stored : Stored) × HasTakenOut l.self l.contents stored l.rest;
  back : (stored : Stored) → HasTakenOut l.fn.self l.contents stored l.dropped → HasTakenOut l.self l.contents stored l.rest;
  kept : (l.self.tables ≡ l.fn.self.tables) × (l.self.defined ≡ l.fn.self.defined) × (length l.self.things.items ≡ length l.fn.self.things.items);
}

abbrev pub decreases-loop-rest : goal.decreases-loop-rest
decreases-loop-rest l = length l.rest
