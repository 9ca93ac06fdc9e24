use Rattle.std.proofs.Common.{◌≤◌, length}
use Rattle.ap_db.specs.Stored.{Stored}
use Rattle.ap_db.specs.Payloads.{Reads, IsReading}
use Rattle.ap_db.proofs.Stepping.{HasTaken}
use Rattle.ap_db.proofs.reading.Reading.take_payload.Given as goal

-- the items before the rest are taken
abbrev pub invariant-loop-rest : goal.invariant-loop-rest
invariant-loop-rest l = record {
  within : length l.rest ≤ length l.payload;
  is : IsReading l.self;
  taken : (stored : Stored) → Reads l.fn.self stored → (now : Stored) × HasTaken l.payload l.rest stored now × Reads l.self now;
}

abbrev pub decreases-loop-rest : goal.decreases-loop-rest
decreases-loop-rest l = length l.rest
