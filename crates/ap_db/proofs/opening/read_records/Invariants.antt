use Rattle.std.proofs.Common.{◌≡◌, ◌≤◌, ◌-◌, false, IfSome}
use Rattle.ap_journal.specs.Moments.{Steps}
use Rattle.ap_journal.specs.State.{IsOf}
use Rattle.ap_db.specs.Stored.{Stored}
use Rattle.ap_db.specs.Payloads.{Reads}
use Rattle.ap_db.proofs.RecordByRecord.{HasRead}
use Rattle.ap_db.proofs.opening.read_records.Given as goal

-- the records before the offset are read
abbrev pub invariant-loop-payload : goal.invariant-loop-payload
invariant-loop-payload g l = record {
  is_of : IsOf g.D.Disk.seen g.D.Disk.may_leave g.D.Disk.room l.journal l.store;
  fresh : l.journal.spent ≡ false;
  limit : l.journal.limit ≡ l.fn.journal.limit;
  low : l.number ≤ l.at;
  read : (stored : Stored) × Reads l.reading stored × IfSome (g.D.Disk.seen l.fn.store.0) (λ file. HasRead file l.at l.number stored);
  seen : g.D.Disk.seen l.store.0 ≡ g.D.Disk.seen l.fn.store.0;
  steps : Steps g.D.Disk.seen g.D.Disk.may_leave g.D.Disk.clock g.D.Disk.left_at g.D.Disk.room g.D.Disk.faults l.fn.store l.store (g.D.Disk.may_leave l.fn.store.0);
}

abbrev pub decreases-loop-payload : goal.decreases-loop-payload
decreases-loop-payload g l = l.journal.size - l.at
