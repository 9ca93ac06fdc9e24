use Rattle.std.proofs.Common.{◌≡◌, ◌≤◌, ◌<◌, ◌⊎◌, ◌+◌, ◌-◌, length, drop, IfSome}
use Rattle.ap_journal.specs.Records.{first_record}
use Rattle.ap_journal.specs.State.{IsPlace, length_of}
use Rattle.ap_journal.specs.Moments.{Steps}
use Rattle.ap_journal.proofs.reading.records_end.Given as goal

-- the end so far is a place, and the next length is that of the record there
abbrev pub invariant-loop-next : goal.invariant-loop-next
invariant-loop-next g l = record {
  least : 16 ≤ l.end;
  fits : (l.end ≡ 16) ⊎ (l.end < l.size);
  inside : l.end ≤ l.size;
  next_fits : IfSome l.next (λ count. l.end + (5 + count) < l.size);
  place : IfSome (g.D.Disk.seen l.fn.store.0) (λ bytes. length bytes ≡ l.size → IsPlace bytes l.end);
  says : IfSome (g.D.Disk.seen l.fn.store.0) (λ bytes. length bytes ≡ l.size → l.next ≡ length_of (first_record (drop l.end bytes)));
  seen : g.D.Disk.seen l.store.0 ≡ g.D.Disk.seen l.fn.store.0;
  steps : Steps g.D.Disk.seen g.D.Disk.may_leave g.D.Disk.clock g.D.Disk.left_at g.D.Disk.room g.D.Disk.faults l.fn.store l.store (g.D.Disk.may_leave l.fn.store.0);
}

abbrev pub decreases-loop-next : goal.decreases-loop-next
decreases-loop-next g l = l.size - l.end
