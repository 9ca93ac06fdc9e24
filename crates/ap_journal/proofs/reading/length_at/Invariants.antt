use Rattle.std.proofs.Common.{◌≡◌, ◌<◌, ◌-◌, None, length, IfSome}
use Rattle.ap_journal.specs.Records.{record_at}
use Rattle.ap_journal.specs.State.{IsPlace}
use Rattle.ap_journal.specs.Moments.{Steps}
use Rattle.ap_journal.proofs.reading.length_at.Given as goal

-- here is a place, and where it is past the offset none is there
abbrev pub invariant-loop-here : goal.invariant-loop-here
invariant-loop-here g l = record {
  place : IfSome (g.D.Disk.seen l.fn.store.0) (λ bytes. length bytes ≡ l.size → IsPlace bytes l.place → IsPlace bytes l.here);
  passed : IfSome (g.D.Disk.seen l.fn.store.0) (λ bytes. length bytes ≡ l.size → IsPlace bytes l.place → l.at < l.here → record_at bytes l.at ≡ None);
  seen : g.D.Disk.seen l.store.0 ≡ g.D.Disk.seen l.fn.store.0;
  steps : Steps g.D.Disk.seen g.D.Disk.may_leave g.D.Disk.clock g.D.Disk.left_at g.D.Disk.room g.D.Disk.faults l.fn.store l.store (g.D.Disk.may_leave l.fn.store.0);
}

abbrev pub decreases-loop-here : goal.decreases-loop-here
decreases-loop-here g l = l.at - l.here
