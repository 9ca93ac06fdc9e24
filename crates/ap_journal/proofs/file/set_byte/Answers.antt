use Rattle.std.proofs.Common.{List, ℕ, IfSome}
use Rattle.ap_disk.specs.Crashes.{Torn, AfterStep}
use Rattle.ap_journal.specs.Changes.{HasSomeByteAt}
use Rattle.ap_journal.specs.Between.{call, and_on, more}
use Rattle.ap_journal.proofs.Files.{has_byte}
use Rattle.ap_journal.proofs.file.set_byte.Goals as goal

pub returns-in_err-write_at-clause-steps : goal.returns-in_err-write_at-clause-steps
returns-in_err-write_at-clause-steps g c =
    let d = g.D.Disk in
    let old = c.args.store.now in
    let mid = c.write_at.new.self in
    let P : List ℕ → Type 0 = λ l. IfSome (d.seen old.0) (λ old. HasSomeByteAt old c.args.at l) in
    let Q : List ℕ → Type 0 = AfterStep (Torn c.args.at 1) (d.may_leave old.0) in
    let wrote = call d.seen d.may_leave d.clock d.left_at d.room d.faults old mid Q c.write_at.ensures.time c.write_at.ensures.moments c.write_at.ensures.crash c.write_at.ensures.room c.write_at.ensures.cause.later c.write_at.ensures.other in
    more d.seen d.may_leave d.clock d.left_at d.room d.faults old mid Q P wrote (has_byte (d.seen old.0) (d.may_leave old.0) c.args.at c.requires.durable c.requires.within)

pub returns-clause-steps : goal.returns-clause-steps
returns-clause-steps g c =
    let d = g.D.Disk in
    let old = c.args.store.now in
    let mid = c.write_at.new.self in
    let new = c.sync.new.self in
    let P : List ℕ → Type 0 = λ l. IfSome (d.seen old.0) (λ old. HasSomeByteAt old c.args.at l) in
    let Q : List ℕ → Type 0 = AfterStep (Torn c.args.at 1) (d.may_leave old.0) in
    let in_p : (l : List ℕ) → Q l → P l = has_byte (d.seen old.0) (d.may_leave old.0) c.args.at c.requires.durable c.requires.within in
    let wrote = call d.seen d.may_leave d.clock d.left_at d.room d.faults old mid Q c.write_at.ensures.time c.write_at.ensures.moments c.write_at.ensures.crash c.write_at.ensures.room c.write_at.ensures.cause.later c.write_at.ensures.other in
    let synced = call d.seen d.may_leave d.clock d.left_at d.room d.faults mid new (d.may_leave mid.0) c.sync.ensures.time c.sync.ensures.moments c.sync.ensures.crash c.sync.ensures.room c.sync.ensures.cause.later c.sync.ensures.other in
    and_on d.seen d.may_leave d.clock d.left_at d.room d.faults old mid new Q (d.may_leave mid.0) P wrote synced in_p (λ l left. in_p l (c.write_at.ensures.crash l left))
