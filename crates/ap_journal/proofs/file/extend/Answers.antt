use Rattle.std.proofs.Common.{List, ℕ, length, IfSome}
use Rattle.ap_disk.specs.Crashes.{Torn, AfterStep}
use Rattle.ap_journal.specs.Changes.{Extends}
use Rattle.ap_journal.specs.Between.{call, and_on}
use Rattle.ap_journal.proofs.Files.{extended}
use Rattle.ap_journal.proofs.file.extend.Goals as goal

pub returns-clause-steps : goal.returns-clause-steps
returns-clause-steps g c =
    let d = g.D.Disk in
    let old = c.args.store.now in
    let mid = c.write_at.new.self in
    let new = c.sync.new.self in
    let P : List ℕ → Type 0 = λ l. IfSome (d.seen old.0) (λ old. Extends old (length c.args.bytes.now) l) in
    let Q : List ℕ → Type 0 = AfterStep (Torn c.args.at (length c.args.bytes.now)) (d.may_leave old.0) in
    let in_p : (l : List ℕ) → Q l → P l = extended (d.seen old.0) (d.may_leave old.0) c.args.at (length c.args.bytes.now) c.requires.durable c.requires.end in
    let wrote = call d.seen d.may_leave d.clock d.left_at d.room d.faults old mid Q c.write_at.ensures.time c.write_at.ensures.moments c.write_at.ensures.crash c.write_at.ensures.room c.write_at.ensures.cause.later c.write_at.ensures.other in
    let synced = call d.seen d.may_leave d.clock d.left_at d.room d.faults mid new (d.may_leave mid.0) c.sync.ensures.time c.sync.ensures.moments c.sync.ensures.crash c.sync.ensures.room c.sync.ensures.cause.later c.sync.ensures.other in
    and_on d.seen d.may_leave d.clock d.left_at d.room d.faults old mid new Q (d.may_leave mid.0) P wrote synced in_p (λ l left. in_p l (c.write_at.ensures.crash l left))
