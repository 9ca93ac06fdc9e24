use Rattle.std.proofs.Common.{◌≡◌, ℕ, List, Option, Ok, Err, IfSome, sym, ap, subst}
use Rattle.ap_disk.specs.Calls.{TellsAs}
use Rattle.ap_journal.specs.Records.{IsSameStore}
use Rattle.ap_db.specs.Stored.{stored_in}
use Rattle.ap_db.proofs.OpeningOn.{opens_on, good_of, left_same, same_stored, reads_file, was_bad, from_header}
use Rattle.ap_db.proofs.opening.open_records.Goals as goal

pub returns-in-Ok-clause-read : goal.returns-in-Ok-clause-read
returns-in-Ok-clause-read g c =
    let d = g.D.Disk in
    let opened = c.in_ok-journal.ensures in
    let now = good_of (d.seen c.open.new.store.0) c.in_ok-journal.journal (opened.is_of.file opened.fresh) in
    let read = c.in-Ok.ensures.read in (
      read.0,
      read.1,
      subst (λ (told : Option (List ℕ)). IfSome told (λ file. stored_in file ≡ Ok read.0)) (sym c.read_records.ensures.seen) (reads_file (d.seen c.open.new.store.0) read.0 now read.2),
    )

pub returns-in-Ok-clause-same : goal.returns-in-Ok-clause-same
returns-in-Ok-clause-same g c =
    let d = g.D.Disk in
    let opened = c.in_ok-journal.ensures in
    let now = good_of (d.seen c.open.new.store.0) c.in_ok-journal.journal (opened.is_of.file opened.fresh) in
    subst (λ (told : Option (List ℕ)). TellsAs (d.seen c.args.store.now.0) told (λ old new. stored_in new ≡ stored_in old)) (sym c.read_records.ensures.seen)
    (same_stored (d.seen c.args.store.now.0) (d.seen c.open.new.store.0) opened.header opened.records now)

pub returns-in-Ok-clause-opens : goal.returns-in-Ok-clause-opens
returns-in-Ok-clause-opens g c =
    let d = g.D.Disk in
    let opened = c.in_ok-journal.ensures in
    let now = good_of (d.seen c.open.new.store.0) c.in_ok-journal.journal (opened.is_of.file opened.fresh) in
    opens_on d.seen d.may_leave d.clock d.left_at d.room d.faults c.args.store.now c.open.new.store c.read_records.new.store
    (d.may_leave c.args.store.now.0) (λ l. IfSome (d.seen c.args.store.now.0) (λ old. IsSameStore old l)) (d.may_leave c.open.new.store.0) opened.opens c.read_records.ensures.steps
    (left_same (d.seen c.args.store.now.0) (d.seen c.open.new.store.0) (d.may_leave c.open.new.store.0) opened.header opened.records now (opened.is_of.durable opened.fresh))

pub returns-in-Ok-clause-durable : goal.returns-in-Ok-clause-durable
returns-in-Ok-clause-durable g c = c.read_records.ensures.is_of.durable c.in-Ok.ensures.unspent

pub returns-in-Err-clause-opens : goal.returns-in-Err-clause-opens
returns-in-Err-clause-opens g c =
    let d = g.D.Disk in
    let opened = c.in_ok-journal.ensures in
    let now = good_of (d.seen c.open.new.store.0) c.in_ok-journal.journal (opened.is_of.file opened.fresh) in
    opens_on d.seen d.may_leave d.clock d.left_at d.room d.faults c.args.store.now c.open.new.store c.read_records.new.store
    (d.may_leave c.args.store.now.0) (λ l. IfSome (d.seen c.args.store.now.0) (λ old. IsSameStore old l)) (d.may_leave c.open.new.store.0) opened.opens c.read_records.ensures.steps
    (left_same (d.seen c.args.store.now.0) (d.seen c.open.new.store.0) (d.may_leave c.open.new.store.0) opened.header opened.records now (opened.is_of.durable opened.fresh))

pub returns-in-Err-clause-bad : goal.returns-in-Err-clause-bad
returns-in-Err-clause-bad g c = λ place offset is.
    let d = g.D.Disk in
    let opened = c.in_ok-journal.ensures in
    was_bad (d.seen c.args.store.now.0) (d.seen c.open.new.store.0) place offset opened.header opened.records (c.in-Err.ensures.bad place offset is)

pub returns-in_err-journal-clause-bad : goal.returns-in_err-journal-clause-bad
returns-in_err-journal-clause-bad g c = from_header c.from_residual.result c.in_err-journal.field-0.0 (g.D.Disk.seen c.args.store.now.0) c.from_residual.ensures (λ e. c.in_err-journal.ensures.bad (ap Err e))
