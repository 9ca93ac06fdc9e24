use Rattle.std.proofs.Common.{◌≡◌, ◌+◌, ◌++◌, ◌<◌, ℕ, List, Contains, subst}
use Rattle.ap_text.specs.Causes.{Rose}
use Rattle.ap_content.proofs.Members.{Contains-filtered}
use Rattle.ap_scan.specs.declared.results.Winner.{Winner}
use Rattle.ap_db.specs.declared.fault.DbFault.TheVariants.{DiskFault, StoreFull}
use Rattle.ap_db.specs.Stored.{Stored}
use Rattle.ap_db.specs.Tables.{PlainTables}
use Rattle.ap_db.specs.WholeItems.{all_committed}
use Rattle.ap_sources.specs.Sources.{sources}
use Rattle.ap_engine.specs.declared.fault.EngineFault.TheVariants.{Db, Unbuilt}
use Rattle.ap_engine.specs.Asked.{meanings_of, needed_sources, asked_of, IsFree}
use Rattle.ap_engine.specs.Changes.{create_changes, front_changes, with_source_rows, folder_changes}
use Rattle.ap_engine.specs.Interned.{AreSourcesOf}
use Rattle.ap_engine.specs.Ledgers.{IsReady, HasCommitted, HasStopped}
use Rattle.ap_engine.specs.Need.{creation_stands}
use Rattle.ap_engine.specs.Worlds.{AreQuiet}
use Rattle.std.specs.Prelude.{not}
use Rattle.ap_engine.proofs.CreationsPut.{on_ok_to, on_err_to, if_err_to, rose_on}
use Rattle.ap_engine.proofs.FrontPhases.{of_fault, are_read, row_changes, rows_committed}
use Rattle.ap_engine.proofs.NeededSources.{stay_sources}
use Rattle.ap_engine.proofs.Outcomes.{on_err}
use Rattle.ap_engine.proofs.RunPhases.{folders_stop, sources_stop, creations_follow, creations_stop, tables_behind_sources}
use Rattle.ap_engine.proofs.front.put_front.Goals as goal

pub returns-in_err-put_folder_rows-clause-stopped : goal.returns-in_err-put_folder_rows-clause-stopped
returns-in_err-put_folder_rows-clause-stopped g c =
    let d = g.D.Disk in
    let m = meanings_of g.B.Builders.declares g.B.Builders.creates g.B.Builders.makes in
    let config = c.args.config.now in
    let start = c.args.ledger.now in
    let first = c.args.store.now in
    let all = c.args.all.now in
    on_err c.from_residual.result
    ((winners : List Winner) (stored : Stored) → IsReady d.seen d.may_leave d.room start.db start.contents first stored → AreQuiet m config winners → AreSourcesOf start.db start.contents all (sources config winners) → HasStopped d.seen d.may_leave d.clock d.left_at d.room d.faults first c.put_folder_rows.new.store stored (front_changes m config winners stored.tables))
    (λ stop is winners stored ready quiet are. folders_stop d.seen d.may_leave d.clock d.left_at d.room d.faults first c.put_folder_rows.new.store stored m config winners (c.in_err-put_folder_rows.ensures.stopped stored ready winners))

pub put_source_rows-requires : goal.put_source_rows-requires
put_source_rows-requires g c =
    let d = g.D.Disk in
    let m = meanings_of g.B.Builders.declares g.B.Builders.creates g.B.Builders.makes in
    let config = c.args.config.now in
    let start = c.args.ledger.now in
    let first = c.args.store.now in
    let all = c.args.all.now in
    let mid = c.put_folder_rows.new in
    let e = c.in_ok-put_folder_rows.ensures in
    let r = c.requires.ready in
    let one = e.committed r.1 r.2 r.0 in
    record {
      ready = (
        config,
        r.0,
        all_committed r.1 (folder_changes config r.0 r.1.tables),
        one.ready,
        are_read m config r.0 r.3,
        stay_sources m config r.0 start.db start.contents mid.ledger.db mid.ledger.contents one.stay all (sources config r.0) r.4,
      );
    }

pub returns-in_err-put_source_rows-clause-stopped : goal.returns-in_err-put_source_rows-clause-stopped
returns-in_err-put_source_rows-clause-stopped g c =
    let d = g.D.Disk in
    let m = meanings_of g.B.Builders.declares g.B.Builders.creates g.B.Builders.makes in
    let config = c.args.config.now in
    let start = c.args.ledger.now in
    let first = c.args.store.now in
    let all = c.args.all.now in
    let mid = c.put_folder_rows.new in
    let e = c.in_ok-put_folder_rows.ensures in
    on_err c.from_residual-in_err-put_source_rows.result
    ((winners : List Winner) (stored : Stored) → IsReady d.seen d.may_leave d.room start.db start.contents first stored → AreQuiet m config winners → AreSourcesOf start.db start.contents all (sources config winners) → HasStopped d.seen d.may_leave d.clock d.left_at d.room d.faults first c.put_source_rows.new.store stored (front_changes m config winners stored.tables))
    (λ stop is winners stored ready quiet are.
    let one = e.committed stored ready winners in
    sources_stop d.seen d.may_leave d.clock d.left_at d.room d.faults start.db mid.ledger.db start.contents mid.ledger.contents first mid.store c.put_source_rows.new.store stored ready.beside.well m config winners one
    (c.in_err-put_source_rows.ensures.stopped config winners (all_committed stored (folder_changes config winners stored.tables)) one.ready (are_read m config winners quiet)
    (stay_sources m config winners start.db start.contents mid.ledger.db mid.ledger.contents one.stay all (sources config winners) are)))

pub returns-in_err-put_source_rows-clause-full : goal.returns-in_err-put_source_rows-clause-full
returns-in_err-put_source_rows-clause-full g c =
    let d = g.D.Disk in
    let m = meanings_of g.B.Builders.declares g.B.Builders.creates g.B.Builders.makes in
    let config = c.args.config.now in
    let start = c.args.ledger.now in
    let first = c.args.store.now in
    let all = c.args.all.now in
    let mid = c.put_folder_rows.new in
    let e = c.in_ok-put_folder_rows.ensures in
    let r = c.requires.ready in
    let one = e.committed r.1 r.2 r.0 in
    of_fault c.from_residual-in_err-put_source_rows.result (Db c.in_err-put_source_rows.field-0.0) (λ stop. (l w : ℕ) → stop ≡ Db (StoreFull l w) → start.db.journal.limit < l + w)
    c.from_residual-in_err-put_source_rows.ensures
    (λ l w is. subst (λ limit. limit < l + w) one.limit (c.in_err-put_source_rows.ensures.full l w (cc is)))

pub returns-in_err-put_source_rows-clause-disk : goal.returns-in_err-put_source_rows-clause-disk
returns-in_err-put_source_rows-clause-disk g c =
    let d = g.D.Disk in
    let m = meanings_of g.B.Builders.declares g.B.Builders.creates g.B.Builders.makes in
    let config = c.args.config.now in
    let start = c.args.ledger.now in
    let first = c.args.store.now in
    let all = c.args.all.now in
    let mid = c.put_folder_rows.new in
    let e = c.in_ok-put_folder_rows.ensures in
    let r = c.requires.ready in
    let one = e.committed r.1 r.2 r.0 in
    of_fault c.from_residual-in_err-put_source_rows.result (Db c.in_err-put_source_rows.field-0.0) (λ stop. stop ≡ Db DiskFault → Rose (d.faults first.0) (d.faults c.put_source_rows.new.store.0))
    c.from_residual-in_err-put_source_rows.ensures
    (λ is. rose_on (d.faults first.0) (d.faults mid.store.0) (d.faults c.put_source_rows.new.store.0) one.commits.later (c.in_err-put_source_rows.ensures.disk (cc is)))

pub put_creations-requires-clause-ready : goal.put_creations-requires-clause-ready
put_creations-requires-clause-ready g c =
    let d = g.D.Disk in
    let m = meanings_of g.B.Builders.declares g.B.Builders.creates g.B.Builders.makes in
    let config = c.args.config.now in
    let start = c.args.ledger.now in
    let first = c.args.store.now in
    let all = c.args.all.now in
    let mid = c.put_folder_rows.new in
    let e = c.in_ok-put_folder_rows.ensures in
    let behind = c.put_source_rows.new in
    let f = c.in_ok-put_source_rows.ensures in
    let r = c.requires.ready in
    let two = rows_committed d.seen d.may_leave d.clock d.left_at d.room d.faults m config r.0 start.db mid.ledger.db start.contents mid.ledger.contents first mid.store behind.store r.1 r.2 r.3 all r.4 (e.committed r.1 r.2 r.0) behind.ledger.db behind.ledger.contents f.committed in (
      r.0,
      all_committed r.1 (row_changes m config r.0 r.1.tables),
      two.ready,
      r.3,
      stay_sources m config r.0 start.db start.contents behind.ledger.db behind.ledger.contents two.stay all (sources config r.0) r.4,
    )

pub returns-clause-committed : goal.returns-clause-committed
returns-clause-committed g c =
    let d = g.D.Disk in
    let m = meanings_of g.B.Builders.declares g.B.Builders.creates g.B.Builders.makes in
    let config = c.args.config.now in
    let start = c.args.ledger.now in
    let first = c.args.store.now in
    let all = c.args.all.now in
    let mid = c.put_folder_rows.new in
    let e = c.in_ok-put_folder_rows.ensures in
    let behind = c.put_source_rows.new in
    let f = c.in_ok-put_source_rows.ensures in
    let last = c.put_creations.new in
    on_ok_to c.put_creations.result
    ((winners : List Winner) (stored : Stored) → IsReady d.seen d.may_leave d.room behind.ledger.db behind.ledger.contents behind.store stored → AreQuiet m config winners → AreSourcesOf behind.ledger.db behind.ledger.contents all (sources config winners) → HasCommitted d.seen d.may_leave d.clock d.left_at d.room d.faults behind.ledger.db behind.ledger.contents last.ledger.db last.ledger.contents behind.store last.store stored (create_changes m config winners stored.tables))
    ((winners : List Winner) (stored : Stored) → IsReady d.seen d.may_leave d.room start.db start.contents first stored → AreQuiet m config winners → AreSourcesOf start.db start.contents all (sources config winners) → HasCommitted d.seen d.may_leave d.clock d.left_at d.room d.faults start.db start.contents last.ledger.db last.ledger.contents first last.store stored (front_changes m config winners stored.tables))
    c.put_creations.ensures.committed
    (λ committed winners stored ready quiet are.
    let two = rows_committed d.seen d.may_leave d.clock d.left_at d.room d.faults m config winners start.db mid.ledger.db start.contents mid.ledger.contents first mid.store behind.store stored ready quiet all are (e.committed stored ready winners) behind.ledger.db behind.ledger.contents f.committed in
    let then = all_committed stored (row_changes m config winners stored.tables) in
    let are_then = stay_sources m config winners start.db start.contents behind.ledger.db behind.ledger.contents two.stay all (sources config winners) are in
    creations_follow d.seen d.may_leave d.clock d.left_at d.room d.faults start.db behind.ledger.db start.contents behind.ledger.contents first behind.store last.store stored ready.beside.well m config winners two last.ledger.db last.ledger.contents (committed winners then two.ready quiet are_then))

pub returns-clause-asked : goal.returns-clause-asked
returns-clause-asked g c =
    let d = g.D.Disk in
    let m = meanings_of g.B.Builders.declares g.B.Builders.creates g.B.Builders.makes in
    let config = c.args.config.now in
    let start = c.args.ledger.now in
    let first = c.args.store.now in
    let all = c.args.all.now in
    let mid = c.put_folder_rows.new in
    let e = c.in_ok-put_folder_rows.ensures in
    let behind = c.put_source_rows.new in
    let f = c.in_ok-put_source_rows.ensures in
    let last = c.put_creations.new in
    on_ok_to c.put_creations.result
    ((winners : List Winner) (stored : Stored) → IsReady d.seen d.may_leave d.room behind.ledger.db behind.ledger.contents behind.store stored → AreQuiet m config winners → AreSourcesOf behind.ledger.db behind.ledger.contents all (sources config winners) → last.bench ≡ c.args.bench.now ++ asked_of m config winners (needed_sources m config winners stored.tables))
    ((winners : List Winner) (stored : Stored) → IsReady d.seen d.may_leave d.room start.db start.contents first stored → AreQuiet m config winners → AreSourcesOf start.db start.contents all (sources config winners) → last.bench ≡ c.args.bench.now ++ asked_of m config winners (needed_sources m config winners (with_source_rows m config winners stored.tables)))
    c.put_creations.ensures.asked
    (λ asked winners stored ready quiet are.
    let two = rows_committed d.seen d.may_leave d.clock d.left_at d.room d.faults m config winners start.db mid.ledger.db start.contents mid.ledger.contents first mid.store behind.store stored ready quiet all are (e.committed stored ready winners) behind.ledger.db behind.ledger.contents f.committed in
    let then = all_committed stored (row_changes m config winners stored.tables) in
    let are_then = stay_sources m config winners start.db start.contents behind.ledger.db behind.ledger.contents two.stay all (sources config winners) are in
    subst (λ (t : PlainTables). last.bench ≡ c.args.bench.now ++ asked_of m config winners (needed_sources m config winners t))
    (tables_behind_sources d.seen d.may_leave d.clock d.left_at d.room d.faults start.db behind.ledger.db start.contents behind.ledger.contents first behind.store behind.store stored ready.beside.well m config winners two)
    (asked winners then two.ready quiet are_then))

pub returns-clause-stopped : goal.returns-clause-stopped
returns-clause-stopped g c =
    let d = g.D.Disk in
    let m = meanings_of g.B.Builders.declares g.B.Builders.creates g.B.Builders.makes in
    let config = c.args.config.now in
    let start = c.args.ledger.now in
    let first = c.args.store.now in
    let all = c.args.all.now in
    let mid = c.put_folder_rows.new in
    let e = c.in_ok-put_folder_rows.ensures in
    let behind = c.put_source_rows.new in
    let f = c.in_ok-put_source_rows.ensures in
    let last = c.put_creations.new in
    on_err_to c.put_creations.result
    ((winners : List Winner) (stored : Stored) → IsReady d.seen d.may_leave d.room behind.ledger.db behind.ledger.contents behind.store stored → AreQuiet m config winners → AreSourcesOf behind.ledger.db behind.ledger.contents all (sources config winners) → HasStopped d.seen d.may_leave d.clock d.left_at d.room d.faults behind.store last.store stored (create_changes m config winners stored.tables))
    ((winners : List Winner) (stored : Stored) → IsReady d.seen d.may_leave d.room start.db start.contents first stored → AreQuiet m config winners → AreSourcesOf start.db start.contents all (sources config winners) → HasStopped d.seen d.may_leave d.clock d.left_at d.room d.faults first last.store stored (front_changes m config winners stored.tables))
    c.put_creations.ensures.stopped
    (λ stopped winners stored ready quiet are.
    let two = rows_committed d.seen d.may_leave d.clock d.left_at d.room d.faults m config winners start.db mid.ledger.db start.contents mid.ledger.contents first mid.store behind.store stored ready quiet all are (e.committed stored ready winners) behind.ledger.db behind.ledger.contents f.committed in
    let then = all_committed stored (row_changes m config winners stored.tables) in
    let are_then = stay_sources m config winners start.db start.contents behind.ledger.db behind.ledger.contents two.stay all (sources config winners) are in
    creations_stop d.seen d.may_leave d.clock d.left_at d.room d.faults start.db behind.ledger.db start.contents behind.ledger.contents first behind.store last.store stored ready.beside.well m config winners two (stopped winners then two.ready quiet are_then))

pub returns-clause-unbuilt : goal.returns-clause-unbuilt
returns-clause-unbuilt g c =
    let d = g.D.Disk in
    let m = meanings_of g.B.Builders.declares g.B.Builders.creates g.B.Builders.makes in
    let config = c.args.config.now in
    let start = c.args.ledger.now in
    let first = c.args.store.now in
    let all = c.args.all.now in
    let mid = c.put_folder_rows.new in
    let e = c.in_ok-put_folder_rows.ensures in
    let behind = c.put_source_rows.new in
    let f = c.in_ok-put_source_rows.ensures in
    let last = c.put_creations.new in
    if_err_to c.put_creations.result
    (λ stop. stop ≡ Unbuilt → (winners : List Winner) (stored : Stored) → IsReady d.seen d.may_leave d.room behind.ledger.db behind.ledger.contents behind.store stored → AreQuiet m config winners → AreSourcesOf behind.ledger.db behind.ledger.contents all (sources config winners) → (winner : Winner) × Contains (needed_sources m config winners stored.tables) winner × (¬ IsFree m config winners winner))
    (λ stop. stop ≡ Unbuilt → (winners : List Winner) (stored : Stored) → IsReady d.seen d.may_leave d.room start.db start.contents first stored → AreQuiet m config winners → AreSourcesOf start.db start.contents all (sources config winners) → (winner : Winner) × Contains (sources config winners) winner × (¬ IsFree m config winners winner))
    c.put_creations.ensures.unbuilt
    (λ stop unbuilt is winners stored ready quiet are.
    let two = rows_committed d.seen d.may_leave d.clock d.left_at d.room d.faults m config winners start.db mid.ledger.db start.contents mid.ledger.contents first mid.store behind.store stored ready quiet all are (e.committed stored ready winners) behind.ledger.db behind.ledger.contents f.committed in
    let then = all_committed stored (row_changes m config winners stored.tables) in
    let are_then = stay_sources m config winners start.db start.contents behind.ledger.db behind.ledger.contents two.stay all (sources config winners) are in
    let found = unbuilt is winners then two.ready quiet are_then in
    (found.0, (Contains-filtered (λ winner. not (creation_stands m config winners then.tables winner.path)) (sources config winners) found.0 found.1).0, found.2))

pub returns-clause-full : goal.returns-clause-full
returns-clause-full g c =
    let d = g.D.Disk in
    let m = meanings_of g.B.Builders.declares g.B.Builders.creates g.B.Builders.makes in
    let config = c.args.config.now in
    let start = c.args.ledger.now in
    let first = c.args.store.now in
    let all = c.args.all.now in
    let mid = c.put_folder_rows.new in
    let e = c.in_ok-put_folder_rows.ensures in
    let behind = c.put_source_rows.new in
    let f = c.in_ok-put_source_rows.ensures in
    let r = c.requires.ready in
    let two = rows_committed d.seen d.may_leave d.clock d.left_at d.room d.faults m config r.0 start.db mid.ledger.db start.contents mid.ledger.contents first mid.store behind.store r.1 r.2 r.3 all r.4 (e.committed r.1 r.2 r.0) behind.ledger.db behind.ledger.contents f.committed in
    if_err_to c.put_creations.result
    (λ stop. (l w : ℕ) → stop ≡ Db (StoreFull l w) → behind.ledger.db.journal.limit < l + w)
    (λ stop. (l w : ℕ) → stop ≡ Db (StoreFull l w) → start.db.journal.limit < l + w)
    c.put_creations.ensures.full
    (λ stop full l w is. subst (λ limit. limit < l + w) two.limit (full l w is))

pub returns-clause-disk : goal.returns-clause-disk
returns-clause-disk g c =
    let d = g.D.Disk in
    let m = meanings_of g.B.Builders.declares g.B.Builders.creates g.B.Builders.makes in
    let config = c.args.config.now in
    let start = c.args.ledger.now in
    let first = c.args.store.now in
    let all = c.args.all.now in
    let mid = c.put_folder_rows.new in
    let e = c.in_ok-put_folder_rows.ensures in
    let behind = c.put_source_rows.new in
    let f = c.in_ok-put_source_rows.ensures in
    let r = c.requires.ready in
    let two = rows_committed d.seen d.may_leave d.clock d.left_at d.room d.faults m config r.0 start.db mid.ledger.db start.contents mid.ledger.contents first mid.store behind.store r.1 r.2 r.3 all r.4 (e.committed r.1 r.2 r.0) behind.ledger.db behind.ledger.contents f.committed in
    if_err_to c.put_creations.result
    (λ stop. stop ≡ Db DiskFault → Rose (d.faults behind.store.0) (d.faults c.put_creations.new.store.0))
    (λ stop. stop ≡ Db DiskFault → Rose (d.faults first.0) (d.faults c.put_creations.new.store.0))
    c.put_creations.ensures.disk
    (λ stop disk is. rose_on (d.faults first.0) (d.faults behind.store.0) (d.faults c.put_creations.new.store.0) two.commits.later (disk is))
