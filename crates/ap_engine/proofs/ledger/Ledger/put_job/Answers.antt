use Rattle.std.proofs.Common.{◌≡◌, [], ◌∷◌, true}
use Rattle.ap_content.specs.Entries.{Stands}
use Rattle.ap_rows.specs.declared.change.Item.TheVariants.{PutJob}
use Rattle.ap_db.specs.Changes.{Whole, put_job}
use Rattle.ap_db.specs.Lawful.{is_lawful}
use Rattle.ap_db.specs.Listed.{AreAll}
use Rattle.ap_db.specs.Said.{ItemIs}
use Rattle.ap_db.specs.States.{JobIs}
use Rattle.ap_db.specs.Tables.{PlainJob}
use Rattle.ap_db.specs.Stored.{Stored}
use Rattle.ap_db.specs.WholeItems.{items_of}
use Rattle.ap_engine.specs.Goods.{IsGoodJob}
use Rattle.ap_engine.specs.Ledgers.{IsReady, HasCommitted, HasStopped}
use Rattle.ap_engine.proofs.Outcomes.{on_map, err_map}
use Rattle.ap_engine.proofs.Saying.{says_job}
use Rattle.ap_engine.proofs.WholeLaws.{job_lawful}
use Rattle.ap_engine.proofs.ledger.Ledger.put_job.Goals as goal

pub commit_one-requires : goal.commit_one-requires
commit_one-requires g c =
    let r = c.requires in
    (r.0, r.1, put_job r.2, says_job (Stands c.args.self.now.contents) r.0.tables c.args.row r.2 r.3, job_lawful r.0 r.2 r.4)

pub returns-clause-committed : goal.returns-clause-committed
returns-clause-committed g c =
    let d = g.D.Disk in
    let db = c.args.self.now.db in
    let contents = c.args.self.now.contents in
    let store = c.args.store.now in
    let db' = c.commit_one.new.self.db in
    let contents' = c.commit_one.new.self.contents in
    let store' = c.commit_one.new.store in
    on_map c.commit_one.result
    ((stored : Stored) → IsReady d.seen d.may_leave d.room db contents store stored → (whole : Whole) → AreAll (ItemIs (Stands contents)) (PutJob c.args.row ∷ []) (items_of stored.tables whole) → is_lawful stored (items_of stored.tables whole) ≡ true
    → HasCommitted d.seen d.may_leave d.clock d.left_at d.room d.faults db contents db' contents' store store' stored (whole ∷ []))
    ((stored : Stored) → IsReady d.seen d.may_leave d.room db contents store stored → (plain : PlainJob) → JobIs (Stands contents) c.args.row plain → IsGoodJob plain → HasCommitted d.seen d.may_leave d.clock d.left_at d.room d.faults db contents db' contents' store store' stored (put_job plain ∷ []))
    c.commit_one.ensures.committed
    (λ all stored ready plain is good. all stored ready (put_job plain) (says_job (Stands contents) stored.tables c.args.row plain is) (job_lawful stored plain good))

pub returns-clause-stopped : goal.returns-clause-stopped
returns-clause-stopped g c =
    let d = g.D.Disk in
    let db = c.args.self.now.db in
    let contents = c.args.self.now.contents in
    let store = c.args.store.now in
    let store' = c.commit_one.new.store in
    err_map c.commit_one.result
    ((stored : Stored) → IsReady d.seen d.may_leave d.room db contents store stored → (whole : Whole) → AreAll (ItemIs (Stands contents)) (PutJob c.args.row ∷ []) (items_of stored.tables whole) → is_lawful stored (items_of stored.tables whole) ≡ true
    → HasStopped d.seen d.may_leave d.clock d.left_at d.room d.faults store store' stored (whole ∷ []))
    ((stored : Stored) → IsReady d.seen d.may_leave d.room db contents store stored → (plain : PlainJob) → JobIs (Stands contents) c.args.row plain → IsGoodJob plain → HasStopped d.seen d.may_leave d.clock d.left_at d.room d.faults store store' stored (put_job plain ∷ []))
    c.commit_one.ensures.stopped
    (λ all stored ready plain is good. all stored ready (put_job plain) (says_job (Stands contents) stored.tables c.args.row plain is) (job_lawful stored plain good))
