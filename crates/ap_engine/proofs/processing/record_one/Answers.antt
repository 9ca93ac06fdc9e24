use Rattle.std.proofs.Common.{[], ◌∷◌}
use Rattle.ap_content.specs.Entries.{Stands}
use Rattle.ap_rows.specs.Inputs.{MadeFrom}
use Rattle.ap_rows.specs.declared.row.JobRow.{JobRow}
use Rattle.ap_rows.specs.declared.row.JobResult.TheVariants.{Processed}
use Rattle.ap_rows.specs.declared.row.OutcomeRow.TheVariants.{Done as DoneRow}
use Rattle.ap_builder.specs.declared.work.Outcome.TheVariants.{Done}
use Rattle.ap_db.specs.Changes.{put_job}
use Rattle.ap_db.specs.States.{JobIs}
use Rattle.ap_db.specs.Stored.{Stored}
use Rattle.ap_db.specs.Tables.{PlainJob}
use Rattle.ap_engine.specs.Goods.{IsGoodJob}
use Rattle.ap_engine.specs.Ledgers.{IsReady, HasCommitted, HasStopped}
use Rattle.ap_engine.specs.NeededJobs.{IsNeededJob, row_with}
use Rattle.ap_engine.proofs.Outcomes.{on_map, on_err, err_map}
use Rattle.ap_engine.proofs.Following.{nothing_given}
use Rattle.ap_engine.proofs.ProductThings.{good_row, says_row}
use Rattle.ap_engine.proofs.ProcessSteps.{ready_on, committed_from}
use Rattle.ap_engine.proofs.processing.record_one.Goals as goal

pub returns-in_err-id-clause-stopped : goal.returns-in_err-id-clause-stopped
returns-in_err-id-clause-stopped g c =
    let d = g.D.Disk in
    let old = c.args.ledger.now in
    let store = c.args.store.now in
    on_err c.from_residual.result
    ((stored : Stored) → IsReady d.seen d.may_leave d.room old.db old.contents store stored → (from : MadeFrom) → IsNeededJob old.db old.contents c.args.needed.now from
    → HasStopped d.seen d.may_leave d.clock d.left_at d.room d.faults store store stored (put_job (row_with (Done (c.args.product ∷ [])) from) ∷ []))
    (λ stop is stored ready from of. nothing_given d.seen d.may_leave d.clock d.left_at d.room d.faults old.db old.contents store stored ready (put_job (row_with (Done (c.args.product ∷ [])) from) ∷ []))

pub returns-in_err-products-clause-stopped : goal.returns-in_err-products-clause-stopped
returns-in_err-products-clause-stopped g c =
    let d = g.D.Disk in
    let old = c.args.ledger.now in
    let store = c.args.store.now in
    on_err c.from_residual-in_err-products.result
    ((stored : Stored) → IsReady d.seen d.may_leave d.room old.db old.contents store stored → (from : MadeFrom) → IsNeededJob old.db old.contents c.args.needed.now from
    → HasStopped d.seen d.may_leave d.clock d.left_at d.room d.faults store store stored (put_job (row_with (Done (c.args.product ∷ [])) from) ∷ []))
    (λ stop is stored ready from of. nothing_given d.seen d.may_leave d.clock d.left_at d.room d.faults old.db old.contents store stored ready (put_job (row_with (Done (c.args.product ∷ [])) from) ∷ []))

pub put_job-requires : goal.put_job-requires
put_job-requires g c =
    let d = g.D.Disk in
    let old = c.args.ledger.now in
    let new = c.intern_product.new.ledger in
    let store = c.args.store.now in
    let r = c.requires.ready in
    let got = c.in_ok-products.ensures in (
      r.0,
      ready_on d.seen d.may_leave d.clock d.left_at d.room d.faults old.db old.contents new.db new.contents store r.0 got.db (got.beside r.0 r.1.beside) r.1,
      row_with (Done (c.args.product ∷ [])) r.2,
      says_row old.db old.contents new.db new.contents (got.stay r.0 r.1.beside) c.args.needed.now r.2 r.3 c.in_ok-id.id c.in_ok-id.ensures c.args.product c.in_ok-products.products (got.held r.0 r.1.beside),
      good_row old.db old.contents c.args.needed.now.job.now r.2 c.args.product r.3.job got.typed,
    )

pub returns-clause-committed : goal.returns-clause-committed
returns-clause-committed g c =
    let d = g.D.Disk in
    let old = c.args.ledger.now in
    let mid = c.intern_product.new.ledger in
    let new = c.put_job.new.self in
    let store = c.args.store.now in
    let store' = c.put_job.new.store in
    let got = c.in_ok-products.ensures in
    let row : JobRow = record { id = c.in_ok-id.id; result = Processed c.args.needed.now.input (DoneRow c.in_ok-products.products) } in
    on_map c.put_job.result
    ((stored : Stored) → IsReady d.seen d.may_leave d.room mid.db mid.contents store stored → (plain : PlainJob) → JobIs (Stands mid.contents) row plain → IsGoodJob plain
    → HasCommitted d.seen d.may_leave d.clock d.left_at d.room d.faults mid.db mid.contents new.db new.contents store store' stored (put_job plain ∷ []))
    ((stored : Stored) → IsReady d.seen d.may_leave d.room old.db old.contents store stored → (from : MadeFrom) → IsNeededJob old.db old.contents c.args.needed.now from
    → HasCommitted d.seen d.may_leave d.clock d.left_at d.room d.faults old.db old.contents new.db new.contents store store' stored (put_job (row_with (Done (c.args.product ∷ [])) from) ∷ []))
    c.put_job.ensures.committed
    (λ all stored ready from of.
    committed_from d.seen d.may_leave d.clock d.left_at d.room d.faults old.db old.contents mid.db mid.contents new.db new.contents store store' stored (put_job (row_with (Done (c.args.product ∷ [])) from) ∷ [])
    got.db (got.stay stored ready.beside)
    (all stored (ready_on d.seen d.may_leave d.clock d.left_at d.room d.faults old.db old.contents mid.db mid.contents store stored got.db (got.beside stored ready.beside) ready)
    (row_with (Done (c.args.product ∷ [])) from)
    (says_row old.db old.contents mid.db mid.contents (got.stay stored ready.beside) c.args.needed.now from of c.in_ok-id.id c.in_ok-id.ensures c.args.product c.in_ok-products.products (got.held stored ready.beside))
    (good_row old.db old.contents c.args.needed.now.job.now from c.args.product of.job got.typed)))

pub returns-clause-stopped : goal.returns-clause-stopped
returns-clause-stopped g c =
    let d = g.D.Disk in
    let old = c.args.ledger.now in
    let mid = c.intern_product.new.ledger in
    let store = c.args.store.now in
    let store' = c.put_job.new.store in
    let got = c.in_ok-products.ensures in
    let row : JobRow = record { id = c.in_ok-id.id; result = Processed c.args.needed.now.input (DoneRow c.in_ok-products.products) } in
    err_map c.put_job.result
    ((stored : Stored) → IsReady d.seen d.may_leave d.room mid.db mid.contents store stored → (plain : PlainJob) → JobIs (Stands mid.contents) row plain → IsGoodJob plain
    → HasStopped d.seen d.may_leave d.clock d.left_at d.room d.faults store store' stored (put_job plain ∷ []))
    ((stored : Stored) → IsReady d.seen d.may_leave d.room old.db old.contents store stored → (from : MadeFrom) → IsNeededJob old.db old.contents c.args.needed.now from
    → HasStopped d.seen d.may_leave d.clock d.left_at d.room d.faults store store' stored (put_job (row_with (Done (c.args.product ∷ [])) from) ∷ []))
    c.put_job.ensures.stopped
    (λ all stored ready from of.
    all stored (ready_on d.seen d.may_leave d.clock d.left_at d.room d.faults old.db old.contents mid.db mid.contents store stored got.db (got.beside stored ready.beside) ready)
    (row_with (Done (c.args.product ∷ [])) from)
    (says_row old.db old.contents mid.db mid.contents (got.stay stored ready.beside) c.args.needed.now from of c.in_ok-id.id c.in_ok-id.ensures c.args.product c.in_ok-products.products (got.held stored ready.beside))
    (good_row old.db old.contents c.args.needed.now.job.now from c.args.product of.job got.typed))
