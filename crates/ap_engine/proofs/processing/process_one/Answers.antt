use Rattle.std.proofs.Common.{◌∙◌, [], ◌∷◌, sym, ap, subst}
use Rattle.ap_rows.specs.Inputs.{MadeFrom}
use Rattle.ap_builder.specs.Views.{job_view}
use Rattle.ap_builder.specs.declared.work.Outcome.{Outcome}
use Rattle.ap_db.specs.Changes.{put_job}
use Rattle.ap_engine.specs.Ledgers.{HasCommitted}
use Rattle.ap_engine.specs.NeededJobs.{row_with, row_made}
use Rattle.ap_engine.proofs.Following.{nothing_given}
use Rattle.ap_engine.proofs.ProductThings.{made_fits}
use Rattle.ap_engine.proofs.processing.process_one.Goals as goal

pub returns-then-not-has-clause-stopped : goal.returns-then-not-has-clause-stopped
returns-then-not-has-clause-stopped g c = λ stored ready from of.
    let d = g.D.Disk in
    nothing_given d.seen d.may_leave d.clock d.left_at d.room d.faults c.args.ledger.now.db c.args.ledger.now.contents c.args.store.now stored ready (put_job (row_made g.B.Builders.makes from) ∷ [])

pub returns-in-Err-clause-stopped : goal.returns-in-Err-clause-stopped
returns-in-Err-clause-stopped g c = λ stored ready from of.
    let d = g.D.Disk in
    nothing_given d.seen d.may_leave d.clock d.left_at d.room d.faults c.args.ledger.now.db c.args.ledger.now.contents c.args.store.now stored ready (put_job (row_made g.B.Builders.makes from) ∷ [])

pub record_one-requires-clause-fit : goal.record_one-requires-clause-fit
record_one-requires-clause-fit g c =
    let r = c.requires in
    made_fits g.B.Builders.makes g.met.B.Builders.made c.args.ledger.now.db c.args.ledger.now.contents c.args.needed.now.job.now r.2 c.in-Ok.product r.3.job
    (ap (λ (from : MadeFrom). g.B.Builders.makes (job_view from)) (sym r.3.job.same) ∙ c.in-Ok.ensures.product r.2.bytes r.3.job.held.stands)

pub returns-in-Ok-record_one-clause-committed : goal.returns-in-Ok-record_one-clause-committed
returns-in-Ok-record_one-clause-committed g c = λ stored ready from of.
    let d = g.D.Disk in
    let old = c.args.ledger.now in
    let new = c.record_one.new.ledger in
    subst (λ (outcome : Outcome). HasCommitted d.seen d.may_leave d.clock d.left_at d.room d.faults old.db old.contents new.db new.contents c.args.store.now c.record_one.new.store stored (put_job (row_with outcome from) ∷ []))
    (sym (c.in-Ok.ensures.product from.bytes of.job.held.stands) ∙ ap (λ (from : MadeFrom). g.B.Builders.makes (job_view from)) of.job.same)
    (c.in-Ok-record_one.ensures.committed stored ready from of)
