use Rattle.std.proofs.Common.{List, sym, subst}
use Rattle.ap_sources.specs.Sources.{sources}
use Rattle.ap_engine.specs.Changes.{source_changes}
use Rattle.ap_engine.specs.SourceSteps.{AreStepsFor}
use Rattle.ap_engine.specs.declared.source_rows.Step.{Step}
use Rattle.ap_engine.proofs.CreationsPut.{on_ok_to, on_err_to}
use Rattle.ap_engine.proofs.Following.{nothing_given}
use Rattle.ap_engine.proofs.StepsThere.{sources_read, all_there}
use Rattle.ap_engine.proofs.source_rows.put_source_rows.Goals as goal

pub returns-in-Err-clause-stopped : goal.returns-in-Err-clause-stopped
returns-in-Err-clause-stopped g c = λ config winners stored ready read are.
    let d = g.D.Disk in
    nothing_given d.seen d.may_leave d.clock d.left_at d.room d.faults c.args.ledger.now.db c.args.ledger.now.contents c.args.store.now stored ready (source_changes config winners stored.tables)

pub take_each-requires : goal.take_each-requires
take_each-requires g c =
    let r = c.requires.ready in
    let ledger = c.args.ledger.now in
    record { ready = (r.2, r.3, source_changes r.0 r.1 r.2.tables, subst (λ (steps : List Step). AreStepsFor ledger.db ledger.contents steps (source_changes r.0 r.1 r.2.tables)) (sym c.deref.ensures.value) (c.in-Ok.ensures r.2 r.3.beside (sources r.0 r.1) (sources_read r.0 r.1 r.4) r.5), all_there r.0 r.1 r.2.tables) }

pub returns-clause-committed : goal.returns-clause-committed
returns-clause-committed g c =
    let ledger = c.args.ledger.now in
    on_ok_to c.take_each.result _ _ c.take_each.ensures.committed (λ given config winners stored ready read are.
    given stored ready (source_changes config winners stored.tables)
    (subst (λ (steps : List Step). AreStepsFor ledger.db ledger.contents steps (source_changes config winners stored.tables)) (sym c.deref.ensures.value) (c.in-Ok.ensures stored ready.beside (sources config winners) (sources_read config winners read) are)) (all_there config winners stored.tables))

pub returns-clause-stopped : goal.returns-clause-stopped
returns-clause-stopped g c =
    let ledger = c.args.ledger.now in
    on_err_to c.take_each.result _ _ c.take_each.ensures.stopped (λ given config winners stored ready read are.
    given stored ready (source_changes config winners stored.tables)
    (subst (λ (steps : List Step). AreStepsFor ledger.db ledger.contents steps (source_changes config winners stored.tables)) (sym c.deref.ensures.value) (c.in-Ok.ensures stored ready.beside (sources config winners) (sources_read config winners read) are)) (all_there config winners stored.tables))
