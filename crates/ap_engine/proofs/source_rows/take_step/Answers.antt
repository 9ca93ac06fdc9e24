use Rattle.std.proofs.Common.{[], ◌∷◌, sym, subst}
use Rattle.ap_db.specs.Changes.{Whole}
use Rattle.ap_engine.specs.Ledgers.{HasCommitted, HasStopped}
use Rattle.ap_engine.specs.Settled.{source_row}
use Rattle.ap_engine.proofs.CreationsPut.{on_ok_to, on_err_to}
use Rattle.ap_engine.proofs.Following.{nothing_given}
use Rattle.ap_engine.proofs.StepsTaken.{is_put, row_stands, row_good}
use Rattle.ap_engine.proofs.source_rows.take_step.Goals as goal

pub put_source-requires : goal.put_source-requires
put_source-requires g c =
    let ledger = c.args.ledger.now in
    let r = c.requires.ready in
    let put = is_put ledger.db ledger.contents c.args.step.now c.in-Put.source c.in-Put.is r.2 r.3 in
    let source = c.in-Put.source.now in
    (r.0, r.1, source_row put.winner, row_stands ledger.db ledger.contents source put.winner put.of c.in-Ok.row c.in-Ok.ensures, row_good ledger.db ledger.contents source put.winner put.of put.folded)

pub returns-in-Ok-clause-committed : goal.returns-in-Ok-clause-committed
returns-in-Ok-clause-committed g c =
    let d = g.D.Disk in
    let ledger = c.args.ledger.now in
    let source = c.in-Put.source.now in
    let last = c.put_source.new in
    on_ok_to c.put_source.result _ _ c.put_source.ensures.committed (λ given stored ready change for there.
    let put = is_put ledger.db ledger.contents c.args.step.now c.in-Put.source c.in-Put.is change for in
    subst (λ (change : Whole). HasCommitted d.seen d.may_leave d.clock d.left_at d.room d.faults ledger.db ledger.contents last.self.db last.self.contents c.args.store.now last.store stored (change ∷ [])) (sym put.same)
    (given stored ready (source_row put.winner) (row_stands ledger.db ledger.contents source put.winner put.of c.in-Ok.row c.in-Ok.ensures) (row_good ledger.db ledger.contents source put.winner put.of put.folded)))

pub returns-in-Ok-clause-stopped : goal.returns-in-Ok-clause-stopped
returns-in-Ok-clause-stopped g c =
    let d = g.D.Disk in
    let ledger = c.args.ledger.now in
    let source = c.in-Put.source.now in
    let last = c.put_source.new in
    on_err_to c.put_source.result _ _ c.put_source.ensures.stopped (λ given stored ready change for there.
    let put = is_put ledger.db ledger.contents c.args.step.now c.in-Put.source c.in-Put.is change for in
    subst (λ (change : Whole). HasStopped d.seen d.may_leave d.clock d.left_at d.room d.faults c.args.store.now last.store stored (change ∷ [])) (sym put.same)
    (given stored ready (source_row put.winner) (row_stands ledger.db ledger.contents source put.winner put.of c.in-Ok.row c.in-Ok.ensures) (row_good ledger.db ledger.contents source put.winner put.of put.folded)))

pub returns-in-Err-clause-stopped : goal.returns-in-Err-clause-stopped
returns-in-Err-clause-stopped g c = λ stored ready change for there.
    let d = g.D.Disk in
    nothing_given d.seen d.may_leave d.clock d.left_at d.room d.faults c.args.ledger.now.db c.args.ledger.now.contents c.args.store.now stored ready (change ∷ [])
