use Rattle.std.proofs.Common.{[], ◌∷◌}
use Rattle.ap_engine.specs.Settled.{create_row}
use Rattle.ap_engine.specs.Asked.{meanings_of, puts_of}
use Rattle.ap_engine.proofs.Following.{nothing_given}
use Rattle.ap_engine.proofs.PutCreations.{its_bytes, its_bytes_stand, not_free, is_free, row_is, row_good}
use Rattle.ap_engine.proofs.creations.put_creation.Goals as goal

pub returns-in-Err-clause-stopped : goal.returns-in-Err-clause-stopped
returns-in-Err-clause-stopped g c = λ winners stored winner to_put.
    let d = g.D.Disk in
    let m = meanings_of g.B.Builders.declares g.B.Builders.creates g.B.Builders.makes in
    nothing_given d.seen d.may_leave d.clock d.left_at d.room d.faults c.args.ledger.now.db c.args.ledger.now.contents c.args.store.now stored to_put.ready (puts_of m c.args.config.now winners (winner ∷ []))

pub returns-in-Err-clause-unbuilt : goal.returns-in-Err-clause-unbuilt
returns-in-Err-clause-unbuilt g c = λ unbuilt winners stored winner to_put.
    let d = g.D.Disk in
    let m = meanings_of g.B.Builders.declares g.B.Builders.creates g.B.Builders.makes in
    let ledger = c.args.ledger.now in
    not_free m c.args.config.now winners d.seen d.may_leave d.room ledger.db ledger.contents c.args.store.now stored c.args.creation.now winner to_put
    (c.in-Err.ensures.unbuilt unbuilt (its_bytes m c.args.config.now winners d.seen d.may_leave d.room ledger.db ledger.contents c.args.store.now stored c.args.creation.now winner to_put)
    (its_bytes_stand m c.args.config.now winners d.seen d.may_leave d.room ledger.db ledger.contents c.args.store.now stored c.args.creation.now winner to_put))

pub returns-in-Err-creation_row-clause-stopped : goal.returns-in-Err-creation_row-clause-stopped
returns-in-Err-creation_row-clause-stopped g c = λ winners stored winner to_put.
    let d = g.D.Disk in
    let m = meanings_of g.B.Builders.declares g.B.Builders.creates g.B.Builders.makes in
    nothing_given d.seen d.may_leave d.clock d.left_at d.room d.faults c.args.ledger.now.db c.args.ledger.now.contents c.args.store.now stored to_put.ready (puts_of m c.args.config.now winners (winner ∷ []))

pub put_create-requires : goal.put_create-requires
put_create-requires g c =
    let d = g.D.Disk in
    let m = meanings_of g.B.Builders.declares g.B.Builders.creates g.B.Builders.makes in
    let ledger = c.args.ledger.now in
    let r = c.requires.ready in
    let came = c.in-Ok.ensures.jobs (its_bytes m c.args.config.now r.0 d.seen d.may_leave d.room ledger.db ledger.contents c.args.store.now r.1 c.args.creation.now r.2 r.3) (its_bytes_stand m c.args.config.now r.0 d.seen d.may_leave d.room ledger.db ledger.contents c.args.store.now r.1 c.args.creation.now r.2 r.3) in
    (r.1, r.3.ready, create_row m c.args.config.now r.0 r.2.path, row_is m c.args.config.now r.0 d.seen d.may_leave d.room ledger.db ledger.contents c.args.store.now r.1 c.args.creation.now r.2 r.3 c.in-Ok.jobs.items came c.in-Ok-creation_row.row c.in-Ok-creation_row.ensures, row_good m c.args.config.now r.0 d.seen d.may_leave d.room ledger.db ledger.contents c.args.store.now r.1 c.args.creation.now r.2 r.3 c.in-Ok.jobs.items came)

pub returns-in-Ok-put_create-clause-committed : goal.returns-in-Ok-put_create-clause-committed
returns-in-Ok-put_create-clause-committed g c = λ winners stored winner to_put.
    let d = g.D.Disk in
    let m = meanings_of g.B.Builders.declares g.B.Builders.creates g.B.Builders.makes in
    let ledger = c.args.ledger.now in
    let came = c.in-Ok.ensures.jobs (its_bytes m c.args.config.now winners d.seen d.may_leave d.room ledger.db ledger.contents c.args.store.now stored c.args.creation.now winner to_put) (its_bytes_stand m c.args.config.now winners d.seen d.may_leave d.room ledger.db ledger.contents c.args.store.now stored c.args.creation.now winner to_put) in
    c.in-Ok-put_create.ensures.committed stored to_put.ready (create_row m c.args.config.now winners winner.path)
    (row_is m c.args.config.now winners d.seen d.may_leave d.room ledger.db ledger.contents c.args.store.now stored c.args.creation.now winner to_put c.in-Ok.jobs.items came c.in-Ok-creation_row.row c.in-Ok-creation_row.ensures) (row_good m c.args.config.now winners d.seen d.may_leave d.room ledger.db ledger.contents c.args.store.now stored c.args.creation.now winner to_put c.in-Ok.jobs.items came)

pub returns-in-Ok-put_create-clause-free : goal.returns-in-Ok-put_create-clause-free
returns-in-Ok-put_create-clause-free g c = λ winners stored winner to_put.
    let d = g.D.Disk in
    let m = meanings_of g.B.Builders.declares g.B.Builders.creates g.B.Builders.makes in
    let ledger = c.args.ledger.now in
    let came = c.in-Ok.ensures.jobs (its_bytes m c.args.config.now winners d.seen d.may_leave d.room ledger.db ledger.contents c.args.store.now stored c.args.creation.now winner to_put) (its_bytes_stand m c.args.config.now winners d.seen d.may_leave d.room ledger.db ledger.contents c.args.store.now stored c.args.creation.now winner to_put) in
    is_free m c.args.config.now winners d.seen d.may_leave d.room ledger.db ledger.contents c.args.store.now stored c.args.creation.now winner to_put c.in-Ok.jobs.items came

pub returns-in-Err-put_create-clause-stopped : goal.returns-in-Err-put_create-clause-stopped
returns-in-Err-put_create-clause-stopped g c = λ winners stored winner to_put.
    let d = g.D.Disk in
    let m = meanings_of g.B.Builders.declares g.B.Builders.creates g.B.Builders.makes in
    let ledger = c.args.ledger.now in
    let came = c.in-Ok.ensures.jobs (its_bytes m c.args.config.now winners d.seen d.may_leave d.room ledger.db ledger.contents c.args.store.now stored c.args.creation.now winner to_put) (its_bytes_stand m c.args.config.now winners d.seen d.may_leave d.room ledger.db ledger.contents c.args.store.now stored c.args.creation.now winner to_put) in
    c.in-Err-put_create.ensures.stopped stored to_put.ready (create_row m c.args.config.now winners winner.path)
    (row_is m c.args.config.now winners d.seen d.may_leave d.room ledger.db ledger.contents c.args.store.now stored c.args.creation.now winner to_put c.in-Ok.jobs.items came c.in-Ok-creation_row.row c.in-Ok-creation_row.ensures) (row_good m c.args.config.now winners d.seen d.may_leave d.room ledger.db ledger.contents c.args.store.now stored c.args.creation.now winner to_put c.in-Ok.jobs.items came)
