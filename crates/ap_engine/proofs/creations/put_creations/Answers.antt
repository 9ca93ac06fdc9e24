use Rattle.std.proofs.Common.{◌≡◌, ◌++◌, List, Contains, subst, sym}
use Rattle.std.specs.List.{AllByRecursion}
use Rattle.ap_scan.specs.declared.results.Winner.{Winner}
use Rattle.ap_db.specs.Listed.{AreAll}
use Rattle.ap_db.specs.Stored.{Stored}
use Rattle.ap_sources.specs.Sources.{sources}
use Rattle.ap_engine.specs.declared.fault.EngineFault.TheVariants.{Unbuilt}
use Rattle.ap_engine.specs.declared.creations.NeededCreation.{NeededCreation}
use Rattle.ap_engine.specs.Changes.{create_changes}
use Rattle.ap_engine.specs.Worlds.{AreQuiet}
use Rattle.ap_engine.specs.Interned.{AreSourcesOf}
use Rattle.ap_engine.specs.Ledgers.{IsReady, HasCommitted, HasStopped}
use Rattle.ap_engine.specs.Asked.{meanings_of, needed_sources, IsNeeded, AreToPut, puts_of, asked_of, IsFree}
use Rattle.ap_engine.proofs.Following.{nothing_given}
use Rattle.ap_engine.proofs.NeededSources.{sources_are_held}
use Rattle.ap_engine.proofs.PutCreations.{inputs_are}
use Rattle.ap_engine.proofs.CreationsPut.{on_ok_to, on_err_to, if_err_to, are_to_put, committed_from}
use Rattle.ap_engine.proofs.creations.put_creations.Goals as goal

pub needed_creations-requires-clause-held : goal.needed_creations-requires-clause-held
needed_creations-requires-clause-held g c =
    let r = c.requires.ready in
    sources_are_held c.args.ledger.now.db c.args.ledger.now.contents c.args.all.now (sources c.args.config.now r.0) r.4

pub returns-in-Err-clause-stopped : goal.returns-in-Err-clause-stopped
returns-in-Err-clause-stopped g c = λ winners stored ready quiet are.
    let d = g.D.Disk in
    let m = meanings_of g.B.Builders.declares g.B.Builders.creates g.B.Builders.makes in
    let config = c.args.config.now in
    let start = c.args.ledger.now in
    let first = c.args.store.now in
    let all = c.args.all.now in
    nothing_given d.seen d.may_leave d.clock d.left_at d.room d.faults start.db start.contents first stored ready (create_changes m config winners stored.tables)

pub returns-in-Err-clause-inputs : goal.returns-in-Err-clause-inputs
returns-in-Err-clause-inputs g c = λ winners quiet are.
    let d = g.D.Disk in
    let m = meanings_of g.B.Builders.declares g.B.Builders.creates g.B.Builders.makes in
    let config = c.args.config.now in
    let start = c.args.ledger.now in
    let first = c.args.store.now in
    let all = c.args.all.now in
    inputs_are m config winners quiet start.db start.contents all are c.read_ranges.ensures

pub put_each-requires-clause-ready : goal.put_each-requires-clause-ready
put_each-requires-clause-ready g c =
    let d = g.D.Disk in
    let m = meanings_of g.B.Builders.declares g.B.Builders.creates g.B.Builders.makes in
    let config = c.args.config.now in
    let start = c.args.ledger.now in
    let first = c.args.store.now in
    let all = c.args.all.now in
    let mid = c.needed_creations.new.ledger in
    let e = c.in-Ok.ensures in
    let needed = c.deref.result.now in
    let r = c.requires.ready in
    let to_put = are_to_put m config r.0 d.seen d.may_leave d.clock d.left_at d.room d.faults start.db start.contents mid.db mid.contents c.needed_creations.ensures.db first r.1 needed r.2 r.3 (e.beside r.1 r.2.beside)
    (subst (λ (needed : List NeededCreation). AreAll (IsNeeded m config r.0 mid.db mid.contents) needed (needed_sources m config r.0 r.1.tables)) (sym c.deref.ensures.value) (e.found r.1 r.2.beside m r.0 r.3 r.4))
    (inputs_are m config r.0 r.3 start.db start.contents all r.4 c.read_ranges.ensures) in
    (r.0, r.1, needed_sources m config r.0 r.1.tables, to_put)

pub returns-clause-inputs : goal.returns-clause-inputs
returns-clause-inputs g c = λ winners quiet are.
    let d = g.D.Disk in
    let m = meanings_of g.B.Builders.declares g.B.Builders.creates g.B.Builders.makes in
    let config = c.args.config.now in
    let start = c.args.ledger.now in
    let first = c.args.store.now in
    let all = c.args.all.now in
    inputs_are m config winners quiet start.db start.contents all are c.read_ranges.ensures

pub returns-clause-committed : goal.returns-clause-committed
returns-clause-committed g c =
    let d = g.D.Disk in
    let m = meanings_of g.B.Builders.declares g.B.Builders.creates g.B.Builders.makes in
    let config = c.args.config.now in
    let start = c.args.ledger.now in
    let first = c.args.store.now in
    let all = c.args.all.now in
    let mid = c.needed_creations.new.ledger in
    let e = c.in-Ok.ensures in
    let needed = c.deref.result.now in
    let last = c.put_each.new in
    on_ok_to c.put_each.result
    ((winners : List Winner) (stored : Stored) (asked : List Winner) → AreToPut m config winners d.seen d.may_leave d.room mid.db mid.contents first stored needed asked → HasCommitted d.seen d.may_leave d.clock d.left_at d.room d.faults mid.db mid.contents last.ledger.db last.ledger.contents first last.store stored (puts_of m config winners asked))
    ((winners : List Winner) (stored : Stored) → IsReady d.seen d.may_leave d.room start.db start.contents first stored → AreQuiet m config winners → AreSourcesOf start.db start.contents all (sources config winners) → HasCommitted d.seen d.may_leave d.clock d.left_at d.room d.faults start.db start.contents last.ledger.db last.ledger.contents first last.store stored (create_changes m config winners stored.tables))
    c.put_each.ensures.committed
    (λ committed winners stored ready quiet are.
    let to_put = are_to_put m config winners d.seen d.may_leave d.clock d.left_at d.room d.faults start.db start.contents mid.db mid.contents c.needed_creations.ensures.db first stored needed ready quiet (e.beside stored ready.beside)
    (subst (λ (needed : List NeededCreation). AreAll (IsNeeded m config winners mid.db mid.contents) needed (needed_sources m config winners stored.tables)) (sym c.deref.ensures.value) (e.found stored ready.beside m winners quiet are))
    (inputs_are m config winners quiet start.db start.contents all are c.read_ranges.ensures) in
    committed_from m config winners d.seen d.may_leave d.clock d.left_at d.room d.faults start.db start.contents mid.db mid.contents c.needed_creations.ensures.db last.ledger.db last.ledger.contents first last.store stored (create_changes m config winners stored.tables) (e.stay stored ready.beside) (committed winners stored (needed_sources m config winners stored.tables) to_put))

pub returns-clause-free : goal.returns-clause-free
returns-clause-free g c =
    let d = g.D.Disk in
    let m = meanings_of g.B.Builders.declares g.B.Builders.creates g.B.Builders.makes in
    let config = c.args.config.now in
    let start = c.args.ledger.now in
    let first = c.args.store.now in
    let all = c.args.all.now in
    let mid = c.needed_creations.new.ledger in
    let e = c.in-Ok.ensures in
    let needed = c.deref.result.now in
    let last = c.put_each.new in
    on_ok_to c.put_each.result
    ((winners : List Winner) (stored : Stored) (asked : List Winner) → AreToPut m config winners d.seen d.may_leave d.room mid.db mid.contents first stored needed asked → AllByRecursion (IsFree m config winners) asked)
    ((winners : List Winner) (stored : Stored) → IsReady d.seen d.may_leave d.room start.db start.contents first stored → AreQuiet m config winners → AreSourcesOf start.db start.contents all (sources config winners) → AllByRecursion (IsFree m config winners) (needed_sources m config winners stored.tables))
    c.put_each.ensures.free
    (λ free winners stored ready quiet are.
    let to_put = are_to_put m config winners d.seen d.may_leave d.clock d.left_at d.room d.faults start.db start.contents mid.db mid.contents c.needed_creations.ensures.db first stored needed ready quiet (e.beside stored ready.beside)
    (subst (λ (needed : List NeededCreation). AreAll (IsNeeded m config winners mid.db mid.contents) needed (needed_sources m config winners stored.tables)) (sym c.deref.ensures.value) (e.found stored ready.beside m winners quiet are))
    (inputs_are m config winners quiet start.db start.contents all are c.read_ranges.ensures) in
    free winners stored (needed_sources m config winners stored.tables) to_put)

pub returns-clause-asked : goal.returns-clause-asked
returns-clause-asked g c =
    let d = g.D.Disk in
    let m = meanings_of g.B.Builders.declares g.B.Builders.creates g.B.Builders.makes in
    let config = c.args.config.now in
    let start = c.args.ledger.now in
    let first = c.args.store.now in
    let all = c.args.all.now in
    let mid = c.needed_creations.new.ledger in
    let e = c.in-Ok.ensures in
    let needed = c.deref.result.now in
    let last = c.put_each.new in
    on_ok_to c.put_each.result
    ((winners : List Winner) (stored : Stored) (asked : List Winner) → AreToPut m config winners d.seen d.may_leave d.room mid.db mid.contents first stored needed asked → last.bench ≡ c.args.bench.now ++ asked_of m config winners asked)
    ((winners : List Winner) (stored : Stored) → IsReady d.seen d.may_leave d.room start.db start.contents first stored → AreQuiet m config winners → AreSourcesOf start.db start.contents all (sources config winners) → last.bench ≡ c.args.bench.now ++ asked_of m config winners (needed_sources m config winners stored.tables))
    c.put_each.ensures.asked
    (λ noted winners stored ready quiet are.
    let to_put = are_to_put m config winners d.seen d.may_leave d.clock d.left_at d.room d.faults start.db start.contents mid.db mid.contents c.needed_creations.ensures.db first stored needed ready quiet (e.beside stored ready.beside)
    (subst (λ (needed : List NeededCreation). AreAll (IsNeeded m config winners mid.db mid.contents) needed (needed_sources m config winners stored.tables)) (sym c.deref.ensures.value) (e.found stored ready.beside m winners quiet are))
    (inputs_are m config winners quiet start.db start.contents all are c.read_ranges.ensures) in
    noted winners stored (needed_sources m config winners stored.tables) to_put)

pub returns-clause-stopped : goal.returns-clause-stopped
returns-clause-stopped g c =
    let d = g.D.Disk in
    let m = meanings_of g.B.Builders.declares g.B.Builders.creates g.B.Builders.makes in
    let config = c.args.config.now in
    let start = c.args.ledger.now in
    let first = c.args.store.now in
    let all = c.args.all.now in
    let mid = c.needed_creations.new.ledger in
    let e = c.in-Ok.ensures in
    let needed = c.deref.result.now in
    let last = c.put_each.new in
    on_err_to c.put_each.result
    ((winners : List Winner) (stored : Stored) (asked : List Winner) → AreToPut m config winners d.seen d.may_leave d.room mid.db mid.contents first stored needed asked → HasStopped d.seen d.may_leave d.clock d.left_at d.room d.faults first last.store stored (puts_of m config winners asked))
    ((winners : List Winner) (stored : Stored) → IsReady d.seen d.may_leave d.room start.db start.contents first stored → AreQuiet m config winners → AreSourcesOf start.db start.contents all (sources config winners) → HasStopped d.seen d.may_leave d.clock d.left_at d.room d.faults first last.store stored (create_changes m config winners stored.tables))
    c.put_each.ensures.stopped
    (λ stopped winners stored ready quiet are.
    let to_put = are_to_put m config winners d.seen d.may_leave d.clock d.left_at d.room d.faults start.db start.contents mid.db mid.contents c.needed_creations.ensures.db first stored needed ready quiet (e.beside stored ready.beside)
    (subst (λ (needed : List NeededCreation). AreAll (IsNeeded m config winners mid.db mid.contents) needed (needed_sources m config winners stored.tables)) (sym c.deref.ensures.value) (e.found stored ready.beside m winners quiet are))
    (inputs_are m config winners quiet start.db start.contents all are c.read_ranges.ensures) in
    stopped winners stored (needed_sources m config winners stored.tables) to_put)

pub returns-clause-unbuilt : goal.returns-clause-unbuilt
returns-clause-unbuilt g c =
    let d = g.D.Disk in
    let m = meanings_of g.B.Builders.declares g.B.Builders.creates g.B.Builders.makes in
    let config = c.args.config.now in
    let start = c.args.ledger.now in
    let first = c.args.store.now in
    let all = c.args.all.now in
    let mid = c.needed_creations.new.ledger in
    let e = c.in-Ok.ensures in
    let needed = c.deref.result.now in
    let last = c.put_each.new in
    if_err_to c.put_each.result
    (λ stop. stop ≡ Unbuilt → (winners : List Winner) (stored : Stored) (asked : List Winner) → AreToPut m config winners d.seen d.may_leave d.room mid.db mid.contents first stored needed asked → (winner : Winner) × Contains asked winner × (¬ IsFree m config winners winner))
    (λ stop. stop ≡ Unbuilt → (winners : List Winner) (stored : Stored) → IsReady d.seen d.may_leave d.room start.db start.contents first stored → AreQuiet m config winners → AreSourcesOf start.db start.contents all (sources config winners) → (winner : Winner) × Contains (needed_sources m config winners stored.tables) winner × (¬ IsFree m config winners winner))
    c.put_each.ensures.unbuilt
    (λ stop unbuilt is winners stored ready quiet are.
    let to_put = are_to_put m config winners d.seen d.may_leave d.clock d.left_at d.room d.faults start.db start.contents mid.db mid.contents c.needed_creations.ensures.db first stored needed ready quiet (e.beside stored ready.beside)
    (subst (λ (needed : List NeededCreation). AreAll (IsNeeded m config winners mid.db mid.contents) needed (needed_sources m config winners stored.tables)) (sym c.deref.ensures.value) (e.found stored ready.beside m winners quiet are))
    (inputs_are m config winners quiet start.db start.contents all are c.read_ranges.ensures) in
    unbuilt is winners stored (needed_sources m config winners stored.tables) to_put)
