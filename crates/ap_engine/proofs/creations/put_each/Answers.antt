use Rattle.std.proofs.Common.{◌<◌, ◌+◌, ℕ, subst}
use Rattle.ap_engine.specs.Asked.{meanings_of}
use Rattle.ap_engine.proofs.SliceSteps.{after, first_of, none_of}
use Rattle.ap_engine.proofs.CreationsPut.{rose_on, ArePut, none_put, all_put, next, stored_now, next_asked, next_to_put, one_put, one_stopped}
use Rattle.ap_engine.proofs.creations.put_each.Goals as goal

pub loop-rest-init : goal.loop-rest-init
loop-rest-init g c = λ winners stored asked to_put.
    let d = g.D.Disk in
    let m = meanings_of g.B.Builders.declares g.B.Builders.creates g.B.Builders.makes in
    let config = c.args.config.now in
    let start = c.args.ledger.now in
    let first = c.args.store.now in
    let bench = c.args.bench.now in
    let needed = c.args.needed.now in
    none_put m config winners d.seen d.may_leave d.clock d.left_at d.room d.faults start.db start.contents first stored bench asked needed to_put

pub put_creation-requires-clause-ready : goal.put_creation-requires-clause-ready
put_creation-requires-clause-ready g c =
    let d = g.D.Disk in
    let m = meanings_of g.B.Builders.declares g.B.Builders.creates g.B.Builders.makes in
    let config = c.args.config.now in
    let start = c.args.ledger.now in
    let first = c.args.store.now in
    let bench = c.args.bench.now in
    let needed = c.args.needed.now in
    let now = c.loop-rest.ledger in
    let store = c.loop-rest.store in
    let work = c.loop-rest.bench in
    let rest = c.loop-rest.rest.now in
    let creation = c.creation-item.result in
    let r = c.requires.ready in
    let put = subst (ArePut m config r.0 d.seen d.may_leave d.clock d.left_at d.room d.faults start.db start.contents now.db now.contents first store r.1 bench work r.2) (first_of rest creation c.in-len1-up.len_at_least c.creation-item.is) (c.loop-rest.invariant r.0 r.1 r.2 r.3) in
    (r.0, stored_now m config r.0 d.seen d.may_leave d.clock d.left_at d.room d.faults start.db start.contents now.db now.contents first store r.1 bench work r.2 creation (after rest) needed r.3 put, (next m config r.0 d.seen d.may_leave d.clock d.left_at d.room d.faults start.db start.contents now.db now.contents first store r.1 bench work r.2 creation (after rest) needed r.3 put).winner, next_to_put m config r.0 d.seen d.may_leave d.clock d.left_at d.room d.faults start.db start.contents now.db now.contents first store r.1 bench work r.2 creation (after rest) needed r.3 put)

pub returns-in-Err-clause-stopped : goal.returns-in-Err-clause-stopped
returns-in-Err-clause-stopped g c = λ winners stored asked to_put.
    let d = g.D.Disk in
    let m = meanings_of g.B.Builders.declares g.B.Builders.creates g.B.Builders.makes in
    let config = c.args.config.now in
    let start = c.args.ledger.now in
    let first = c.args.store.now in
    let bench = c.args.bench.now in
    let needed = c.args.needed.now in
    let now = c.loop-rest.ledger in
    let store = c.loop-rest.store in
    let work = c.loop-rest.bench in
    let rest = c.loop-rest.rest.now in
    let creation = c.creation-item.result in
    let put = subst (ArePut m config winners d.seen d.may_leave d.clock d.left_at d.room d.faults start.db start.contents now.db now.contents first store stored bench work asked) (first_of rest creation c.in-len1-up.len_at_least c.creation-item.is) (c.loop-rest.invariant winners stored asked to_put) in
    one_stopped m config winners d.seen d.may_leave d.clock d.left_at d.room d.faults start.db start.contents now.db now.contents first store stored bench work asked creation (after rest) needed to_put put c.put_creation.new.store
    (c.in-Err.ensures.stopped winners (stored_now m config winners d.seen d.may_leave d.clock d.left_at d.room d.faults start.db start.contents now.db now.contents first store stored bench work asked creation (after rest) needed to_put put) (next m config winners d.seen d.may_leave d.clock d.left_at d.room d.faults start.db start.contents now.db now.contents first store stored bench work asked creation (after rest) needed to_put put).winner (next_to_put m config winners d.seen d.may_leave d.clock d.left_at d.room d.faults start.db start.contents now.db now.contents first store stored bench work asked creation (after rest) needed to_put put))

pub returns-in-Err-clause-unbuilt : goal.returns-in-Err-clause-unbuilt
returns-in-Err-clause-unbuilt g c = λ unbuilt winners stored asked to_put.
    let d = g.D.Disk in
    let m = meanings_of g.B.Builders.declares g.B.Builders.creates g.B.Builders.makes in
    let config = c.args.config.now in
    let start = c.args.ledger.now in
    let first = c.args.store.now in
    let bench = c.args.bench.now in
    let needed = c.args.needed.now in
    let now = c.loop-rest.ledger in
    let store = c.loop-rest.store in
    let work = c.loop-rest.bench in
    let rest = c.loop-rest.rest.now in
    let creation = c.creation-item.result in
    let put = subst (ArePut m config winners d.seen d.may_leave d.clock d.left_at d.room d.faults start.db start.contents now.db now.contents first store stored bench work asked) (first_of rest creation c.in-len1-up.len_at_least c.creation-item.is) (c.loop-rest.invariant winners stored asked to_put) in (
      (next m config winners d.seen d.may_leave d.clock d.left_at d.room d.faults start.db start.contents now.db now.contents first store stored bench work asked creation (after rest) needed to_put put).winner,
      next_asked m config winners d.seen d.may_leave d.clock d.left_at d.room d.faults start.db start.contents now.db now.contents first store stored bench work asked creation (after rest) needed to_put put,
      c.in-Err.ensures.unbuilt unbuilt winners (stored_now m config winners d.seen d.may_leave d.clock d.left_at d.room d.faults start.db start.contents now.db now.contents first store stored bench work asked creation (after rest) needed to_put put) (next m config winners d.seen d.may_leave d.clock d.left_at d.room d.faults start.db start.contents now.db now.contents first store stored bench work asked creation (after rest) needed to_put put).winner (next_to_put m config winners d.seen d.may_leave d.clock d.left_at d.room d.faults start.db start.contents now.db now.contents first store stored bench work asked creation (after rest) needed to_put put),
    )

pub returns-in-Err-clause-full : goal.returns-in-Err-clause-full
returns-in-Err-clause-full g c = λ l w is.
    let r = c.requires.ready in
    subst (λ (n : ℕ). n < l + w) (c.loop-rest.invariant r.0 r.1 r.2 r.3).committed.limit (c.in-Err.ensures.full l w is)

pub returns-in-Err-clause-disk : goal.returns-in-Err-clause-disk
returns-in-Err-clause-disk g c = λ is.
    let d = g.D.Disk in
    let r = c.requires.ready in
    rose_on (d.faults c.args.store.now.0) (d.faults c.loop-rest.store.0) (d.faults c.put_creation.new.store.0) (c.loop-rest.invariant r.0 r.1 r.2 r.3).committed.commits.later (c.in-Err.ensures.disk is)

pub loop-rest-preserved : goal.loop-rest-preserved
loop-rest-preserved g c = λ winners stored asked to_put.
    let d = g.D.Disk in
    let m = meanings_of g.B.Builders.declares g.B.Builders.creates g.B.Builders.makes in
    let config = c.args.config.now in
    let start = c.args.ledger.now in
    let first = c.args.store.now in
    let bench = c.args.bench.now in
    let needed = c.args.needed.now in
    let now = c.loop-rest.ledger in
    let store = c.loop-rest.store in
    let work = c.loop-rest.bench in
    let rest = c.loop-rest.rest.now in
    let creation = c.creation-item.result in
    let put = subst (ArePut m config winners d.seen d.may_leave d.clock d.left_at d.room d.faults start.db start.contents now.db now.contents first store stored bench work asked) (first_of rest creation c.in-len1-up.len_at_least c.creation-item.is) (c.loop-rest.invariant winners stored asked to_put) in
    let last = c.put_creation.new in
    one_put m config winners d.seen d.may_leave d.clock d.left_at d.room d.faults start.db start.contents now.db now.contents first store stored bench work asked creation (after rest) needed to_put put last.ledger.db last.ledger.contents last.store last.bench
    (c.in-Ok.ensures.committed winners (stored_now m config winners d.seen d.may_leave d.clock d.left_at d.room d.faults start.db start.contents now.db now.contents first store stored bench work asked creation (after rest) needed to_put put) (next m config winners d.seen d.may_leave d.clock d.left_at d.room d.faults start.db start.contents now.db now.contents first store stored bench work asked creation (after rest) needed to_put put).winner (next_to_put m config winners d.seen d.may_leave d.clock d.left_at d.room d.faults start.db start.contents now.db now.contents first store stored bench work asked creation (after rest) needed to_put put))
    (c.in-Ok.ensures.free winners (stored_now m config winners d.seen d.may_leave d.clock d.left_at d.room d.faults start.db start.contents now.db now.contents first store stored bench work asked creation (after rest) needed to_put put) (next m config winners d.seen d.may_leave d.clock d.left_at d.room d.faults start.db start.contents now.db now.contents first store stored bench work asked creation (after rest) needed to_put put).winner (next_to_put m config winners d.seen d.may_leave d.clock d.left_at d.room d.faults start.db start.contents now.db now.contents first store stored bench work asked creation (after rest) needed to_put put))
    c.in-Ok.ensures.asked

pub returns-clause-committed : goal.returns-clause-committed
returns-clause-committed g c = λ winners stored asked to_put.
    let d = g.D.Disk in
    let m = meanings_of g.B.Builders.declares g.B.Builders.creates g.B.Builders.makes in
    let config = c.args.config.now in
    let start = c.args.ledger.now in
    let first = c.args.store.now in
    let bench = c.args.bench.now in
    let needed = c.args.needed.now in
    let now = c.loop-rest.ledger in
    let store = c.loop-rest.store in
    let work = c.loop-rest.bench in
    let rest = c.loop-rest.rest.now in
    (all_put m config winners d.seen d.may_leave d.clock d.left_at d.room d.faults start.db start.contents now.db now.contents first store stored bench work asked
    (subst (ArePut m config winners d.seen d.may_leave d.clock d.left_at d.room d.faults start.db start.contents now.db now.contents first store stored bench work asked) (none_of rest c.in_default.len_below) (c.loop-rest.invariant winners stored asked to_put))).committed

pub returns-clause-free : goal.returns-clause-free
returns-clause-free g c = λ winners stored asked to_put.
    let d = g.D.Disk in
    let m = meanings_of g.B.Builders.declares g.B.Builders.creates g.B.Builders.makes in
    let config = c.args.config.now in
    let start = c.args.ledger.now in
    let first = c.args.store.now in
    let bench = c.args.bench.now in
    let needed = c.args.needed.now in
    let now = c.loop-rest.ledger in
    let store = c.loop-rest.store in
    let work = c.loop-rest.bench in
    let rest = c.loop-rest.rest.now in
    (all_put m config winners d.seen d.may_leave d.clock d.left_at d.room d.faults start.db start.contents now.db now.contents first store stored bench work asked
    (subst (ArePut m config winners d.seen d.may_leave d.clock d.left_at d.room d.faults start.db start.contents now.db now.contents first store stored bench work asked) (none_of rest c.in_default.len_below) (c.loop-rest.invariant winners stored asked to_put))).free

pub returns-clause-asked : goal.returns-clause-asked
returns-clause-asked g c = λ winners stored asked to_put.
    let d = g.D.Disk in
    let m = meanings_of g.B.Builders.declares g.B.Builders.creates g.B.Builders.makes in
    let config = c.args.config.now in
    let start = c.args.ledger.now in
    let first = c.args.store.now in
    let bench = c.args.bench.now in
    let needed = c.args.needed.now in
    let now = c.loop-rest.ledger in
    let store = c.loop-rest.store in
    let work = c.loop-rest.bench in
    let rest = c.loop-rest.rest.now in
    (all_put m config winners d.seen d.may_leave d.clock d.left_at d.room d.faults start.db start.contents now.db now.contents first store stored bench work asked
    (subst (ArePut m config winners d.seen d.may_leave d.clock d.left_at d.room d.faults start.db start.contents now.db now.contents first store stored bench work asked) (none_of rest c.in_default.len_below) (c.loop-rest.invariant winners stored asked to_put))).noted
