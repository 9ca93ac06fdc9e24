use Rattle.std.proofs.Common.{◌<◌, ◌+◌, ℕ, subst}
use Rattle.ap_engine.proofs.CreationsPut.{rose_on}
use Rattle.ap_engine.proofs.SliceSteps.{after, first_of, none_of}
use Rattle.ap_engine.proofs.StepsTaken.{AreTaken, none_taken, all_taken, next, stored_now, one_taken, one_stopped}
use Rattle.ap_engine.proofs.source_rows.take_each.Goals as goal

pub loop-rest-init : goal.loop-rest-init
loop-rest-init g c = λ stored ready changes each there.
    let d = g.D.Disk in
    let start = c.args.ledger.now in
    none_taken d.seen d.may_leave d.clock d.left_at d.room d.faults start.db start.contents c.args.store.now stored ready changes c.args.steps.now each there

pub take_step-requires : goal.take_step-requires
take_step-requires g c =
    let d = g.D.Disk in
    let start = c.args.ledger.now in
    let first = c.args.store.now in
    let now = c.loop-rest.ledger in
    let store = c.loop-rest.store in
    let rest = c.loop-rest.rest.now in
    let step = c.step-item.result in
    let r = c.requires.ready in
    let taken = subst (AreTaken d.seen d.may_leave d.clock d.left_at d.room d.faults start.db start.contents now.db now.contents first store r.0 r.2) (first_of rest step c.in-len1-up.len_at_least c.step-item.is) (c.loop-rest.invariant r.0 r.1 r.2 r.3 r.4) in
    let following = next d.seen d.may_leave d.clock d.left_at d.room d.faults start.db start.contents now.db now.contents first store r.0 r.2 step (after rest) taken in
    record { ready = (stored_now d.seen d.may_leave d.clock d.left_at d.room d.faults start.db start.contents now.db now.contents first store r.0 r.2 step (after rest) taken, taken.committed.ready, following.change, following.first, following.there) }

pub returns-in-Err-clause-stopped : goal.returns-in-Err-clause-stopped
returns-in-Err-clause-stopped g c = λ stored ready changes each there.
    let d = g.D.Disk in
    let start = c.args.ledger.now in
    let first = c.args.store.now in
    let now = c.loop-rest.ledger in
    let store = c.loop-rest.store in
    let rest = c.loop-rest.rest.now in
    let step = c.step-item.result in
    let taken = subst (AreTaken d.seen d.may_leave d.clock d.left_at d.room d.faults start.db start.contents now.db now.contents first store stored changes) (first_of rest step c.in-len1-up.len_at_least c.step-item.is) (c.loop-rest.invariant stored ready changes each there) in
    let following = next d.seen d.may_leave d.clock d.left_at d.room d.faults start.db start.contents now.db now.contents first store stored changes step (after rest) taken in
    one_stopped d.seen d.may_leave d.clock d.left_at d.room d.faults start.db start.contents now.db now.contents first store stored changes step (after rest) taken c.take_step.new.store
    (c.in-Err.ensures.stopped (stored_now d.seen d.may_leave d.clock d.left_at d.room d.faults start.db start.contents now.db now.contents first store stored changes step (after rest) taken) taken.committed.ready following.change following.first following.there)

pub returns-in-Err-clause-full : goal.returns-in-Err-clause-full
returns-in-Err-clause-full g c = λ l w is.
    let r = c.requires.ready in
    subst (λ (n : ℕ). n < l + w) (c.loop-rest.invariant r.0 r.1 r.2 r.3 r.4).committed.limit (c.in-Err.ensures.full l w is)

pub returns-in-Err-clause-disk : goal.returns-in-Err-clause-disk
returns-in-Err-clause-disk g c = λ is.
    let d = g.D.Disk in
    let r = c.requires.ready in
    rose_on (d.faults c.args.store.now.0) (d.faults c.loop-rest.store.0) (d.faults c.take_step.new.store.0) (c.loop-rest.invariant r.0 r.1 r.2 r.3 r.4).committed.commits.later (c.in-Err.ensures.disk is)

pub loop-rest-preserved : goal.loop-rest-preserved
loop-rest-preserved g c = λ stored ready changes each there.
    let d = g.D.Disk in
    let start = c.args.ledger.now in
    let first = c.args.store.now in
    let now = c.loop-rest.ledger in
    let store = c.loop-rest.store in
    let rest = c.loop-rest.rest.now in
    let step = c.step-item.result in
    let taken = subst (AreTaken d.seen d.may_leave d.clock d.left_at d.room d.faults start.db start.contents now.db now.contents first store stored changes) (first_of rest step c.in-len1-up.len_at_least c.step-item.is) (c.loop-rest.invariant stored ready changes each there) in
    let following = next d.seen d.may_leave d.clock d.left_at d.room d.faults start.db start.contents now.db now.contents first store stored changes step (after rest) taken in
    let last = c.take_step.new in
    one_taken d.seen d.may_leave d.clock d.left_at d.room d.faults start.db start.contents now.db now.contents first store stored changes step (after rest) taken last.ledger.db last.ledger.contents last.store
    (c.in-Ok.ensures.committed (stored_now d.seen d.may_leave d.clock d.left_at d.room d.faults start.db start.contents now.db now.contents first store stored changes step (after rest) taken) taken.committed.ready following.change following.first following.there)

pub returns-clause-committed : goal.returns-clause-committed
returns-clause-committed g c = λ stored ready changes each there.
    let d = g.D.Disk in
    let start = c.args.ledger.now in
    let first = c.args.store.now in
    let now = c.loop-rest.ledger in
    let store = c.loop-rest.store in
    all_taken d.seen d.may_leave d.clock d.left_at d.room d.faults start.db start.contents now.db now.contents first store stored changes
    (subst (AreTaken d.seen d.may_leave d.clock d.left_at d.room d.faults start.db start.contents now.db now.contents first store stored changes) (none_of c.loop-rest.rest.now c.in_default.len_below) (c.loop-rest.invariant stored ready changes each there))
