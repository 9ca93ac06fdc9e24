use Rattle.std.proofs.Common.{◌<◌, ◌+◌, ◌++◌, ◌∙◌, ap, subst}
use Rattle.std.specs.List.{AllByRecursion}
use Rattle.ap_rows.specs.Inputs.{MadeFrom}
use Rattle.ap_builder.specs.Views.{job_view}
use Rattle.ap_engine.specs.Ledgers.{HasCommitted}
use Rattle.ap_engine.specs.NeededJobs.{IsOneProduct, puts_made, work_of}
use Rattle.ap_engine.proofs.NextItems.{after, first_again, none_left}
use Rattle.ap_engine.proofs.ProcessSteps.{none_processed, then, first_from, next_ready, next_needed, next_processed, next_stopped, next_among, all_done, rose_since}
use Rattle.ap_engine.proofs.processing.process_each.Goals as goal

pub loop-rest-init : goal.loop-rest-init
loop-rest-init g c = λ stored ready froms are.
    let d = g.D.Disk in
    none_processed d.seen d.may_leave d.clock d.left_at d.room d.faults g.B.Builders.makes c.args.ledger.now.db c.args.ledger.now.contents c.args.store.now c.args.bench.now stored froms c.args.needed.now ready are

pub process_one-requires : goal.process_one-requires
process_one-requires g c =
    let d = g.D.Disk in
    let old = c.args.ledger.now in
    let now = c.loop-rest.ledger in
    let rest = c.loop-rest.rest.now in
    let r = c.requires in
    let so_far = c.loop-rest.invariant r.0 r.1 r.2 r.3 in (
      then d.seen d.may_leave d.clock d.left_at d.room d.faults g.B.Builders.makes old.db old.contents c.args.store.now c.args.bench.now r.0 r.2 now.db now.contents c.loop-rest.store c.loop-rest.bench rest c.first-item.result (after rest) (first_again rest c.first-item.result c.in-len1-up.len_at_least c.first-item.is) so_far,
      next_ready d.seen d.may_leave d.clock d.left_at d.room d.faults g.B.Builders.makes old.db old.contents c.args.store.now c.args.bench.now r.0 r.2 now.db now.contents c.loop-rest.store c.loop-rest.bench rest c.first-item.result (after rest) (first_again rest c.first-item.result c.in-len1-up.len_at_least c.first-item.is) so_far,
      first_from d.seen d.may_leave d.clock d.left_at d.room d.faults g.B.Builders.makes old.db old.contents c.args.store.now c.args.bench.now r.0 r.2 now.db now.contents c.loop-rest.store c.loop-rest.bench rest c.first-item.result (after rest) (first_again rest c.first-item.result c.in-len1-up.len_at_least c.first-item.is) so_far,
      next_needed d.seen d.may_leave d.clock d.left_at d.room d.faults g.B.Builders.makes old.db old.contents c.args.store.now c.args.bench.now r.0 r.2 now.db now.contents c.loop-rest.store c.loop-rest.bench rest c.first-item.result (after rest) (first_again rest c.first-item.result c.in-len1-up.len_at_least c.first-item.is) so_far,
    )

pub returns-in-Err-clause-stopped : goal.returns-in-Err-clause-stopped
returns-in-Err-clause-stopped g c = λ stored ready froms are.
    let d = g.D.Disk in
    let old = c.args.ledger.now in
    let now = c.loop-rest.ledger in
    let rest = c.loop-rest.rest.now in
    let so_far = c.loop-rest.invariant stored ready froms are in
    next_stopped d.seen d.may_leave d.clock d.left_at d.room d.faults g.B.Builders.makes old.db old.contents c.args.store.now c.args.bench.now stored froms now.db now.contents c.loop-rest.store c.loop-rest.bench rest c.first-item.result (after rest) (first_again rest c.first-item.result c.in-len1-up.len_at_least c.first-item.is) so_far c.process_one.new.store
    (c.in-Err.ensures.stopped (then d.seen d.may_leave d.clock d.left_at d.room d.faults g.B.Builders.makes old.db old.contents c.args.store.now c.args.bench.now stored froms now.db now.contents c.loop-rest.store c.loop-rest.bench rest c.first-item.result (after rest) (first_again rest c.first-item.result c.in-len1-up.len_at_least c.first-item.is) so_far) (next_ready d.seen d.may_leave d.clock d.left_at d.room d.faults g.B.Builders.makes old.db old.contents c.args.store.now c.args.bench.now stored froms now.db now.contents c.loop-rest.store c.loop-rest.bench rest c.first-item.result (after rest) (first_again rest c.first-item.result c.in-len1-up.len_at_least c.first-item.is) so_far)
    (first_from d.seen d.may_leave d.clock d.left_at d.room d.faults g.B.Builders.makes old.db old.contents c.args.store.now c.args.bench.now stored froms now.db now.contents c.loop-rest.store c.loop-rest.bench rest c.first-item.result (after rest) (first_again rest c.first-item.result c.in-len1-up.len_at_least c.first-item.is) so_far) (next_needed d.seen d.may_leave d.clock d.left_at d.room d.faults g.B.Builders.makes old.db old.contents c.args.store.now c.args.bench.now stored froms now.db now.contents c.loop-rest.store c.loop-rest.bench rest c.first-item.result (after rest) (first_again rest c.first-item.result c.in-len1-up.len_at_least c.first-item.is) so_far))

pub returns-in-Err-clause-unbuilt : goal.returns-in-Err-clause-unbuilt
returns-in-Err-clause-unbuilt g c = λ unbuilt stored ready froms are.
    let d = g.D.Disk in
    let old = c.args.ledger.now in
    let now = c.loop-rest.ledger in
    let rest = c.loop-rest.rest.now in
    let so_far = c.loop-rest.invariant stored ready froms are in (
      first_from d.seen d.may_leave d.clock d.left_at d.room d.faults g.B.Builders.makes old.db old.contents c.args.store.now c.args.bench.now stored froms now.db now.contents c.loop-rest.store c.loop-rest.bench rest c.first-item.result (after rest) (first_again rest c.first-item.result c.in-len1-up.len_at_least c.first-item.is) so_far,
      next_among d.seen d.may_leave d.clock d.left_at d.room d.faults g.B.Builders.makes old.db old.contents c.args.store.now c.args.bench.now stored froms now.db now.contents c.loop-rest.store c.loop-rest.bench rest c.first-item.result (after rest) (first_again rest c.first-item.result c.in-len1-up.len_at_least c.first-item.is) so_far,
      c.in-Err.ensures.unbuilt unbuilt (then d.seen d.may_leave d.clock d.left_at d.room d.faults g.B.Builders.makes old.db old.contents c.args.store.now c.args.bench.now stored froms now.db now.contents c.loop-rest.store c.loop-rest.bench rest c.first-item.result (after rest) (first_again rest c.first-item.result c.in-len1-up.len_at_least c.first-item.is) so_far) (next_ready d.seen d.may_leave d.clock d.left_at d.room d.faults g.B.Builders.makes old.db old.contents c.args.store.now c.args.bench.now stored froms now.db now.contents c.loop-rest.store c.loop-rest.bench rest c.first-item.result (after rest) (first_again rest c.first-item.result c.in-len1-up.len_at_least c.first-item.is) so_far)
          (first_from d.seen d.may_leave d.clock d.left_at d.room d.faults g.B.Builders.makes old.db old.contents c.args.store.now c.args.bench.now stored froms now.db now.contents c.loop-rest.store c.loop-rest.bench rest c.first-item.result (after rest) (first_again rest c.first-item.result c.in-len1-up.len_at_least c.first-item.is) so_far) (next_needed d.seen d.may_leave d.clock d.left_at d.room d.faults g.B.Builders.makes old.db old.contents c.args.store.now c.args.bench.now stored froms now.db now.contents c.loop-rest.store c.loop-rest.bench rest c.first-item.result (after rest) (first_again rest c.first-item.result c.in-len1-up.len_at_least c.first-item.is) so_far),
    )

pub returns-in-Err-clause-full : goal.returns-in-Err-clause-full
returns-in-Err-clause-full g c = λ l w full.
    let r = c.requires in
    subst (λ limit. limit < l + w) (c.loop-rest.invariant r.0 r.1 r.2 r.3).commits.limit (c.in-Err.ensures.full l w full)

pub returns-in-Err-clause-disk : goal.returns-in-Err-clause-disk
returns-in-Err-clause-disk g c = λ disk.
    let d = g.D.Disk in
    let r = c.requires in
    rose_since (d.faults c.args.store.now.0) (d.faults c.loop-rest.store.0) (d.faults c.process_one.new.store.0) (c.loop-rest.invariant r.0 r.1 r.2 r.3).commits.commits.later (c.in-Err.ensures.disk disk)

pub loop-rest-preserved : goal.loop-rest-preserved
loop-rest-preserved g c = λ stored ready froms are.
    let d = g.D.Disk in
    let old = c.args.ledger.now in
    let now = c.loop-rest.ledger in
    let rest = c.loop-rest.rest.now in
    let so_far = c.loop-rest.invariant stored ready froms are in
    let new = c.process_one.new.ledger in
    next_processed d.seen d.may_leave d.clock d.left_at d.room d.faults g.B.Builders.makes old.db old.contents c.args.store.now c.args.bench.now stored froms now.db now.contents c.loop-rest.store c.loop-rest.bench rest c.first-item.result (after rest) (first_again rest c.first-item.result c.in-len1-up.len_at_least c.first-item.is) so_far new.db new.contents c.process_one.new.store c.process_one.new.bench
    (c.in-Ok.ensures.committed (then d.seen d.may_leave d.clock d.left_at d.room d.faults g.B.Builders.makes old.db old.contents c.args.store.now c.args.bench.now stored froms now.db now.contents c.loop-rest.store c.loop-rest.bench rest c.first-item.result (after rest) (first_again rest c.first-item.result c.in-len1-up.len_at_least c.first-item.is) so_far) (next_ready d.seen d.may_leave d.clock d.left_at d.room d.faults g.B.Builders.makes old.db old.contents c.args.store.now c.args.bench.now stored froms now.db now.contents c.loop-rest.store c.loop-rest.bench rest c.first-item.result (after rest) (first_again rest c.first-item.result c.in-len1-up.len_at_least c.first-item.is) so_far)
    (first_from d.seen d.may_leave d.clock d.left_at d.room d.faults g.B.Builders.makes old.db old.contents c.args.store.now c.args.bench.now stored froms now.db now.contents c.loop-rest.store c.loop-rest.bench rest c.first-item.result (after rest) (first_again rest c.first-item.result c.in-len1-up.len_at_least c.first-item.is) so_far) (next_needed d.seen d.may_leave d.clock d.left_at d.room d.faults g.B.Builders.makes old.db old.contents c.args.store.now c.args.bench.now stored froms now.db now.contents c.loop-rest.store c.loop-rest.bench rest c.first-item.result (after rest) (first_again rest c.first-item.result c.in-len1-up.len_at_least c.first-item.is) so_far))
    c.in-Ok.ensures.asked
    (c.in-Ok.ensures.one (then d.seen d.may_leave d.clock d.left_at d.room d.faults g.B.Builders.makes old.db old.contents c.args.store.now c.args.bench.now stored froms now.db now.contents c.loop-rest.store c.loop-rest.bench rest c.first-item.result (after rest) (first_again rest c.first-item.result c.in-len1-up.len_at_least c.first-item.is) so_far) (next_ready d.seen d.may_leave d.clock d.left_at d.room d.faults g.B.Builders.makes old.db old.contents c.args.store.now c.args.bench.now stored froms now.db now.contents c.loop-rest.store c.loop-rest.bench rest c.first-item.result (after rest) (first_again rest c.first-item.result c.in-len1-up.len_at_least c.first-item.is) so_far)
    (first_from d.seen d.may_leave d.clock d.left_at d.room d.faults g.B.Builders.makes old.db old.contents c.args.store.now c.args.bench.now stored froms now.db now.contents c.loop-rest.store c.loop-rest.bench rest c.first-item.result (after rest) (first_again rest c.first-item.result c.in-len1-up.len_at_least c.first-item.is) so_far) (next_needed d.seen d.may_leave d.clock d.left_at d.room d.faults g.B.Builders.makes old.db old.contents c.args.store.now c.args.bench.now stored froms now.db now.contents c.loop-rest.store c.loop-rest.bench rest c.first-item.result (after rest) (first_again rest c.first-item.result c.in-len1-up.len_at_least c.first-item.is) so_far))

pub returns-clause-committed : goal.returns-clause-committed
returns-clause-committed g c = λ stored ready froms are.
    let d = g.D.Disk in
    let old = c.args.ledger.now in
    let now = c.loop-rest.ledger in
    let rest = c.loop-rest.rest.now in
    let so_far = c.loop-rest.invariant stored ready froms are in
    subst (λ froms. HasCommitted d.seen d.may_leave d.clock d.left_at d.room d.faults old.db old.contents now.db now.contents c.args.store.now c.loop-rest.store stored (puts_made g.B.Builders.makes froms))
    (all_done d.seen d.may_leave d.clock d.left_at d.room d.faults g.B.Builders.makes old.db old.contents c.args.store.now c.args.bench.now stored froms now.db now.contents c.loop-rest.store c.loop-rest.bench rest (none_left rest c.in_default.len_below) so_far) so_far.commits

pub returns-clause-asked : goal.returns-clause-asked
returns-clause-asked g c = λ stored ready froms are.
    let d = g.D.Disk in
    let old = c.args.ledger.now in
    let now = c.loop-rest.ledger in
    let rest = c.loop-rest.rest.now in
    let so_far = c.loop-rest.invariant stored ready froms are in
    so_far.asked ∙ ap (λ froms. c.args.bench.now ++ work_of froms) (all_done d.seen d.may_leave d.clock d.left_at d.room d.faults g.B.Builders.makes old.db old.contents c.args.store.now c.args.bench.now stored froms now.db now.contents c.loop-rest.store c.loop-rest.bench rest (none_left rest c.in_default.len_below) so_far)

pub returns-clause-one : goal.returns-clause-one
returns-clause-one g c = λ stored ready froms are.
    let d = g.D.Disk in
    let old = c.args.ledger.now in
    let now = c.loop-rest.ledger in
    let rest = c.loop-rest.rest.now in
    let so_far = c.loop-rest.invariant stored ready froms are in
    subst (AllByRecursion (λ (from : MadeFrom). IsOneProduct (g.B.Builders.makes (job_view from)))) (all_done d.seen d.may_leave d.clock d.left_at d.room d.faults g.B.Builders.makes old.db old.contents c.args.store.now c.args.bench.now stored froms now.db now.contents c.loop-rest.store c.loop-rest.bench rest (none_left rest c.in_default.len_below) so_far) so_far.one
