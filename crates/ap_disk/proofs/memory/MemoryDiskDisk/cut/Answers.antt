use Rattle.std.proofs.Common.{refl}
use Rattle.ap_disk.specs.History.{failed_cut, was_cut}
use Rattle.ap_disk.proofs.Moments.{crash_recorded, moments_at}
use Rattle.ap_disk.proofs.memory.MemoryDiskDisk.cut.Goals as goal

pub returns-then-is_next_failing-clause-crash : goal.returns-then-is_next_failing-clause-crash
returns-then-is_next_failing-clause-crash c =
    let old = c.args.self.now in
    rw c.refuse.ensures.first (crash_recorded old.first.items old.log c.refuse.new.self.log _ (failed_cut c.args.len) c.refuse.ensures.recorded)

pub returns-then-is_next_failing-clause-moments : goal.returns-then-is_next_failing-clause-moments
returns-then-is_next_failing-clause-moments c =
    let old = c.args.self.now in
    rw (c.refuse.ensures.first, c.refuse.ensures.time)
    (moments_at old.first.items old.log c.refuse.new.self.log old.time _ (failed_cut c.args.len) old.rises refl c.refuse.ensures.recorded)

pub returns-then-not-push-clause-moments : goal.returns-then-not-push-clause-moments
returns-then-not-push-clause-moments c =
    let old = c.args.self.now in
    moments_at old.first.items old.log c.push.new.self old.time c.saturating_add-self.result (was_cut c.args.len) old.rises c.saturating_add-self.ensures c.push.ensures.either
