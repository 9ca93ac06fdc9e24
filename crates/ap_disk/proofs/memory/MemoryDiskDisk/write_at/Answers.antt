use Rattle.std.proofs.Common.{length, refl}
use Rattle.ap_disk.specs.History.{wrote, tore}
use Rattle.ap_disk.proofs.Moments.{crash_recorded, moments_at, moments_refused}
use Rattle.ap_disk.proofs.memory.MemoryDiskDisk.write_at.Goals as goal

pub returns-then-is_next_failing-clause-moments : goal.returns-then-is_next_failing-clause-moments
returns-then-is_next_failing-clause-moments c =
    let old = c.args.self.now in
    rw (c.refuse.ensures.first, c.refuse.ensures.time)
    (moments_at old.first.items old.log c.refuse.new.self.log old.time _ (tore c.args.at (length c.args.bytes.now)) old.rises refl c.refuse.ensures.recorded)

pub returns-then-not-has_room_for-clause-moments : goal.returns-then-not-has_room_for-clause-moments
returns-then-not-has_room_for-clause-moments c =
    let old = c.args.self.now in
    let refused = c.refuse-then-not-has_room_for in
    rw (refused.ensures.first, refused.ensures.time)
    (moments_refused old.first.items old.log refused.new.self.log old.time _ c.args.at (length c.args.bytes.now) old.rises refl refused.ensures.recorded)

pub returns-then-not-push_write-clause-moments : goal.returns-then-not-push_write-clause-moments
returns-then-not-push_write-clause-moments c =
    let old = c.args.self.now in
    moments_at old.first.items old.log c.push_write.new.self old.time c.saturating_add-self.result (wrote c.args.at c.args.bytes.now) old.rises c.saturating_add-self.ensures c.push_write.ensures.either

pub returns-clause-crash : goal.returns-clause-crash
returns-clause-crash c =
    let old = c.args.self.now in
    crash_recorded old.first.items old.log c.push_write.new.self c.saturating_add-self.result (wrote c.args.at c.args.bytes.now) c.push_write.ensures.either

pub returns-clause-moments : goal.returns-clause-moments
returns-clause-moments c =
    let old = c.args.self.now in
    moments_at old.first.items old.log c.push_write.new.self old.time c.saturating_add-self.result (wrote c.args.at c.args.bytes.now) old.rises c.saturating_add-self.ensures c.push_write.ensures.either
