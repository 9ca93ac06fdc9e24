use Rattle.std.proofs.Common.{◌-◌, length, take, drop, arith}
use Rattle.std.specs.Ordering.{nat_cmp}
use Rattle.std.specs.Cmp.Lexicographic.{slice_cmp}
use Rattle.std.specs.BTreeSet.{contains}
use Rattle.std.proofs.lemmas.Grind.{common_steps}
use Rattle.ap_config.proofs.Repeats.{platforms-step}
use Rattle.ap_config.proofs.judge.make_platforms.Goals as goal

pub loop-rest-preserved : goal.loop-rest-preserved
loop-rest-preserved c =
    platforms-step (contains (slice_cmp nat_cmp) c.insert.new.self) (contains (slice_cmp nat_cmp) c.loop-rest.seen)
    c.loop-rest.platforms.items c.push.new.self.items c.loop-rest.rest.now (take (length c.loop-rest.rest.now - 1) (drop 1 c.loop-rest.rest.now))
    c.text-item.result c.in_ok-platform.platform c.of.result _
    c.loop-rest.invariant c.in_ok-insert.ensures.updates.0 c.in_ok-platform.ensures
    (grind (arith, common_steps)) (grind (arith, common_steps)) (grind (arith, common_steps)) (grind (arith, common_steps))
