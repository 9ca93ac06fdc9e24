use Rattle.std.specs.Str.Lines.{lines}
use Rattle.ap_samples.specs.Declaring.{line_target, declared_by}
use Rattle.ap_samples.proofs.Gathering.{gathers}
use Rattle.ap_samples.proofs.declaring.targets.Goals as goal

pub loop-line-preserved : goal.loop-line-preserved
loop-line-preserved c =
    gathers line_target c.loop-line.targets.items c.push_target.new.targets.items (declared_by c.args.bytes.now)
    (lines c.loop-line.rest.now) c.in-Some.line.now (lines c.in-Some.after.now) c.in-Some.ensures.split c.in_ok-push_target.ensures c.loop-line.invariant
