use Rattle.std.specs.Str.Lines.{lines}
use Rattle.ap_samples.specs.Directives.{directive_in, directives_in}
use Rattle.ap_samples.proofs.Gathering.{gathers}
use Rattle.ap_samples.proofs.reading.read_directives.Goals as goal

pub loop-line-preserved : goal.loop-line-preserved
loop-line-preserved c =
    gathers directive_in c.loop-line.directives.items c.push_directive.new.directives.items (directives_in (lines c.args.bytes.now))
    (lines c.loop-line.rest.now) c.in-Some.line.now (lines c.in-Some.after.now) c.in-Some.ensures.split c.in_ok-push_directive.ensures c.loop-line.invariant
