use Rattle.std.proofs.Common.{arith}
use Rattle.ap_graph.proofs.Releasing.{entering_more}
use Rattle.ap_graph.proofs.release.enter_free.Goals as goal

pub loop-place-preserved : goal.loop-place-preserved
loop-place-preserved c = entering_more c.args.progress.now c.args.waiting.now c.loop-place.place c.args.ready.now c.loop-place.ready c.enter_if_free.new.ready (omega arith) c.enter_if_free.ensures c.loop-place.invariant
