use Rattle.std.proofs.Common.{refl, arith}
use Rattle.ap_graph.proofs.Releasing.{still_waits, released_more}
use Rattle.ap_graph.proofs.release.release.Goals as goal

pub loop-place-preserved : goal.loop-place-preserved
loop-place-preserved c =
    released_more c.args.progress.now c.args.dependents.now c.args.waiting.now c.loop-place.waiting _ c.args.ready.now c.loop-place.ready c.enter_if_free.new.ready c.loop-place.place-index (omega arith) c.requires.within
    (still_waits c.args.progress.now c.args.dependents.now c.args.waiting.now c.loop-place.waiting c.args.ready.now c.loop-place.ready c.loop-place.place-index (omega arith) c.requires.within c.requires.enough c.loop-place.invariant)
    refl c.enter_if_free.ensures c.loop-place.invariant

pub overflow_sub-waiting : goal.overflow_sub-waiting
overflow_sub-waiting c = still_waits c.args.progress.now c.args.dependents.now c.args.waiting.now c.loop-place.waiting c.args.ready.now c.loop-place.ready c.loop-place.place-index (omega arith) c.requires.within c.requires.enough c.loop-place.invariant
