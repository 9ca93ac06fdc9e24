use Rattle.std.proofs.Common.{[], ◌++◌, take, refl, arith}
use Rattle.ap_cli.proofs.Gaining.{Gains-then, Gains-nothing, split_more, front_so_far, room_left}
use Rattle.ap_cli.proofs.output.write_text.Goals as goal

pub loop-rest-init : goal.loop-rest-init
loop-rest-init g c = record { done = []; split = refl; gained = Gains-nothing _; room = omega arith; later = omega arith }

pub loop-rest-preserved : goal.loop-rest-preserved
loop-rest-preserved g c =
    let so_far = c.loop-rest.invariant in
    record {
      done = so_far.done ++ take c.in-Ok.count c.loop-rest.rest.now;
      split = split_more so_far.done c.loop-rest.rest.now _ c.in-Ok.count so_far.split;
      gained = Gains-then _ _ _ _ _ so_far.gained c.in-Ok.ensures.written;
      room = room_left so_far.done c.loop-rest.rest.now c.in-Ok.count _ _ _ so_far.room c.in-Ok.ensures.room c.in-Ok.ensures.bound;
      later = omega (arith, so_far.later, c.in-Ok.ensures.cause.later);
    }

pub returns-in-Err-clause-front : goal.returns-in-Err-clause-front
returns-in-Err-clause-front g c =
    let so_far = c.loop-rest.invariant in
    front_so_far _ _ _ so_far.done c.loop-rest.rest.now _ so_far.split so_far.gained c.in-Err.ensures.refused
