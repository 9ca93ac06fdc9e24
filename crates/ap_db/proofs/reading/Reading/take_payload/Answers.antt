use Rattle.std.proofs.Common.{Err, sym, ◌∙◌, ap, arith}
use Rattle.ap_db.proofs.Stepping.{none_taken, one_taken, stopped, all_taken}
use Rattle.ap_db.proofs.Emptiness.{is_left, is_over}
use Rattle.ap_db.proofs.reading.Reading.take_payload.Goals as goal

pub loop-rest-init : goal.loop-rest-init
loop-rest-init c = record { within = omega arith; is = c.requires; taken = λ stored reads. (stored, none_taken c.args.payload.now stored, reads) }

pub take_item-requires : goal.take_item-requires
take_item-requires c = c.loop-rest.invariant.is

pub loop-rest-smaller : goal.loop-rest-smaller
loop-rest-smaller c = c.in-Ok.ensures.shorter

pub loop-rest-preserved : goal.loop-rest-preserved
loop-rest-preserved c =
    let loop = c.loop-rest.invariant in
    let taken = c.in-Ok.ensures.taken in
    let shorter = c.in-Ok.ensures.shorter in
    let one = taken loop.is.0 loop.is.1 in
    record {
      within = omega (arith, loop.within, shorter);
      is = (one.0, one.2);
      taken = λ stored reads.
          let so_far = loop.taken stored reads in
          let next = taken so_far.0 so_far.2 in
          (next.0, one_taken c.args.payload.now c.loop-rest.rest.now c.in-Ok.after.now stored so_far.0 next.0 loop.within shorter so_far.1 next.1, next.2);
    }

pub overflow_sub-payload : goal.overflow_sub-payload
overflow_sub-payload c = c.loop-rest.invariant.within

pub returns-in-Err-clause-refused : goal.returns-in-Err-clause-refused
returns-in-Err-clause-refused c = λ offset is stored reads.
    let at = c.fault_at.ensures offset is in
    let so_far = c.loop-rest.invariant.taken stored reads in
    let none = c.in-Err.ensures.refused (ap Err at.0) so_far.0 so_far.2 in
    let some = is_left c.loop-rest.rest.now c.is_empty.result c.is_empty.ensures c.loop-rest-test.true in
    stopped c.args.payload.now c.loop-rest.rest.now stored so_far.0 some so_far.1 none ∙ ap Err (sym at.1)

pub returns-clause-taken : goal.returns-clause-taken
returns-clause-taken c = λ stored reads.
    let so_far = c.loop-rest.invariant.taken stored reads in
    let none = is_over c.loop-rest.rest.now c.is_empty.result c.is_empty.ensures c.loop-rest-test.false in
    (so_far.0, all_taken c.args.payload.now c.loop-rest.rest.now stored so_far.0 none so_far.1, so_far.2)
