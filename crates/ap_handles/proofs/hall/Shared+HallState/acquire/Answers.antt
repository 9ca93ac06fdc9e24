use Rattle.ap_handles.specs.declared.call.Call.TheVariants as call
use Rattle.ap_handles.specs.Calls.{entry_of}
use Rattle.ap_handles.proofs.Turns.{stands_after, does, held_kept, acquired, held_acquired, holds_last}
use Rattle.ap_handles.proofs.Counts.{few_out}
use Rattle.ap_handles.proofs.hall.Shared+HallState.acquire.Goals as goal

pub acquire-requires-clause-handles : goal.acquire-requires-clause-handles
acquire-requires-clause-handles g c = few_out _ _ c.take-state.ensures.5

pub give-requires-clause-stands : goal.give-requires-clause-stands
give-requires-clause-stands g c = stands_after _ c.acquire.new.self _ _ (call.Acquire c.args.platform.now c.args.id (entry_of c.in-Ok.handle)) c.take-state.ensures.5 (acquired c.take-state.result c.take-state.new.seat.seen c.take-state.new.seat.number c.take-state.ensures.5 c.args.platform.now c.args.id (entry_of c.in-Ok.handle) c.in-Ok.ensures.reply) c.in-Ok.ensures.after

pub give-requires-in-Err-clause-stands : goal.give-requires-in-Err-clause-stands
give-requires-in-Err-clause-stands g c = stands_after _ c.acquire.new.self _ _ call.Skip c.take-state.ensures.5 tt c.in-Err.ensures.after

pub returns-in-Ok-clause-call : goal.returns-in-Ok-clause-call
returns-in-Ok-clause-call g c = does c.args.seat.now c.take-state.new.seat c.give.new.seat c.take-state.result c.take-state.ensures (call.Acquire c.args.platform.now c.args.id (entry_of c.in-Ok.handle)) (acquired c.take-state.result c.take-state.new.seat.seen c.take-state.new.seat.number c.take-state.ensures.5 c.args.platform.now c.args.id (entry_of c.in-Ok.handle) c.in-Ok.ensures.reply) c.give.ensures

pub returns-in-Ok-clause-held : goal.returns-in-Ok-clause-held
returns-in-Ok-clause-held g c = held_acquired c.args.seat.now c.take-state.new.seat c.give.new.seat c.take-state.result c.take-state.ensures c.args.platform.now c.args.id c.in-Ok.handle (acquired c.take-state.result c.take-state.new.seat.seen c.take-state.new.seat.number c.take-state.ensures.5 c.args.platform.now c.args.id (entry_of c.in-Ok.handle) c.in-Ok.ensures.reply) c.give.ensures c.in-Ok.ensures.place

pub returns-in-Ok-clause-given : goal.returns-in-Ok-clause-given
returns-in-Ok-clause-given g c = holds_last _ c.in-Ok.handle c.give.new.seat
    (held_acquired c.args.seat.now c.take-state.new.seat c.give.new.seat c.take-state.result c.take-state.ensures c.args.platform.now c.args.id c.in-Ok.handle (acquired c.take-state.result c.take-state.new.seat.seen c.take-state.new.seat.number c.take-state.ensures.5 c.args.platform.now c.args.id (entry_of c.in-Ok.handle) c.in-Ok.ensures.reply) c.give.ensures c.in-Ok.ensures.place)

pub returns-in-Err-clause-call : goal.returns-in-Err-clause-call
returns-in-Err-clause-call g c = does c.args.seat.now c.take-state.new.seat c.give-in-Err.new.seat c.take-state.result c.take-state.ensures call.Skip tt c.give-in-Err.ensures

pub returns-in-Err-clause-held : goal.returns-in-Err-clause-held
returns-in-Err-clause-held g c = held_kept c.args.seat.now c.take-state.new.seat c.give-in-Err.new.seat c.take-state.result c.take-state.ensures call.Skip tt c.give-in-Err.ensures tt
