use Rattle.ap_handles.specs.declared.call.Call.TheVariants as call
use Rattle.ap_handles.proofs.Turns.{stands_after, does, held_kept, asked}
use Rattle.ap_handles.proofs.hall.Shared+HallState.ask.Goals as goal

pub give-requires-clause-stands : goal.give-requires-clause-stands
give-requires-clause-stands g c = stands_after _ c.ask-asked.new.self _ _ (call.Ask c.ask-asked.result) c.take-state.ensures.5 (asked c.take-state.result c.take-state.new.seat.seen c.take-state.new.seat.number c.take-state.ensures.5 c.ask-asked.result c.ask-asked.ensures.asked) c.ask-asked.ensures.after

pub returns-clause-call : goal.returns-clause-call
returns-clause-call g c = does c.args.seat.now c.take-state.new.seat c.give.new.seat c.take-state.result c.take-state.ensures (call.Ask c.ask-asked.result) (asked c.take-state.result c.take-state.new.seat.seen c.take-state.new.seat.number c.take-state.ensures.5 c.ask-asked.result c.ask-asked.ensures.asked) c.give.ensures

pub returns-clause-held : goal.returns-clause-held
returns-clause-held g c = held_kept c.args.seat.now c.take-state.new.seat c.give.new.seat c.take-state.result c.take-state.ensures (call.Ask c.ask-asked.result) (asked c.take-state.result c.take-state.new.seat.seen c.take-state.new.seat.number c.take-state.ensures.5 c.ask-asked.result c.ask-asked.ensures.asked) c.give.ensures tt
