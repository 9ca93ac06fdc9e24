use Rattle.std.proofs.Common.{sym, ap, subst, ◌∙◌}
use Rattle.ap_handles.specs.declared.call.Call.TheVariants as call
use Rattle.ap_handles.specs.Calls.{Does, counted_after}
use Rattle.ap_handles.proofs.Turns.{stands_after, does, held_kept, published}
use Rattle.ap_handles.proofs.hall.Shared+HallState.publish.Goals as goal

pub give-requires-clause-stands : goal.give-requires-clause-stands
give-requires-clause-stands g c = stands_after _ c.publish-serial.new.self _ _ (call.Publish c.publish-serial.new.self.machine.entries c.publish-serial.result.0) c.take-state.ensures.5 (published c.take-state.result c.take-state.new.seat.seen c.take-state.new.seat.number c.take-state.ensures.5 c.publish-serial.new.self.machine.entries c.publish-serial.result.0 c.publish-serial.ensures.serial)
    (c.publish-serial.ensures.after ∙ ap (λ entries. counted_after c.take-state.result (call.Publish entries c.publish-serial.result.0)) (sym (ap (λ v. v.machine.entries) c.publish-serial.ensures.after)))

pub returns-clause-call : goal.returns-clause-call
returns-clause-call g c =
    subst (λ entries. Does c.args.seat.now c.give.new.seat (call.Publish entries c.publish-serial.result.0)) (ap (λ v. v.machine.entries) c.publish-serial.ensures.after ∙ c.in_ok-products.ensures)
    (does c.args.seat.now c.take-state.new.seat c.give.new.seat c.take-state.result c.take-state.ensures (call.Publish c.publish-serial.new.self.machine.entries c.publish-serial.result.0) (published c.take-state.result c.take-state.new.seat.seen c.take-state.new.seat.number c.take-state.ensures.5 c.publish-serial.new.self.machine.entries c.publish-serial.result.0 c.publish-serial.ensures.serial) c.give.ensures)

pub returns-clause-held : goal.returns-clause-held
returns-clause-held g c = held_kept c.args.seat.now c.take-state.new.seat c.give.new.seat c.take-state.result c.take-state.ensures (call.Publish c.publish-serial.new.self.machine.entries c.publish-serial.result.0) (published c.take-state.result c.take-state.new.seat.seen c.take-state.new.seat.number c.take-state.ensures.5 c.publish-serial.new.self.machine.entries c.publish-serial.result.0 c.publish-serial.ensures.serial) c.give.ensures tt
