use Rattle.std.proofs.Common.{◌≡◌, sym, ap, subst, ◌∙◌}
use Rattle.ap_handles.specs.declared.call.Call.TheVariants as call
use Rattle.ap_handles.specs.Legal.{Replies}
use Rattle.ap_handles.specs.Held.{held, without}
use Rattle.ap_handles.specs.Calls.{Does}
use Rattle.ap_handles.proofs.Turns.{stands_after, does, may_release, held_released}
use Rattle.ap_handles.proofs.Places.{Rises, held_rises, without_one}
use Rattle.ap_handles.proofs.hall.Shared+HallState.release.Goals as goal

pub give-requires-clause-stands : goal.give-requires-clause-stands
give-requires-clause-stands g c = stands_after _ c.release.new.self _ _ (call.Release c.handle.inside.place) c.take-state.ensures.5
    (subst (λ place. Replies c.take-state.new.seat.seen c.take-state.new.seat.number (call.Release place)) (sym (ap (λ h. h.place) c.handle.view_is)) (may_release c.args.seat.now c.take-state.new.seat c.take-state.result c.take-state.ensures c.args.handle c.requires.held)) c.release.ensures

pub returns-clause-call : goal.returns-clause-call
returns-clause-call g c =
    subst (λ place. Does c.args.seat.now c.give.new.seat (call.Release place)) (ap (λ h. h.place) c.handle.view_is)
    (does c.args.seat.now c.take-state.new.seat c.give.new.seat c.take-state.result c.take-state.ensures (call.Release c.handle.inside.place)
    (subst (λ place. Replies c.take-state.new.seat.seen c.take-state.new.seat.number (call.Release place)) (sym (ap (λ h. h.place) c.handle.view_is)) (may_release c.args.seat.now c.take-state.new.seat c.take-state.result c.take-state.ensures c.args.handle c.requires.held)) c.give.ensures)

pub returns-clause-held : goal.returns-clause-held
returns-clause-held g c =
    subst (λ place. held c.give.new.seat ≡ without place (held c.args.seat.now)) (ap (λ h. h.place) c.handle.view_is)
    (held_released c.args.seat.now c.take-state.new.seat c.give.new.seat c.take-state.result c.take-state.ensures c.handle.inside.place
    (subst (λ place. Replies c.take-state.new.seat.seen c.take-state.new.seat.number (call.Release place)) (sym (ap (λ h. h.place) c.handle.view_is)) (may_release c.args.seat.now c.take-state.new.seat c.take-state.result c.take-state.ensures c.args.handle c.requires.held)) c.give.ensures)

pub returns-clause-removes : goal.returns-clause-removes
returns-clause-removes g c before after is =
    returns-clause-held g c ∙ ap (without c.args.handle.place) is
    ∙ without_one before after c.args.handle (subst Rises is (held_rises c.args.seat.now.number c.args.seat.now.seen))
