use Rattle.std.proofs.Common.{◌≡◌, ◌+◌, sym, subst}
use Rattle.ap_handles.specs.declared.call.Call.TheVariants as call
use Rattle.ap_handles.specs.Counting.{acquires, releases}
use Rattle.ap_handles.proofs.Turns.{stands_after, does, held_kept, told}
use Rattle.ap_handles.proofs.Counts.{told_exactly}
use Rattle.ap_handles.proofs.hall.Shared+HallState.status.Goals as goal

pub give-requires-clause-stands : goal.give-requires-clause-stands
give-requires-clause-stands g c = stands_after _ c.status-status.new.self _ _ (call.Status c.status-status.result) c.take-state.ensures.5 (told c.take-state.result c.take-state.new.seat.seen c.take-state.new.seat.number c.take-state.ensures.5 c.status-status.result c.status-status.ensures.status) c.status-status.ensures.after

pub returns-clause-call : goal.returns-clause-call
returns-clause-call g c = does c.args.seat.now c.take-state.new.seat c.give.new.seat c.take-state.result c.take-state.ensures (call.Status c.status-status.result) (told c.take-state.result c.take-state.new.seat.seen c.take-state.new.seat.number c.take-state.ensures.5 c.status-status.result c.status-status.ensures.status) c.give.ensures

pub returns-clause-held : goal.returns-clause-held
returns-clause-held g c = held_kept c.args.seat.now c.take-state.new.seat c.give.new.seat c.take-state.result c.take-state.ensures (call.Status c.status-status.result) (told c.take-state.result c.take-state.new.seat.seen c.take-state.new.seat.number c.take-state.ensures.5 c.status-status.result c.status-status.ensures.status) c.give.ensures tt

pub returns-clause-exact : goal.returns-clause-exact
returns-clause-exact g c = subst (λ u. c.status-status.result.handles + releases u.seen ≡ acquires u.seen) (sym c.give.ensures) (told_exactly c.take-state.result _ _ _ c.take-state.ensures.5 c.status-status.ensures.status)
