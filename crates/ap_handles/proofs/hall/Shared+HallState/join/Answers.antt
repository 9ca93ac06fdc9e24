use Rattle.ap_handles.proofs.Turns.{held_longer}
use Rattle.ap_handles.proofs.hall.Shared+HallState.join.Goals as goal

pub returns-clause-held : goal.returns-clause-held
returns-clause-held c legal = held_longer c.args.seat.now c.join.new.seat c.join.ensures.kept.2 c.join.ensures.begins.0 c.join.ensures.own legal
