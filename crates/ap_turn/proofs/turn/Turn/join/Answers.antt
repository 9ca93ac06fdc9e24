use Rattle.std.proofs.Common.{rules}
use Rattle.ap_turn.proofs.Keeps.{joins, settles}
use Rattle.ap_turn.proofs.Settled.{settled_idle}
use Rattle.ap_turn.proofs.turn.Turn.join.Goals as goal

pub join_seat-requires : goal.join_seat-requires
join_seat-requires g c =
    let idle = settled_idle c.seat.inside.seat.me.0 c.seat.inside.seat.me.1 c.seat.inside.seat.me.0.stage c.seat.invariant (search rules) in
    let idle' = settled_idle c.other.inside.seat.me.0 c.other.inside.seat.me.1 c.other.inside.seat.me.0.stage c.other.invariant (search rules) in
    (search rules, search rules, idle'.1, search rules, joins _ _ _ _ _ idle.0 idle'.0)

pub load-requires : goal.load-requires
load-requires g c = (search rules, search rules, settles _ _ _ _ _ (search rules))
