use Rattle.std.proofs.Common.{rules}
use Rattle.ap_turn.proofs.Keeps.{splits, numbers}
use Rattle.ap_turn.proofs.Settled.{settled_idle}
use Rattle.ap_turn.proofs.turn.Turn.split.Goals as goal

pub split_seat-second-requires : goal.split_seat-second-requires
split_seat-second-requires g c = (search rules, search rules, splits _ _ _ (settled_idle _ _ _ c.seat.invariant (search rules)).0)

pub load-requires : goal.load-requires
load-requires g c = (search rules, search rules, numbers _ _ _ _ _ (search rules))
