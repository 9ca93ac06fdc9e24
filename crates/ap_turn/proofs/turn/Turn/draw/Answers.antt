use Rattle.std.proofs.Common.{rules, refl}
use Rattle.ap_turn.proofs.Keeps.{looks, draws}
use Rattle.ap_turn.proofs.turn.Turn.draw.Goals as goal

pub load-number-requires : goal.load-number-requires
load-number-requires g c = (search rules, search rules, looks _ _ _ _ _)

pub compare_exchange-requires : goal.compare_exchange-requires
compare_exchange-requires g c = (search rules, search rules, draws _ _ _ _ _ _ (search rules) refl (search rules))
