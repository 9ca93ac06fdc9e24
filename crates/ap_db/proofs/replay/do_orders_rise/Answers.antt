use Rattle.std.proofs.Common.{◌∙◌}
use Rattle.ap_db.proofs.Taking.{short_rises}
use Rattle.ap_db.proofs.replay.do_orders_rise.Goals as goal

pub returns : goal.returns
returns c = short_rises c.loop-rest.rest.now c.in_default.len_below ∙ c.loop-rest.invariant
