use Rattle.std.proofs.Common.{◌≡◌, length}
use Rattle.ap_db.specs.Stored.{orders_rise}
use Rattle.ap_db.proofs.replay.do_orders_rise.Given as goal

-- what is left rises where all do
abbrev pub invariant-loop-rest : goal.invariant-loop-rest
invariant-loop-rest l = orders_rise l.rest ≡ orders_rise l.rows

abbrev pub decreases-loop-rest : goal.decreases-loop-rest
decreases-loop-rest l = length l.rest
