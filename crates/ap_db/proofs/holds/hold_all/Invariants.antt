use Rattle.std.proofs.Common.{length}
use Rattle.ap_db.proofs.Settling.{AreGained}
use Rattle.ap_db.proofs.holds.hold_all.Given as goal

-- those before the rest are held once more
abbrev pub invariant-loop-rest : goal.invariant-loop-rest
invariant-loop-rest l = AreGained l.fn.contents l.contents l.ns l.rest

abbrev pub decreases-loop-rest : goal.decreases-loop-rest
decreases-loop-rest l = length l.rest
