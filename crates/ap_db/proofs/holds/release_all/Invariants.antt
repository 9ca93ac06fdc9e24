use Rattle.std.proofs.Common.{length}
use Rattle.ap_db.proofs.Settling.{AreReleased}
use Rattle.ap_db.proofs.holds.release_all.Given as goal

-- those before the rest are released
abbrev pub invariant-loop-rest : goal.invariant-loop-rest
invariant-loop-rest l = AreReleased l.fn.contents l.contents l.dropped l.rest

abbrev pub decreases-loop-rest : goal.decreases-loop-rest
decreases-loop-rest l = length l.rest
