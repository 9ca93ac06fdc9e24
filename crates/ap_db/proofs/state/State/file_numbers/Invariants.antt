use Rattle.std.proofs.Common.{length}
use Rattle.ap_db.proofs.WritingDefines.{NumbersFound}
use Rattle.ap_db.proofs.state.State.file_numbers.Given as goal

-- the numbers of those before the rest are found
abbrev pub invariant-loop-rest : goal.invariant-loop-rest
invariant-loop-rest l = NumbersFound l.self.things.items l.kids l.rest l.found.items

abbrev pub decreases-loop-rest : goal.decreases-loop-rest
decreases-loop-rest l = length l.rest
