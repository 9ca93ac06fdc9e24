use Rattle.std.proofs.Common.{◌≡◌, ◌++◌, length, map}
use Rattle.ap_db.specs.TakenOut.{number_there}
use Rattle.ap_db.proofs.drops.numbers_of.Given as goal

-- the first numbers are there, and those of the rest are to come
abbrev pub invariant-loop-rest : goal.invariant-loop-rest
invariant-loop-rest l = l.numbers.items ++ map number_there l.rest ≡ map number_there l.dropped

abbrev pub decreases-loop-rest : goal.decreases-loop-rest
decreases-loop-rest l = length l.rest
