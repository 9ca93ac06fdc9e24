use Rattle.std.proofs.Common.{◌≡◌, ◌++◌, length}
use Rattle.std.specs.List.{flat_map}
use Rattle.ap_db.specs.Olds.{numbers_in}
use Rattle.ap_db.proofs.old.numbers_of_olds.Given as goal

-- behind the numbers so far come those of what is left
abbrev pub invariant-loop-rest : goal.invariant-loop-rest
invariant-loop-rest l = l.candidates.items ++ flat_map numbers_in l.rest ≡ l.initial.candidates.items ++ flat_map numbers_in l.olds

abbrev pub decreases-loop-rest : goal.decreases-loop-rest
decreases-loop-rest l = length l.rest
