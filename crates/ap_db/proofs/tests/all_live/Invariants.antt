use Rattle.std.proofs.Common.{◌⊎◌, Contains, length}
use Rattle.ap_content.specs.Entries.{Lives}
use Rattle.ap_content.specs.declared.node.Number.{Number}
use Rattle.ap_db.proofs.tests.all_live.Given as goal

-- what isn't among the rest lives
abbrev pub invariant-loop-rest : goal.invariant-loop-rest
invariant-loop-rest l = (k : Number) → Contains l.numbers k → Contains l.rest k ⊎ Lives l.contents k

abbrev pub decreases-loop-rest : goal.decreases-loop-rest
decreases-loop-rest l = length l.rest
