use Rattle.std.proofs.Common.{◌≡◌, ◌++◌, ◌+◌, length}
use Rattle.ap_db.specs.Loose.{unnamed_from}
use Rattle.ap_db.proofs.loose.unnamed.Given as goal

-- what was found, with what is still to be found, is all
abbrev pub invariant-loop-rest : goal.invariant-loop-rest
invariant-loop-rest l = record {
  count : l.number + length l.rest ≡ length l.things;
  found : l.found.items ++ unnamed_from l.number l.rest ≡ unnamed_from 0 l.things;
}

abbrev pub decreases-loop-rest : goal.decreases-loop-rest
decreases-loop-rest l = length l.rest
