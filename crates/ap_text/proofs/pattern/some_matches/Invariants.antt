use Rattle.std.proofs.Common.{◌≡◌, length}
use Rattle.ap_text.specs.Wild.{some_matches_lem}
use Rattle.ap_text.proofs.pattern.some_matches.Given as goal

abbrev pub invariant-loop-rest : goal.invariant-loop-rest
invariant-loop-rest l = some_matches_lem l.rest l.path ≡ some_matches_lem l.patterns l.path

abbrev pub decreases-loop-rest : goal.decreases-loop-rest
decreases-loop-rest l = length l.rest
