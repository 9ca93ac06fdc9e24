use Rattle.std.proofs.Common.{◌≡◌, ◌++◌, length}
use Rattle.ap_config.proofs.judge.copy_patterns.Given as goal

abbrev pub invariant-loop-rest : goal.invariant-loop-rest
invariant-loop-rest l = l.copies.items ++ l.rest ≡ l.patterns

abbrev pub decreases-loop-rest : goal.decreases-loop-rest
decreases-loop-rest l = length l.rest
