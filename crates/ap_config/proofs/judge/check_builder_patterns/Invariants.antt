use Rattle.std.proofs.Common.{◌≡◌, length}
use Rattle.ap_config.specs.Configuration.{builders_have_patterns}
use Rattle.ap_config.proofs.judge.check_builder_patterns.Given as goal

abbrev pub invariant-loop-rest : goal.invariant-loop-rest
invariant-loop-rest l = builders_have_patterns l.rest ≡ builders_have_patterns l.builders

abbrev pub decreases-loop-rest : goal.decreases-loop-rest
decreases-loop-rest l = length l.rest
