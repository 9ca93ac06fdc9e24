use Rattle.std.proofs.Common.{◌≡◌, [], length}
use Rattle.ap_config.specs.Configuration.{builders_of}
use Rattle.ap_config.proofs.judge.make_builders.Given as goal

abbrev pub invariant-loop-rest : goal.invariant-loop-rest
invariant-loop-rest l = builders_of l.offered l.made.items l.rest ≡ builders_of l.offered [] l.builders

abbrev pub decreases-loop-rest : goal.decreases-loop-rest
decreases-loop-rest l = length l.rest
