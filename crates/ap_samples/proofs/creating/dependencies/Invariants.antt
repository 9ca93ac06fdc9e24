use Rattle.std.proofs.Common.{◌≡◌, ◌++◌, length}
use Rattle.std.specs.List.{filter_map}
use Rattle.ap_samples.specs.Creating.{dependency_in}
use Rattle.ap_samples.proofs.creating.dependencies.Given as goal

abbrev pub invariant-loop-rest : goal.invariant-loop-rest
invariant-loop-rest l = l.rows.items ++ filter_map (dependency_in l.platform) l.rest ≡ filter_map (dependency_in l.platform) l.directives

abbrev pub decreases-loop-rest : goal.decreases-loop-rest
decreases-loop-rest l = length l.rest
