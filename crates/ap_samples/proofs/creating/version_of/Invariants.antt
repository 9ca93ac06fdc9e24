use Rattle.std.proofs.Common.{◌≡◌, ◌++◌, length}
use Rattle.ap_samples.specs.Creating.{listed_version}
use Rattle.ap_samples.proofs.creating.version_of.Given as goal

abbrev pub invariant-loop-rest : goal.invariant-loop-rest
invariant-loop-rest l = listed_version l.rest l.builder ≡ listed_version l.listed l.builder

abbrev pub decreases-loop-rest : goal.decreases-loop-rest
decreases-loop-rest l = length l.rest
