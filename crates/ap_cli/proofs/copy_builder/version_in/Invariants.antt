use Rattle.std.proofs.Common.{◌≡◌, length}
use Rattle.ap_cli.specs.CopyBuilder.{version_in_lem}
use Rattle.ap_cli.proofs.copy_builder.version_in.Given as goal

abbrev pub invariant-loop-rest : goal.invariant-loop-rest
invariant-loop-rest l = version_in_lem l.rest l.builder ≡ version_in_lem l.listed l.builder

abbrev pub decreases-loop-rest : goal.decreases-loop-rest
decreases-loop-rest l = length l.rest
