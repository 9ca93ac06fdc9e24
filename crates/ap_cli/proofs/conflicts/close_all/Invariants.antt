use Rattle.std.proofs.Common.{◌≡◌, ◌++◌, length, map}
use Rattle.ap_cli.specs.Layout.{closed}
use Rattle.ap_cli.proofs.conflicts.close_all.Given as goal

abbrev pub invariant-loop-rest : goal.invariant-loop-rest
invariant-loop-rest l = l.paths.items ++ map (λ file. closed file.0) l.rest ≡ map (λ file. closed file.0) l.files

abbrev pub decreases-loop-rest : goal.decreases-loop-rest
decreases-loop-rest l = length l.rest
