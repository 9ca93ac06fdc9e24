use Rattle.std.proofs.Common.{◌≡◌, take}
use Rattle.ap_rows.proofs.job.copy_deps.Given as goal

abbrev pub invariant-loop-dep : goal.invariant-loop-dep
invariant-loop-dep l = l.copies.items ≡ take l.dep-index l.deps
