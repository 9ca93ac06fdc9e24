use Rattle.std.proofs.Common.{◌≤◌, length}
use Rattle.ap_system.proofs.filling.fill.Given as goal

abbrev pub invariant-loop : goal.invariant-loop
invariant-loop g l = l.filled ≤ length l.buf
