use Rattle.std.proofs.Common.{◌<◌}
use Rattle.ap_content.specs.Entries.{holds_at}
use Rattle.ap_content.proofs.tests.a_long_chain_is_released.Given as goal

abbrev pub invariant-loop : goal.invariant-loop
invariant-loop g l = 0 < holds_at l.contents l.top
