use Rattle.std.proofs.Common.{◌≡◌, ℕ, List, [], length}
use Rattle.std.specs.Prelude.{nat_eq}
use Rattle.std.specs.List.{list_any}
use Rattle.std.specs.Ordering.{nat_cmp}
use Rattle.std.specs.BTreeSet.{contains}
use Rattle.ap_config.specs.Configuration.{orders_differ}
use Rattle.ap_config.proofs.judge.check_orders.Given as goal

abbrev pub invariant-loop-rest : goal.invariant-loop-rest
invariant-loop-rest l = (earlier : List ℕ) × ((order : ℕ) → contains nat_cmp l.seen order ≡ list_any (nat_eq order) earlier) × (orders_differ earlier l.rest ≡ orders_differ [] l.folders)

abbrev pub decreases-loop-rest : goal.decreases-loop-rest
decreases-loop-rest l = length l.rest
