use Rattle.std.proofs.Common.{◌≡◌, ◌++◌, length}
use Rattle.ap_engine.specs.Removals.{removals_but}
use Rattle.ap_engine.proofs.ledger.Ledger.add_removals.Given as goal

-- with those of the rows left the items are those of all
abbrev pub invariant-loop-rest : goal.invariant-loop-rest
invariant-loop-rest l = l.items.items ++ removals_but l.kept l.rest ≡ l.initial.items.items ++ removals_but l.kept l.initial.rest

abbrev pub decreases-loop-rest : goal.decreases-loop-rest
decreases-loop-rest l = length l.rest
