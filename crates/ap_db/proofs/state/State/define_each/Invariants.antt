use Rattle.std.proofs.Common.{List, length}
use Rattle.std.specs.List.{flat_map}
use Rattle.ap_content.specs.Things.{Thing}
use Rattle.ap_content.specs.Entries.{Stands}
use Rattle.ap_db.specs.Stored.{Stored}
use Rattle.ap_db.specs.Commit.{with_below}
use Rattle.ap_db.specs.Listed.{AreAll}
use Rattle.ap_db.specs.Defined.{CanBeAdded}
use Rattle.ap_db.proofs.Walking.{AreLeft}
use Rattle.ap_db.proofs.state.State.define_each.Given as goal

-- the things before the rest are defined
abbrev pub invariant-loop-rest : goal.invariant-loop-rest
invariant-loop-rest l = (stored : Stored) (known : List Thing) (xs : List Thing) → CanBeAdded l.contents l.fn.self stored known (flat_map with_below xs) → AreAll (Stands l.contents) l.fn.numbers xs
    → AreLeft l.contents stored known xs l.fn.defined.items l.self l.defined.items l.rest

abbrev pub decreases-loop-rest : goal.decreases-loop-rest
decreases-loop-rest l = length l.rest
