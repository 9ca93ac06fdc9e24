use Rattle.std.proofs.Common.{List, length}
use Rattle.ap_content.specs.Things.{Thing}
use Rattle.ap_content.specs.Entries.{Stands}
use Rattle.ap_db.specs.Stored.{Stored, kids_of_thing}
use Rattle.ap_db.specs.Commit.{with_below}
use Rattle.ap_db.specs.Defined.{CanBeAdded}
use Rattle.ap_db.proofs.Walking.{AreLeft}
use Rattle.ap_db.proofs.state.State.+define_below.Given as goal

abbrev pub decreases-define_below : goal.decreases-define_below
decreases-define_below l = l.depth

-- the kids before the rest are defined
abbrev pub invariant-loop-rest : goal.invariant-loop-rest
invariant-loop-rest l = (stored : Stored) (known : List Thing) (x : Thing) → CanBeAdded l.contents l.fn.self stored known (with_below x) → Stands l.contents l.fn.m x
    → AreLeft l.contents stored known (kids_of_thing x) l.fn.defined.items l.self l.defined.items l.rest

abbrev pub decreases-loop-rest : goal.decreases-loop-rest
decreases-loop-rest l = length l.rest
