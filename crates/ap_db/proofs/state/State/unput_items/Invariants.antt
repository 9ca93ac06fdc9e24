use Rattle.std.proofs.Common.{◌≡◌, List, Option, length}
use Rattle.ap_content.specs.Entries.{Entry}
use Rattle.ap_db.specs.Commit.{PlainItem}
use Rattle.ap_db.specs.Putting.{ArePut}
use Rattle.ap_db.specs.States.{SameNumbers}
use Rattle.ap_db.specs.Stored.{Stored}
use Rattle.ap_db.proofs.state.State.unput_items.Given as goal

-- those for which the rest was given are still put
abbrev pub invariant-loop-old : goal.invariant-loop-old
invariant-loop-old l =
    ((contents : List (Option Entry)) (stored : Stored) (plain : List PlainItem) → ArePut l.initial.self contents stored plain l.items l.fn.olds.items → ArePut l.self contents stored plain l.items l.given.items)
    × SameNumbers l.initial.self l.self × (l.self.defined ≡ l.initial.self.defined)

abbrev pub decreases-loop-old : goal.decreases-loop-old
decreases-loop-old l = length l.given.items
