use Rattle.std.proofs.Common.{◌≡◌, ◌≤◌, ◌+◌, List, Option, length}
use Rattle.std.specs.Prelude.{vec_len, vec_capacity}
use Rattle.ap_content.specs.Entries.{Entry}
use Rattle.ap_db.specs.Commit.{PlainItem}
use Rattle.ap_db.specs.Listed.{AreAll}
use Rattle.ap_db.specs.Putting.{ArePutBefore}
use Rattle.ap_db.specs.Said.{ItemIs}
use Rattle.ap_db.specs.States.{StandsFor, Names, SameNumbers}
use Rattle.ap_db.specs.Stored.{Stored}
use Rattle.ap_db.proofs.state.State.put_items.Given as goal

-- the items before the rest are put, and there is room for what the rest gives
abbrev pub invariant-loop-rest : goal.invariant-loop-rest
invariant-loop-rest l =
    ((contents : List (Option Entry)) (stored : Stored) (plain : List PlainItem) → StandsFor l.fn.self contents stored → AreAll (ItemIs (Names l.fn.self.things.items contents)) l.items plain
    → ArePutBefore l.self contents stored plain l.items l.olds.items l.rest)
    × (vec_len l.olds + length l.rest ≤ vec_capacity l.olds) × SameNumbers l.fn.self l.self × (l.self.defined ≡ l.fn.self.defined)

abbrev pub decreases-loop-rest : goal.decreases-loop-rest
decreases-loop-rest l = length l.rest
