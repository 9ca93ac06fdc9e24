use Rattle.std.proofs.Common.{◌≡◌, ◌++◌, List, Option, length}
use Rattle.std.specs.Prelude.{option_map}
use Rattle.ap_content.specs.Things.{Thing}
use Rattle.ap_content.specs.Entries.{Entry}
use Rattle.ap_db.specs.declared.state.State.{State}
use Rattle.ap_db.specs.Stored.{Stored, things_at}
use Rattle.ap_db.specs.Listed.{AreAll}
use Rattle.ap_db.specs.States.{StandsFor, Names, IsIndexOf}
use Rattle.ap_db.proofs.replay.resolve_kids.Given as goal

-- the numbers so far name things, and behind these come those of what is left
abbrev pub invariant-loop-rest : goal.invariant-loop-rest
invariant-loop-rest l =
    (state : State) (contents : List (Option Entry)) (stored : Stored) → StandsFor state contents stored → IsIndexOf l.index state
    → (xs : List Thing) × AreAll (Names state.things.items contents) l.numbers.items xs × (things_at stored l.kids ≡ option_map (λ ys. xs ++ ys) (things_at stored l.rest))

abbrev pub decreases-loop-rest : goal.decreases-loop-rest
decreases-loop-rest l = length l.rest
