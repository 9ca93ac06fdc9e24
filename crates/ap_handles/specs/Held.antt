-- The handles that a seat has acquired and not released.
use Rattle.std.specs.Prelude.{ℕ, ◌+◌, ◌==◌, not, List, [], ◌∷◌, ◌++◌, Some, filter, if◌then◌else◌}
use Rattle.ap_turn.specs.declared.held.Given.{Given}
use Rattle.ap_turn.specs.Seats.{Seated}
use Rattle.ap_handles.specs.declared.entry.HallEntry.{HallEntry}
use Rattle.ap_handles.specs.declared.call.Call.{Call}
use Rattle.ap_handles.specs.declared.call.Call.TheVariants as call
use Rattle.ap_handles.specs.Legal.{is_released}

-- A handle: the entry that it shows, and the place in the history of the Acquire that gave it
pub record Shown : Type 0 where
  pub entry : HallEntry
  pub place : ℕ

-- the handle that a call at a place gives, if it gives one
abbrev pub handle_at : ℕ → Call → List Shown
handle_at place (call.Acquire platform id (Some e)) = record { entry = e; place = place } ∷ []
handle_at place _ = []

-- the handles that the calls of a seat gave, where the first of these entries stands at a place
abbrev pub acquired_from : ℕ → ℕ → List (Given Call) → List Shown
acquired_from by place [] = []
acquired_from by place (g ∷ more) = (if g.by == by then handle_at place g.entry else []) ++ acquired_from by (place + 1) more

-- the handles that a seat acquired and that no Release names, in the order in which it acquired them
abbrev pub held_by : ℕ → List (Given Call) → List Shown
held_by by log = filter (λ h. not (is_released h.place log)) (acquired_from by 0 log)

-- what a seat holds, by the history that it has seen
abbrev pub held : Seated Call → List Shown
held s = held_by s.number s.seen

-- the handles but that of a place
abbrev pub without : ℕ → List Shown → List Shown
without place handles = filter (λ h. not (place == h.place)) handles
