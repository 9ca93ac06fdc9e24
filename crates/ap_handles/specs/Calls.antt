-- What a call on the hall does to the history of its seat.
use Rattle.std.specs.Prelude.{◌≡◌, ◌≢◌, ℕ, ◌+◌, false, List, [], ◌∷◌, ◌++◌, length, Option, Some, None}
use mathlib.Core.List.{IsPrefix}
use Rattle.atomic_table.specs.Seated.{TableId}
use Rattle.ap_turn.specs.declared.held.Given.{Given}
use Rattle.ap_turn.specs.Views.{given, entries_of, longer}
use Rattle.ap_turn.specs.Seats.{Seated}
use Rattle.ap_handles.specs.declared.entry.HallEntry.{HallEntry}
use Rattle.ap_handles.specs.declared.call.Call.{Call}
use Rattle.ap_handles.specs.Machine.{Machine, after, machine_of}
use Rattle.ap_handles.specs.Legal.{IsLegal}
use Rattle.ap_handles.specs.Held.{Shown, held}

-- a seat of this hall that hasn't the turn
abbrev pub IsReady : TableId → Seated Call → Type 0
IsReady hall s = (s.turn ≡ hall) × (s.has_turn ≡ false)

-- the same, where the history is legal and the seat holds nothing
abbrev pub IsAtRest : TableId → Seated Call → Type 0
IsAtRest hall s = (s.turn ≡ hall) × (s.has_turn ≡ false) × IsLegal s.seen × (held s ≡ [])

-- The history of the seat is legal, begins with all that it had seen, and ends with this call, the only new one of its number
abbrev pub Does : Seated Call → Seated Call → Call → Type 0
Does s t c = (between : List (Given Call)) × (t.seen ≡ (s.seen ++ between) ++ given s.number c ∷ []) × IsLegal t.seen
    × (entries_of s.number t.seen ≡ entries_of s.number s.seen ++ given s.number c ∷ [])
    × (t.turn ≡ s.turn) × (t.number ≡ s.number) × (t.has_turn ≡ false)

-- the entry that a handle shows
abbrev pub entry_of : Option Shown → Option HallEntry
entry_of (Some h) = Some h.entry
entry_of None = None

-- the list with the handle, if there is one
abbrev pub with : List Shown → Option Shown → List Shown
with handles (Some h) = handles ++ h ∷ []
with handles None = handles

-- a second seat has seen as much, and has a number of its own and made no call
abbrev pub Splits : Seated Call → Seated Call → Type 0
Splits s t = (t.turn ≡ s.turn) × (t.has_turn ≡ false) × (t.seen ≡ s.seen) × (t.number ≢ s.number) × (entries_of t.number t.seen ≡ []) × (held t ≡ [])

-- the history is the longer of both, and begins with each
abbrev pub Joins : Seated Call → Seated Call → Seated Call → Type 0
Joins s other t = (t.turn ≡ s.turn) × (t.has_turn ≡ false) × (t.number ≡ s.number) × (t.seen ≡ longer s.seen other.seen)
    × IsPrefix s.seen t.seen × IsPrefix other.seen t.seen × (entries_of s.number t.seen ≡ entries_of s.number s.seen)

-- The machine, and how many calls there were
pub record Counted : Type 0 where
  pub machine : Machine
  pub calls : ℕ

-- the same after a call
abbrev pub counted_after : Counted → Call → Counted
counted_after v c = record { machine = after v.machine c; calls = v.calls + 1 }

-- the machine is that of a legal history, and all its calls are counted
abbrev pub StandsFor : Counted → List (Given Call) → Type 0
StandsFor v log = IsLegal log × (v.machine ≡ machine_of log) × (v.calls ≡ length log)
