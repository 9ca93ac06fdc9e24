-- Histories, and the views of seats. The number of a seat is the place of its view among those of the table.
use Rattle.std.specs.Prelude.{ℕ, ◌==◌, List, [], filter, length, nat_lt, if◌then◌else◌}
use Rattle.ap_turn.specs.declared.held.Given.{Given}
use Rattle.ap_turn.specs.declared.rule.View.{View}
use Rattle.ap_turn.specs.declared.rule.Stage.TheVariants.{New, Idle, Joining, Spent}

module _ {E : Type 0} where
  -- an entry with the number of its seat
  abbrev pub given : ℕ → E → Given E
  given by e = record { by = by; entry = e }

  -- the entries of one seat number, in their order
  abbrev pub entries_of : ℕ → List (Given E) → List (Given E)
  entries_of by log = filter (λ g. g.by == by) log

  -- the longer of two histories
  abbrev pub longer : List (Given E) → List (Given E) → List (Given E)
  longer xs ys = if nat_lt (length xs) (length ys) then ys else xs

  -- the view of the first seat
  abbrev pub opening_view : View E
  opening_view = record { number = 0; stage = Idle; seen = []; told = [] }

  -- the view that a seat is split off with
  abbrev pub split_view : View E → View E
  split_view v = record { number = v.number; stage = New; seen = v.seen; told = [] }

  -- the view of a seat that is told what another has seen
  abbrev pub joined_view : View E → View E → View E
  joined_view v w = record { number = v.number; stage = Joining; seen = v.seen; told = w.seen }

  -- the view of a seat that was joined to another
  abbrev pub spent_view : View E
  spent_view = record { number = 0; stage = Spent; seen = []; told = [] }
