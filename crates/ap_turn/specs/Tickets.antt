-- The rule of the words `serving` and `ticket`, the slot and the views. It has the history, `log`, which no word holds.
use Rattle.std.specs.Prelude.{◌≡◌, ◌≢◌, ℕ, ◌<◌, ◌≤◌, ◌⊎◌, List, [], ◌∷◌, length, Option, Some}
use mathlib.Core.List.{IsPrefix}
use mathlib.Core.Option as maybe
use mathlib.Core.Option.{none, some}
use lib.ListN.{get_elem?}
use Rattle.atomic_table.specs.Table.{State}
use Rattle.ap_turn.specs.declared.held.Given.{Given}
use Rattle.ap_turn.specs.declared.rule.View.{View}
use Rattle.ap_turn.specs.declared.rule.Stage.{Stage}
use Rattle.ap_turn.specs.declared.rule.Stage.TheVariants.{New, Idle, Waiting, Holding, Joining, Spent}
use Rattle.ap_turn.specs.Views.{entries_of}

-- some seat has a view of which P holds
abbrev pub SomeSeat : {E : Type 0} → (View E → Type 0) → List (View E) → Type 0
SomeSeat {E} P views = (j : ℕ) × (v : View E) × (get_elem? views j ≡ some v) × P v

module _ {E : Type 0} (log : List (Given E)) where
  -- word 0, `serving`, counts the entries of the history, and isn't greater than word 1, `ticket`
  abbrev pub CountsEntries : ℕ → List ℕ → Type 0
  CountsEntries ticket words = (words ≡ length log ∷ ticket ∷ []) × (length log ≤ ticket) × (ticket < 18446744073709551616)

  -- a seat number that was given to no seat has no entry
  abbrev pub UnusedHaveNone : List (View E) → Type 0
  UnusedHaveNone views = (j : ℕ) → length views ≤ j → entries_of j log ≡ []

  -- a view that isn't spent has the whole history
  abbrev pub HasWhole : View E → Type 0
  HasWhole v = (v.stage ≢ Spent) × ((v.seen ≡ log) ⊎ ((v.stage ≡ Joining) × (v.told ≡ log)))

  -- a seat has the ticket number that is served, and has taken the value
  abbrev pub HasTurn : View E → Type 0
  HasTurn v = v.stage ≡ Holding (length log)

  -- the slot is at home with a value that stands for the history, unless the seat whose number is served has taken it
  abbrev pub SlotStands : {V : Type 0} → (V → List (Given E) → Type 0) → List (maybe.Option (Option V)) → List (View E) → Type 0
  SlotStands {V} stands homes views = ((v : V) × (homes ≡ some (Some v) ∷ []) × stands v log) ⊎ ((homes ≡ none ∷ []) × SomeSeat HasTurn views)

  module _ (ticket : ℕ) (drawn_by : ℕ → ℕ) (j : ℕ) (v : View E) where
    -- what seat j has seen is a prefix of the history
    abbrev pub SawPrefix : Type 0
    SawPrefix = IsPrefix v.seen log

    -- seat j has a number of its own, and has seen all entries of that number
    abbrev pub SawOwn : Type 0
    SawOwn = (v.number ≡ j) × (entries_of j v.seen ≡ entries_of j log)

    -- seat j has a ticket number, at least `serving` and below `ticket`, that no other seat has drawn
    abbrev pub HasTicket : ℕ → Type 0
    HasTicket n = (length log ≤ n) × (n < ticket) × (drawn_by n ≡ j)

    -- the ticket number is served, and the seat has seen the whole history
    abbrev pub IsServed : ℕ → Type 0
    IsServed n = (n ≡ length log) × (v.seen ≡ log)

    -- what seat j knows at a stage. A new seat has no entry, and a spent one knows nothing and has no ticket number
    abbrev pub Knows : Stage → Type 0
    Knows New = SawPrefix × (entries_of j log ≡ []) × (v.number ≢ j)
    Knows Idle = SawPrefix × SawOwn
    Knows (Waiting n) = SawPrefix × SawOwn × HasTicket n
    Knows (Holding n) = SawPrefix × SawOwn × HasTicket n × IsServed n
    Knows Joining = SawPrefix × SawOwn × IsPrefix v.told log
    Knows Spent = Unit {0}

-- The rule. `drawn_by` says which seat drew each ticket number
pub record Tickets {V E : Type 0} (stands : V → List (Given E) → Type 0) (s : State (Option V) (View E)) : Type 0 where
  pub log : List (Given E)
  pub ticket : ℕ
  pub drawn_by : ℕ → ℕ
  pub counted : CountsEntries log ticket s.words
  pub each_seat : (j : ℕ) (v : View E) → get_elem? s.views j ≡ some v → Knows log ticket drawn_by j v v.stage
  pub whole : SomeSeat (HasWhole log) s.views
  pub unused : UnusedHaveNone log s.views
  pub slot : SlotStands log stands s.homes s.views
