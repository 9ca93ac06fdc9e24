-- What each step on the words tells the seat that makes it.
use Rattle.std.specs.Prelude.{◌≡◌, ◌≢◌, ℕ, ◌+◌, ◌<◌, List, [], ◌∷◌, ◌++◌, length, Option, None, Some}
use mathlib.Core.List.{IsPrefix}
use Rattle.atomic_table.specs.Table.{Me, Step}
use Rattle.ap_turn.specs.declared.held.Given.{Given}
use Rattle.ap_turn.specs.declared.rule.View.{View}
use Rattle.ap_turn.specs.declared.rule.Stage.TheVariants.{Idle, Waiting, Holding}
use Rattle.ap_turn.specs.Views.{given, entries_of, longer}

-- a seat's view, and the slot if it is out with the seat
abbrev pub Sat : Type 0 → Type 0 → Type 0
Sat V E = Me (Option V) (View E)

module _ {V E : Type 0} where
  -- load of `ticket`: the number to try, and nothing of the view
  abbrev pub looked : Step (Option V) → Sat V E → ℕ → Sat V E → Type 0
  looked st m r m' = m' ≡ m

  -- draw: the seat has the ticket number that it tried, or lost the try
  abbrev pub drew : Step (Option V) → Sat V E → ℕ → Sat V E → Type 0
  drew st m r m' = (r ≡ st.first → m' ≡ (record m.0 { stage = Waiting st.first }, m.1)) × (r ≢ st.first → m' ≡ m)

  module _ (stands : V → List (Given E) → Type 0) where
    -- the ticket number n is served: the seat has seen the whole history, in which no entry of its number is new, and the value that stands for it. The slot is out with the seat, and has `left`
    abbrev pub Served : Option V → Sat V E → ℕ → V → Sat V E → Type 0
    Served left m n v m' = (log : List (Given E)) × (m' ≡ (record m.0 { stage = Holding n; seen = log }, (0, left) ∷ m.1))
        × IsPrefix m.0.seen log × (entries_of m.0.number log ≡ entries_of m.0.number m.0.seen) × stands v log × (length log ≡ n) × (n + 1 < 18446744073709551616)

    -- load of `serving`: whether the seat's ticket number is served
    abbrev pub called : Step (Option V) → Sat V E → ℕ → Sat V E → Type 0
    called st m r m' = (n : ℕ) → m.0.stage ≡ Waiting n → (r ≡ n → (v : V) × Served (Some v) m n v m') × (r ≢ n → m' ≡ m)

  -- the seat's entry stands at the end of the history, and the slot is given back
  abbrev pub Passed : E → Sat V E → Sat V E → Type 0
  Passed e m m' = m' ≡ (record m.0 { stage = Idle; seen = m.0.seen ++ given m.0.number e ∷ [] }, [])

  -- pass on, with the entry that the call names
  abbrev pub passed : Option E → Step (Option V) → Sat V E → ℕ → Sat V E → Type 0
  passed (Some e) st m r m' = Passed e m m'
  passed None st m r m' = Unit {0}

  -- load of `serving` by a new seat: it has a number of its own, and no entry of it stands in what it has seen
  abbrev pub numbered : Step (Option V) → Sat V E → ℕ → Sat V E → Type 0
  numbered st m r m' = (k : ℕ) × (m' ≡ (record { number = k; stage = Idle; seen = m.0.seen; told = [] }, m.1)) × (k ≢ m.0.number) × (entries_of k m.0.seen ≡ [])

  -- load of `serving` by a seat that was told of another's history: the longer of both begins with the other, and has no new entry of its number
  abbrev pub settled : Step (Option V) → Sat V E → ℕ → Sat V E → Type 0
  settled st m r m' = let both = longer m.0.seen m.0.told in (m' ≡ (record m.0 { stage = Idle; seen = both; told = [] }, m.1)) × IsPrefix m.0.seen both × IsPrefix m.0.told both
      × (entries_of m.0.number both ≡ entries_of m.0.number m.0.seen)
