-- What callers see of a seat.
use Rattle.std.specs.Prelude.{◌≡◌, ℕ, ◌+◌, ◌<◌, ◌≤◌, Bool, true, false, List, [], ◌∷◌, length, Option, None}
use mathlib.Core.List.{IsPrefix}
use Rattle.atomic_table.specs.Seated.{TableId}
use Rattle.atomic_table.specs.declared.shared.Seat.{Seat}
use Rattle.ap_turn.specs.declared.held.Given.{Given}
use Rattle.ap_turn.specs.declared.rule.View.{View}
use Rattle.ap_turn.specs.declared.rule.Stage.{Stage}
use Rattle.ap_turn.specs.declared.rule.Stage.TheVariants.{Idle, Holding}
use Rattle.ap_turn.specs.Views.{entries_of}

-- Which turn it is a seat of, its number, the history as far as it has seen it, and whether it has the turn
pub record Seated (E : Type 0) : Type 0 where
  pub turn : TableId
  pub number : ℕ
  pub seen : List (Given E)
  pub has_turn : Bool

-- whether the seat has taken the value
abbrev pub is_holding : Stage → Bool
is_holding (Holding n) = true
is_holding _ = false

-- between two calls a seat is idle, or holds the emptied slot and has seen the whole history
abbrev pub IsSettled : {V E : Type 0} → Stage → View E → List (ℕ × Option V) → Type 0
IsSettled Idle v carried = carried ≡ []
IsSettled (Holding n) v carried = (carried ≡ (0, None) ∷ []) × (length v.seen ≡ n) × (n + 1 < 18446744073709551616)
IsSettled _ v carried = ⊥

abbrev pub seated : {V E : Type 0} → Seat (Option V) (View E) → Seated E
seated p = record { turn = p.table_id; number = p.me.0.number; seen = p.me.0.seen; has_turn = is_holding p.me.0.stage }

-- a step leaves a seat at its table, and its view at its place
abbrev pub IsSameSeat : {V E : Type 0} → Seat (Option V) (View E) → Seat (Option V) (View E) → Type 0
IsSameSeat p q = (q.table_id ≡ p.table_id) × (q.id ≡ p.id)

-- The seat has the turn. It has seen the whole history, which begins with what it had seen and has no new entry of its number, and the value stands for it
abbrev pub Takes : {V E : Type 0} → (V → List (Given E) → Type 0) → Seated E → Seated E → V → Type 0
Takes stands s t v = (t.turn ≡ s.turn) × (t.number ≡ s.number) × (t.has_turn ≡ true) × IsPrefix s.seen t.seen × (entries_of s.number t.seen ≡ entries_of s.number s.seen)
    × stands v t.seen × (length t.seen + 1 < 18446744073709551616)

-- a seat of this turn that hasn't the turn
abbrev pub IsIdleAt : {E : Type 0} → TableId → Seated E → Type 0
IsIdleAt turn s = (s.turn ≡ turn) × (s.has_turn ≡ false)

-- the history of seat t has n entries or more of a number
abbrev pub HasAtLeast : {E : Type 0} → ℕ → ℕ → Seated E → Type 0
HasAtLeast n by t = n ≤ length (entries_of by t.seen)

-- seat s has become seat t by giving n entries
abbrev pub HasGiven : {E : Type 0} → ℕ → Seated E → Seated E → Type 0
HasGiven n s t = (t.number ≡ s.number) × (length (entries_of s.number t.seen) ≡ length (entries_of s.number s.seen) + n)
