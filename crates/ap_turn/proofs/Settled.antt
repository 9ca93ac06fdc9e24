-- What a seat's stage is between two calls.
use Rattle.std.proofs.Common.{◌≡◌, ℕ, true, false, List, [], ◌∷◌, Option, None, refl}
use Rattle.ap_turn.specs.declared.rule.View.{View}
use Rattle.ap_turn.specs.declared.rule.Stage.{Stage}
use Rattle.ap_turn.specs.declared.rule.Stage.TheVariants.{New, Idle, Waiting, Holding, Joining, Spent}
use Rattle.ap_turn.specs.Seats.{is_holding, IsSettled}

module _ {V E : Type 0} where
  pub settled_idle : (v : View E) (carried : List (ℕ × Option V)) (st : Stage) → IsSettled st v carried → is_holding st ≡ false → (st ≡ Idle) × (carried ≡ [])
  settled_idle v carried New s h = absurd s
  settled_idle v carried Idle s h = (refl, s)
  settled_idle v carried (Waiting n) s h = absurd s
  settled_idle v carried (Holding n) s h = absurd (cc h)
  settled_idle v carried Joining s h = absurd s
  settled_idle v carried Spent s h = absurd s

  pub settled_holding : (v : View E) (carried : List (ℕ × Option V)) (st : Stage) → IsSettled st v carried → is_holding st ≡ true → ((n : ℕ) × (st ≡ Holding n)) × (carried ≡ (0, None) ∷ [])
  settled_holding v carried New s h = absurd s
  settled_holding v carried Idle s h = absurd (cc h)
  settled_holding v carried (Waiting n) s h = absurd s
  settled_holding v carried (Holding n) s h = ((n, refl), s.0)
  settled_holding v carried Joining s h = absurd s
  settled_holding v carried Spent s h = absurd s
