-- Whether bytes are left.
use Rattle.std.proofs.Common.{◌≡◌, ◌<◌, ◌==◌, ℕ, Bool, true, false, List, [], ◌∷◌, length, sym, ◌∙◌, arith}
use Rattle.std.proofs.lemmas.Bool.Decides.{Decides-eqb}

pub is_left : (bytes : List ℕ) (empty : Bool) → empty ≡ (length bytes == 0) → empty ≡ false → 0 < length bytes
is_left [] empty e h = absurd (never (sym e ∙ h))
  where
    never : true ≡ false → ⊥
    never e = cc
is_left (b ∷ bytes) empty e h = omega arith

pub is_over : (bytes : List ℕ) (empty : Bool) → empty ≡ (length bytes == 0) → empty ≡ true → length bytes ≡ 0
is_over bytes empty e h = (Decides-eqb (length bytes) 0).0 (sym e ∙ h)
