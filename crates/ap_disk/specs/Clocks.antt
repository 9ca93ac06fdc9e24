-- The clock of a disk, and the images of its moments.
use Rattle.std.specs.Prelude.{◌≡◌, ◌≤◌, ◌<◌, ◌+◌, ◌-◌, ◌^◌, ℕ, List, Option, Some, None, IfSome}

-- one call more; the clock stops being told only at its last value
abbrev pub Ticks : Option ℕ → Option ℕ → Type 0
Ticks None None = Unit {0}
Ticks None (Some now) = ⊥
Ticks (Some before) None = 2 ^ 64 - 1 ≤ before + 1
Ticks (Some before) (Some now) = now ≡ before + 1

-- the moment of the call that ends here has these images, and the earlier moments keep theirs
pub record EndsMoment (now : ℕ) (before after : ℕ → List ℕ → Type 0) (within : List ℕ → Type 0) : Type 0 where
  pub this : (c : List ℕ) → after now c → within c
  pub earlier : (t : ℕ) (c : List ℕ) → t < now → after t c → before t c
  pub kept : (t : ℕ) (c : List ℕ) → t < now → before t c → after t c

-- so it is where the clock is told
abbrev pub Moments : Option ℕ → (ℕ → List ℕ → Type 0) → (ℕ → List ℕ → Type 0) → (List ℕ → Type 0) → Type 0
Moments clock before after within = IfSome clock (λ now. EndsMoment now before after within)

-- the two clocks are equal where both are told
abbrev pub SameTime : Option ℕ → Option ℕ → Type 0
SameTime (Some a) (Some b) = a ≡ b
SameTime (Some a) None = Unit {0}
SameTime None b = Unit {0}
