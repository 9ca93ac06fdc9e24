-- What a crash may leave of a file between two syncs.
use Rattle.std.specs.Prelude.{◌≡◌, ◌≤◌, ◌+◌, ◌⊎◌, ℕ, min, max, List, length, take, drop, Option, IfSome}

-- a write of n bytes that was cut short: any bytes in the range and past the old end, the same elsewhere
pub record Torn (at n : ℕ) (old new : List ℕ) : Type 0 where
  pub before : take (min at (length old)) new ≡ take (min at (length old)) old
  pub behind : drop (at + n) new ≡ drop (at + n) old
  pub no_shorter : length old ≤ length new
  pub no_longer : length new ≤ max (length old) (at + n)

-- a cut leaves the old length or the new one
abbrev pub Shortened : ℕ → List ℕ → List ℕ → Type 0
Shortened len old new = (new ≡ old) ⊎ (new ≡ take len old)

-- the outcomes of a step from one of these
abbrev pub AfterStep : (List ℕ → List ℕ → Type 0) → (List ℕ → Type 0) → List ℕ → Type 0
AfterStep step outcomes new = (old : List ℕ) × outcomes old × step old new

-- a crash leaves what a read gives
abbrev pub Only : Option (List ℕ) → (List ℕ → Type 0) → Type 0
Only seen outcomes = IfSome seen (λ bytes. (c : List ℕ) → outcomes c → c ≡ bytes)
