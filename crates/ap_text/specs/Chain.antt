-- Chains of steps, each from a value to one of those that it leads to.
use Rattle.std.specs.Prelude.{◌≡◌, ◌⊎◌, ℕ, zero, suc, List, [], ◌∷◌, Contains}
use Rattle.std.specs.List.{flat_map}

-- a chain of one or more steps leads from a to b
pub data Chain {X : Type 0} (next : X → List X) : X → X → Type 0 where
  step : {a b : X} → Contains (next a) b → Chain next a b
  through : {a b c : X} → Contains (next a) b → Chain next b c → Chain next a c

-- a chain of any number of steps, none too
abbrev pub Reaches : {X : Type 0} → (X → List X) → X → X → Type 0
Reaches next a b = (a ≡ b) ⊎ Chain next a b

-- the ends of the chains of at most n steps
abbrev pub ends : {X : Type 0} → (X → List X) → ℕ → X → List X
ends next zero a = []
ends next (suc n) a = flat_map (λ b. b ∷ ends next n b) (next a)
