-- What a sink has taken.
use Rattle.std.specs.Prelude.{◌≡◌, ℕ, List, ◌++◌, Option}
use Rattle.ap_tree.specs.Changes.{TellsAs}

-- these bytes stand behind those that were written before, where they are told
abbrev pub Gains : Option (List ℕ) → Option (List ℕ) → List ℕ → Type 0
Gains before now bytes = TellsAs before now (λ old new. new ≡ old ++ bytes)
