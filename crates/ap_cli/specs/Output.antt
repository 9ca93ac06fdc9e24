-- What a sink has taken of a text.
use Rattle.std.specs.Prelude.{◌≡◌, ◌<◌, ℕ, List, ◌++◌, length, take, Option}
use Rattle.ap_tree.specs.Changes.{TellsAs}

-- a front of the text stands behind what was written before, where it is told
abbrev pub GainsFront : Option (List ℕ) → Option (List ℕ) → List ℕ → Type 0
GainsFront before now text = TellsAs before now (λ old new. (count : ℕ) × (new ≡ old ++ take count text))

-- a sink with this room took a front of a longer text
abbrev pub TakesShort : ℕ → Option (List ℕ) → Option (List ℕ) → List ℕ → Type 0
TakesShort room before now text = GainsFront before now text × (room < length text)
