-- A list of texts in which one may begin the next.
use Rattle.std.specs.Prelude.{ℕ, Bool, false, ◌||◌, nat_eq, List, [], ◌∷◌}
use Rattle.std.specs.List.{starts_with}

-- the text begins the next one
abbrev pub front_of_next : List ℕ → List (List ℕ) → Bool
front_of_next first [] = false
front_of_next first (next ∷ texts) = starts_with nat_eq next first

-- some text begins the next one
abbrev pub has_front_next : List (List ℕ) → Bool
has_front_next [] = false
has_front_next (first ∷ texts) = front_of_next first texts || has_front_next texts
