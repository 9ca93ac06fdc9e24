-- The builders that are offered.
use Rattle.std.specs.Prelude.{ℕ, Bool, true, not, ◌&&◌, List, [], ◌∷◌, bytes_eq}
use Rattle.std.specs.List.{list_any, AllByRecursion}
use Rattle.ap_config.specs.declared.offer.Offer.{Offer}
use Rattle.ap_builder.specs.Paths.{IsPattern}

-- some offer has this name
abbrev pub is_offered : List Offer → List ℕ → Bool
is_offered offers name = list_any (λ offer. bytes_eq offer.name name) offers

-- no two offers have one name
abbrev pub has_distinct_names : List Offer → Bool
has_distinct_names [] = true
has_distinct_names (offer ∷ offers) = not (is_offered offers offer.name) && has_distinct_names offers

-- each pattern of the offer is in the grammar
abbrev pub HasPatterns : Offer → Type 0
HasPatterns offer = AllByRecursion IsPattern offer.patterns
