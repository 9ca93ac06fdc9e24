-- The builders that take a path.
use Rattle.std.specs.Prelude.{ℕ, List, map, filter}
use Rattle.std.specs.List.{enumerate_from}
use Rattle.ap_text.specs.Wild.{some_matches_lem}
use Rattle.ap_config.specs.declared.offer.Offer.{Offer}

-- the places of the builders of which some pattern matches the path
abbrev pub matching_lem : List Offer → List ℕ → List ℕ
matching_lem builders path = map (λ entry. entry.0) (filter (λ entry. some_matches_lem entry.1.patterns path) (enumerate_from 0 builders))
