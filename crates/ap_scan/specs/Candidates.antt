-- The candidates and the odd names among listed names, and their orders.
use Rattle.std.specs.Prelude.{◌↔◌, ◌≡◌, ℕ, Bool, not, ◌&&◌, List, [], ◌∷◌, Contains, if◌then◌else◌}
use Rattle.std.specs.List.{flat_map}
use Rattle.std.specs.Str.{str_to_ascii_lowercase}
use Rattle.std.specs.declared.cmp.Ordering.{Ordering}
use Rattle.std.specs.Ordering.{nat_cmp, ordering_then, eq_by_cmp}
use Rattle.std.specs.Cmp.{IsTotalOrder, IsEquivalence, then_total, on_total, eq_by_cmp_equiv, nat_cmp_total}
use Rattle.std.specs.Cmp.Lexicographic.{nat_list_cmp_total}
use Rattle.ap_text.specs.Order.{bytes_cmp}
use Rattle.ap_text.specs.Wild.{some_matches_lem}
use Rattle.ap_tree.specs.Files.{names_below}
use Rattle.ap_config.specs.Configuration.{is_path}
use Rattle.ap_config.specs.declared.config.Folder.{Folder}
use Rattle.ap_scan.specs.declared.candidate.Candidate.{Candidate}
use Rattle.ap_scan.specs.declared.results.Odd.{Odd}
use Rattle.ap_scan.specs.Winners.{Files, in_folder, odd_cmp}

-- the candidate of a name in a folder
abbrev pub candidate_of : Folder → List ℕ → Candidate
candidate_of folder name = record { path = str_to_ascii_lowercase name; order = folder.order; name = name; file = in_folder folder.path name }

-- a name is a candidate where it is a path that isn't excluded from its folder
abbrev pub is_candidate_name : Folder → List ℕ → Bool
is_candidate_name folder name = is_path name && not (some_matches_lem folder.exclude (str_to_ascii_lowercase name))

abbrev pub candidates_in : Folder → List ℕ → List Candidate
candidates_in folder name = if is_candidate_name folder name then candidate_of folder name ∷ [] else []

-- the odd name, where it is no path
abbrev pub odd_of : Folder → List ℕ → Odd
odd_of folder name = record { order = folder.order; name = name }

abbrev pub odd_in : Folder → List ℕ → List Odd
odd_in folder name = if is_path name then [] else odd_of folder name ∷ []

-- the candidates and the odd names of all folders
abbrev pub candidates_of : Files → List Folder → List Candidate
candidates_of files folders = flat_map (λ folder. flat_map (candidates_in folder) (names_below folder.path files)) folders

abbrev pub odds_of : Files → List Folder → List Odd
odds_of files folders = flat_map (λ folder. flat_map (odd_in folder) (names_below folder.path files)) folders

-- two lists have the same members
abbrev pub SameMembers : {X : Type 0} → List X → List X → Type 0
SameMembers {X} xs ys = (x : X) → Contains xs x ↔ Contains ys x

-- a candidate's path is its folded name
abbrev pub IsFolded : Candidate → Type 0
IsFolded candidate = candidate.path ≡ str_to_ascii_lowercase candidate.name

-- the order of candidates: by path, order and name
abbrev pub candidate_cmp : Candidate → Candidate → Ordering
candidate_cmp a b = ordering_then (bytes_cmp a.path b.path)
    (ordering_then (nat_cmp a.order b.order) (bytes_cmp a.name b.name))

abbrev pub same_candidate : Candidate → Candidate → Bool
same_candidate = eq_by_cmp candidate_cmp

pub candidate_total : IsTotalOrder candidate_cmp
candidate_total = then_total (on_total (λ (a : Candidate). a.path) nat_list_cmp_total)
    (then_total (on_total (λ (a : Candidate). a.order) nat_cmp_total) (on_total (λ (a : Candidate). a.name) nat_list_cmp_total))

pub same_candidate_equivalence : IsEquivalence same_candidate
same_candidate_equivalence = eq_by_cmp_equiv candidate_total

abbrev pub same_odd : Odd → Odd → Bool
same_odd = eq_by_cmp odd_cmp

pub odd_total : IsTotalOrder odd_cmp
odd_total = then_total (on_total (λ (a : Odd). a.order) nat_cmp_total) (on_total (λ (a : Odd). a.name) nat_list_cmp_total)

pub same_odd_equivalence : IsEquivalence same_odd
same_odd_equivalence = eq_by_cmp_equiv odd_total
