-- Who wins of `A.txt` and `a.txt` in one folder, and of `a.txt` in two folders.
use Rattle.std.proofs.Common.{◌≡◌, ◌⊎◌, inl, inr, List, [], ◌∷◌, Contains, codes, refl, sym, ◌∙◌, ap, subst, ⊎_elim, arith}
use Rattle.std.specs.Prelude.{◌↔◌}
use Rattle.std.specs.List.Sorted.{IsStrictlySortedBy}
use Rattle.std.specs.Char.{encode_utf8}
use Rattle.std.specs.Str.{chars, is_utf8}
use Rattle.ap_text.specs.declared.seen.Seen.TheVariants.{Bytes}
use Rattle.ap_text.proofs.Members.{Contains-none, Contains-cons_cases}
use Rattle.ap_config.specs.declared.config.Config.{Config}
use Rattle.ap_config.specs.declared.config.Folder.{Folder}
use Rattle.ap_scan.specs.declared.candidate.Candidate.{Candidate}
use Rattle.ap_scan.specs.Winners.{Files, HasOwnOrders, AreWinners, AreHidden}
use Rattle.ap_scan.specs.Candidates.{candidate_of, candidates_of}
use Rattle.ap_scan.proofs.Sweeping.{Rise}
use Rattle.ap_scan.proofs.Finding.{IsFound, found}
use Rattle.ap_scan.proofs.Winning.{winners-are, hidden-are}

abbrev game : Folder
game = record { order = 0; path = codes "game"; exclude = [] }

abbrev gem : Folder
gem = record { order = 10; path = codes "gem"; exclude = [] }

abbrev config : List Folder → Config
config folders = record { platforms = []; folders = folders; builders = [] }

listed-found : (files : Files) (folders : List Folder) (cs : List Candidate) → candidates_of files folders ≡ cs → (c : Candidate) → Contains cs c ↔ IsFound folders files c
listed-found files folders cs e c = subst (λ (l : List Candidate). Contains l c ↔ IsFound folders files c) e (found folders files c)

-- two names in one folder
abbrev two_names : Files
two_names = (codes "game/A.txt", codes "1\n") ∷ (codes "game/a.txt", codes "2\n") ∷ []

abbrev names : List Candidate
names = candidate_of game (codes "A.txt") ∷ candidate_of game (codes "a.txt") ∷ []

names_listed : candidates_of two_names (game ∷ []) ≡ names
unfolding chars is_utf8 encode_utf8
names_listed = refl

names_rise : Rise names
unfolding IsStrictlySortedBy
names_rise = ((refl, tt), (tt, tt))

one_order : HasOwnOrders (game ∷ [])
one_order a b in_a in_b same = sym (only a in_a) ∙ only b in_b
  where
    only : (f : Folder) → Contains (game ∷ []) f → game ≡ f
    only f member = ⊎_elim (λ e. e) (λ none. absurd (Contains-none f none)) (Contains-cons_cases game [] f member)

upper_wins : AreWinners (config (game ∷ [])) two_names (record { path = codes "a.txt"; order = 0; name = codes "A.txt"; seen = Bytes (codes "1\n") } ∷ [])
upper_wins = winners-are (config (game ∷ [])) two_names one_order names names_rise (listed-found two_names (game ∷ []) names names_listed)

lower_is_hidden : AreHidden (config (game ∷ [])) two_names (record { order = 0; name = codes "a.txt" } ∷ [])
lower_is_hidden = hidden-are (config (game ∷ [])) two_names one_order names names_rise (listed-found two_names (game ∷ []) names names_listed)

-- one name in two folders
abbrev two_folders : Files
two_folders = (codes "game/a.txt", codes "new\n") ∷ (codes "gem/a.txt", codes "old\n") ∷ []

abbrev listed : List Candidate
listed = candidate_of game (codes "a.txt") ∷ candidate_of gem (codes "a.txt") ∷ []

both_listed : candidates_of two_folders (game ∷ gem ∷ []) ≡ listed
unfolding chars is_utf8 encode_utf8
both_listed = refl

listed_rise : Rise listed
unfolding IsStrictlySortedBy
listed_rise = ((refl, tt), (tt, tt))

two_orders : HasOwnOrders (game ∷ gem ∷ [])
two_orders a b in_a in_b same = ⊎_elim
    (λ game_a. ⊎_elim (λ game_b. sym game_a ∙ game_b) (λ gem_b. apart a b game_a gem_b same) (only b in_b))
    (λ gem_a. ⊎_elim (λ game_b. sym (apart b a game_b gem_a (sym same))) (λ gem_b. sym gem_a ∙ gem_b) (only b in_b))
    (only a in_a)
  where
    only : (f : Folder) → Contains (game ∷ gem ∷ []) f → (game ≡ f) ⊎ (gem ≡ f)
    only f member = ⊎_elim inl (λ behind. ⊎_elim inr (λ none. absurd (Contains-none f none)) (Contains-cons_cases gem [] f behind)) (Contains-cons_cases game (gem ∷ []) f member)

    apart : (f g : Folder) → game ≡ f → gem ≡ g → f.order ≡ g.order → f ≡ g
    apart f g is_game is_gem same =
        let order : 0 ≡ f.order = ap (λ (x : Folder). x.order) is_game in
        let other : 10 ≡ g.order = ap (λ (x : Folder). x.order) is_gem in
        absurd (omega (arith, order, other, same))

lesser_order_wins : AreWinners (config (game ∷ gem ∷ [])) two_folders (record { path = codes "a.txt"; order = 0; name = codes "a.txt"; seen = Bytes (codes "new\n") } ∷ [])
lesser_order_wins = winners-are (config (game ∷ gem ∷ [])) two_folders two_orders listed listed_rise (listed-found two_folders (game ∷ gem ∷ []) listed both_listed)

greater_order_is_hidden : AreHidden (config (game ∷ gem ∷ [])) two_folders (record { order = 10; name = codes "a.txt" } ∷ [])
greater_order_is_hidden = hidden-are (config (game ∷ gem ∷ [])) two_folders two_orders listed listed_rise (listed-found two_folders (game ∷ gem ∷ []) listed both_listed)
