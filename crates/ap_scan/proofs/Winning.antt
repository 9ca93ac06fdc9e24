-- The first candidate for each path wins, and the others are hidden.
use Rattle.std.proofs.Common.{◌≡◌, ℕ, Bool, true, false, List, [], ◌∷◌, length, map, Contains, refl, sym, ◌∙◌, ap, subst, inl, inr, ⊎_elim}
use Rattle.std.specs.Prelude.{◌↔◌, Option, nat_le, if◌then◌else◌}
use Rattle.std.specs.List.Sorted.{IsStrictlySortedBy}
use Rattle.std.specs.Str.{str_to_ascii_lowercase}
use Rattle.std.specs.declared.cmp.Ordering.{Ordering}
use Rattle.std.specs.declared.cmp.Ordering.TheVariants.{Less}
use Rattle.std.specs.Ordering.{nat_cmp, ordering_then, on}
use Rattle.ap_text.specs.declared.seen.Seen.{Seen}
use Rattle.ap_text.specs.declared.seen.Seen.TheVariants.{Bytes, TooLarge}
use Rattle.ap_text.specs.Order.{bytes_cmp}
use Rattle.ap_text.proofs.Members.{Contains-head, Contains-tail_of, Contains-map, Contains-map_cases, AllByRecursion-at, AllByRecursion-from}
use Rattle.ap_tree.specs.Files.{content_at, seen_up_to}
use Rattle.ap_config.specs.declared.config.Config.{Config}
use Rattle.ap_config.specs.declared.config.Folder.{Folder}
use Rattle.ap_scan.specs.declared.candidate.Candidate.{Candidate}
use Rattle.ap_scan.specs.declared.results.Winner.{Winner}
use Rattle.ap_scan.specs.declared.results.Hidden.{Hidden}
use Rattle.ap_scan.specs.declared.results.Odd.{Odd}
use Rattle.ap_scan.specs.Winners.{Files, in_folder, HasOwnOrders, IsCandidate, Beats, Wins, IsWinner, AreWinners, IsHidden, AreHidden, hidden_cmp, AreOdd, odd_cmp}
use Rattle.ap_scan.specs.Candidates.{candidate_cmp, odds_of, SameMembers}
use Rattle.ap_scan.specs.Sweep.{firsts, others, hidden_of}
use Rattle.ap_scan.specs.Reads.{winner_in, winners_in, seen_in, is_seen, those_there, paths_of, winner_paths}
use Rattle.ap_scan.proofs.Orders.{beats, beaten, less-self, not-both-less}
use Rattle.ap_scan.proofs.Sweeping.{Rise, Before, Splits, splits, first-before}
use Rattle.ap_scan.proofs.Finding.{IsFound, one-candidate, is-candidate, Stands, stands, odd-found, has-content}

-- a list rises where its keys do
pub keys-rise : {X K : Type 0} (key : X → K) (cmp : K → K → Ordering) (xs : List X) → IsStrictlySortedBy cmp (map key xs) → IsStrictlySortedBy (on key cmp) xs
unfolding IsStrictlySortedBy
keys-rise key cmp [] rises = tt
keys-rise key cmp (x ∷ xs) rises = (
  AllByRecursion-from (λ y. cmp (key x) (key y) ≡ Less) xs (λ y member. AllByRecursion-at (λ k. cmp (key x) k ≡ Less) (map key xs) (key y) rises.0 (Contains-map key xs y member)),
  keys-rise key cmp xs rises.1,
)

paths-in : (files : Files) (ws : List Candidate) → winner_paths (winners_in files ws) ≡ paths_of ws
paths-in files [] = refl
paths-in files (w ∷ ws) = ap (λ (l : List (List ℕ)). w.path ∷ l) (paths-in files ws)

hidden-less : (a b : Candidate) → a.path ≡ str_to_ascii_lowercase a.name → b.path ≡ str_to_ascii_lowercase b.name → candidate_cmp a b ≡ Less → hidden_cmp (hidden_of a) (hidden_of b) ≡ Less
hidden-less a b of_a of_b less = subst (λ (p : List ℕ). ordering_then (bytes_cmp (str_to_ascii_lowercase a.name) p) (ordering_then (nat_cmp a.order b.order) (bytes_cmp a.name b.name)) ≡ Less) of_b
    (subst (λ (p : List ℕ). ordering_then (bytes_cmp p b.path) (ordering_then (nat_cmp a.order b.order) (bytes_cmp a.name b.name)) ≡ Less) of_a less)

pub hidden-rise : (xs : List Candidate) → ((c : Candidate) → Contains xs c → c.path ≡ str_to_ascii_lowercase c.name) → Rise xs → IsStrictlySortedBy hidden_cmp (map hidden_of xs)
unfolding IsStrictlySortedBy
hidden-rise [] folded rise = tt
hidden-rise (x ∷ xs) folded rise = (
  AllByRecursion-from (λ (h : Hidden). hidden_cmp (hidden_of x) h ≡ Less) (map hidden_of xs)
      (λ h member. let from = Contains-map_cases hidden_of xs h member in
      subst (λ (k : Hidden). hidden_cmp (hidden_of x) k ≡ Less) from.2
      (hidden-less x from.0 (folded x (Contains-head x xs)) (folded from.0 (Contains-tail_of x xs from.0 from.1)) (AllByRecursion-at (λ (c : Candidate). candidate_cmp x c ≡ Less) xs from.0 rise.0 from.1))),
  hidden-rise xs (λ c member. folded c (Contains-tail_of x xs c member)) rise.1,
)

abbrev winner_at : List ℕ → ℕ → List ℕ → Seen → Winner
winner_at path order name seen = record { path = path; order = order; name = name; seen = seen }

abbrev hidden_at : ℕ → List ℕ → Hidden
hidden_at order name = record { order = order; name = name }

module _ (config : Config) (files : Files) (own : HasOwnOrders config.folders) (cs : List Candidate) (rise : Rise cs)
    (is : (c : Candidate) → Contains cs c ↔ IsFound config.folders files c) where
  parts : Splits cs
  parts = splits cs rise

  first_found : (c : Candidate) → Contains (firsts cs) c → IsFound config.folders files c
  first_found c member = (is c).0 (parts.among c member)

  other_found : (c : Candidate) → Contains (others cs) c → IsFound config.folders files c
  other_found c member = (is c).0 (parts.others_among c member)

  folded : (c : Candidate) → IsFound config.folders files c → c.path ≡ str_to_ascii_lowercase c.name
  folded c found = ap (λ (d : Candidate). d.path) (sym found.is)

  wins : (c : Candidate) → Contains (firsts cs) c → Wins config files c.path c.order c.name
  wins c member = record {
    candidate = is-candidate config files c (first_found c member);
    unbeaten = λ order' name' other.
        let d = stands config files c.path order' name' other in
        ⊎_elim
        (λ e. inl (sym d.order_is ∙ ap (λ (x : Candidate). x.order) (sym e), sym d.name_is ∙ ap (λ (x : Candidate). x.name) (sym e)))
        (λ less. inr (subst (λ (n : List ℕ). Beats c.order c.name order' n) d.name_is (subst (λ (o : ℕ). Beats c.order c.name o d.candidate.name) d.order_is
        (beats c d.candidate (sym d.path_is) less))))
        (first-before cs parts c d.candidate member ((is d.candidate).1 d.found) (sym d.path_is));
  }

  -- the candidate of a file that wins is the first for its path
  wins-first : (path : List ℕ) (order : ℕ) (name : List ℕ) → Wins config files path order name → (d : Stands config files path order name) → Contains (firsts cs) d.candidate
  wins-first path order name w d = ⊎_elim (λ first. first) (λ other. absurd (beaten_by (parts.behind d.candidate other))) (parts.placed d.candidate ((is d.candidate).1 d.found))
    where
      beaten_by : Before (firsts cs) d.candidate → ⊥
      beaten_by b =
          let found = first_found b.first b.member in
          let other : IsCandidate config files path b.first.order b.first.name =
          subst (λ (p : List ℕ). IsCandidate config files p b.first.order b.first.name) (b.path ∙ d.path_is) (is-candidate config files b.first found) in
          ⊎_elim
          (λ same. less-self b.first d.candidate (one-candidate config.folders files own b.first d.candidate found d.found (same.0 ∙ sym d.order_is) (same.1 ∙ sym d.name_is)) b.less)
          (λ before. not-both-less b.first d.candidate b.less (beaten d.candidate b.first (sym b.path)
          (subst (λ (n : List ℕ). Beats d.candidate.order n b.first.order b.first.name) (sym d.name_is) (subst (λ (o : ℕ). Beats o name b.first.order b.first.name) (sym d.order_is) before))))
          (w.unbeaten b.first.order b.first.name other)

  winner-from : (winner : Winner) → Contains (winners_in files (firsts cs)) winner → IsWinner config files winner
  winner-from winner member =
      let from = Contains-map_cases (winner_in files) (firsts cs) winner member in
      let found = first_found from.0 from.1 in
      subst (λ (w : Winner). IsWinner config files w) from.2 (record {
        wins = wins from.0 from.1;
        folder = found.folder;
        configured = found.configured;
        ordered = ap (λ (c : Candidate). c.order) found.is;
        seen_as = ap (λ (f : List ℕ). seen_up_to 4194304 (content_at files f)) (ap (λ (c : Candidate). c.file) (sym found.is));
      })

  winner-in : (winner : Winner) → IsWinner config files winner → Contains (winners_in files (firsts cs)) winner
  winner-in winner w =
      let d = stands config files winner.path winner.order winner.name w.wins.candidate in
      let folder : w.folder ≡ d.found.folder = own w.folder d.found.folder w.configured d.found.configured
      (w.ordered ∙ sym d.order_is ∙ sym (ap (λ (c : Candidate). c.order) d.found.is)) in
      let file : d.candidate.file ≡ in_folder w.folder.path winner.name =
      ap (λ (c : Candidate). c.file) (sym d.found.is) ∙ ap (λ (f : Folder). in_folder f.path d.candidate.name) (sym folder) ∙ ap (in_folder w.folder.path) d.name_is in
      let seen : seen_in files d.candidate ≡ winner.seen = ap (λ (f : List ℕ). seen_up_to 4194304 (content_at files f)) file ∙ sym w.seen_as in
      let whole : winner_in files d.candidate ≡ winner =
      ap (λ (p : List ℕ). winner_at p d.candidate.order d.candidate.name (seen_in files d.candidate)) d.path_is
      ∙ ap (λ (o : ℕ). winner_at winner.path o d.candidate.name (seen_in files d.candidate)) d.order_is
      ∙ ap (λ (n : List ℕ). winner_at winner.path winner.order n (seen_in files d.candidate)) d.name_is
      ∙ ap (winner_at winner.path winner.order winner.name) seen in
      subst (λ (x : Winner). Contains (winners_in files (firsts cs)) x) whole
      (Contains-map (winner_in files) (firsts cs) d.candidate (wins-first winner.path winner.order winner.name w.wins d))

  pub winners-are : AreWinners config files (winners_in files (firsts cs))
  winners-are = record {
    rises = keys-rise (λ (w : Winner). w.path) bytes_cmp (winners_in files (firsts cs)) (subst (λ (l : List (List ℕ)). IsStrictlySortedBy bytes_cmp l) (sym (paths-in files (firsts cs))) parts.firsts_rise);
    holds = λ winner. (winner-from winner, winner-in winner);
  }

  hidden-from : (hidden : Hidden) → Contains (map hidden_of (others cs)) hidden → IsHidden config files hidden
  hidden-from hidden member =
      let from = Contains-map_cases hidden_of (others cs) hidden member in
      let found = other_found from.0 from.1 in
      let before = parts.behind from.0 from.1 in
      subst (λ (h : Hidden). IsHidden config files h) from.2 (record {
        candidate = subst (λ (p : List ℕ). IsCandidate config files p from.0.order from.0.name) (folded from.0 found) (is-candidate config files from.0 found);
        order' = before.first.order;
        name' = before.first.name;
        other = subst (λ (p : List ℕ). IsCandidate config files p before.first.order before.first.name) (before.path ∙ folded from.0 found)
            (is-candidate config files before.first (first_found before.first before.member));
        beaten = beats before.first from.0 before.path before.less;
      })

  hidden-in : (hidden : Hidden) → IsHidden config files hidden → Contains (map hidden_of (others cs)) hidden
  hidden-in hidden h =
      let d = stands config files (str_to_ascii_lowercase hidden.name) hidden.order hidden.name h.candidate in
      let o = stands config files (str_to_ascii_lowercase hidden.name) h.order' h.name' h.other in
      let less : candidate_cmp o.candidate d.candidate ≡ Less = beaten o.candidate d.candidate (o.path_is ∙ sym d.path_is)
      (subst (λ (n : List ℕ). Beats o.candidate.order n d.candidate.order d.candidate.name) (sym o.name_is)
      (subst (λ (x : ℕ). Beats x h.name' d.candidate.order d.candidate.name) (sym o.order_is)
      (subst (λ (n : List ℕ). Beats h.order' h.name' d.candidate.order n) (sym d.name_is)
      (subst (λ (x : ℕ). Beats h.order' h.name' x hidden.name) (sym d.order_is) h.beaten)))) in
      let whole : hidden_of d.candidate ≡ hidden = ap (λ (x : ℕ). hidden_at x d.candidate.name) d.order_is ∙ ap (hidden_at hidden.order) d.name_is in
      subst (λ (x : Hidden). Contains (map hidden_of (others cs)) x) whole (Contains-map hidden_of (others cs) d.candidate
      (⊎_elim
      (λ first. absurd (⊎_elim
      (λ e. less-self o.candidate d.candidate (sym e) less)
      (λ more. not-both-less o.candidate d.candidate less more)
      (first-before cs parts d.candidate o.candidate first ((is o.candidate).1 o.found) (d.path_is ∙ sym o.path_is))))
      (λ other. other)
      (parts.placed d.candidate ((is d.candidate).1 d.found))))

  pub hidden-are : AreHidden config files (map hidden_of (others cs))
  hidden-are = record {
    rises = hidden-rise (others cs) (λ c member. folded c (other_found c member)) parts.others_rise;
    holds = λ hidden. (hidden-from hidden, hidden-in hidden);
  }

  seen-there : (c : Candidate) → IsFound config.folders files c → is_seen (seen_in files c) ≡ true
  seen-there c found =
      let content = has-content files found.folder.path c.name found.listed in
      ap (λ (f : List ℕ). is_seen (seen_up_to 4194304 (content_at files f))) (ap (λ (d : Candidate). d.file) (sym found.is))
      ∙ ap (λ (o : Option (List ℕ)). is_seen (seen_up_to 4194304 o)) content.1
      ∙ by_test content.0 (nat_le (length content.0) 4194304)
    where
      by_test : (bytes : List ℕ) (small : Bool) → is_seen (if small then Bytes bytes else TooLarge) ≡ true
      by_test bytes true = refl
      by_test bytes false = refl

  all-there : (ws : List Candidate) → ((c : Candidate) → Contains ws c → IsFound config.folders files c) → those_there (winners_in files ws) ≡ winners_in files ws
  all-there [] found = refl
  all-there (w ∷ ws) found = rw (seen-there w (found w (Contains-head w ws)), all-there ws (λ c member. found c (Contains-tail_of w ws c member))) refl

  pub firsts-there : those_there (winners_in files (firsts cs)) ≡ winners_in files (firsts cs)
  firsts-there = all-there (firsts cs) first_found

-- the odd names that were listed are all of them
pub odd-are : (config : Config) (files : Files) (listed odd : List Odd) → SameMembers (odds_of files config.folders) listed → SameMembers listed odd → IsStrictlySortedBy odd_cmp odd → AreOdd config files odd
odd-are config files listed odd found same rises = record {
  rises = rises;
  holds = λ o. (λ member. (odd-found config files o).0 ((found o).1 ((same o).1 member)), λ is. (same o).0 ((found o).0 ((odd-found config files o).1 is)));
}
