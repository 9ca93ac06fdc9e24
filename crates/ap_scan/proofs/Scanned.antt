-- What was listed, put in order, split and read is the scan.
use Rattle.std.proofs.Common.{◌≡◌, ◌<◌, ◌≤◌, ℕ, List, length, map, Contains, refl, sym, ◌∙◌, ap, subst, arith}
use Rattle.std.specs.Prelude.{◌↔◌, Option, Some, None, IfSome, Err}
use Rattle.std.specs.List.{AllByRecursion}
use Rattle.std.specs.List.Sorted.{IsStrictlySortedBy}
use Rattle.std.specs.Str.{str_to_ascii_lowercase}
use Rattle.std.specs.declared.cmp.Ordering.TheVariants.{Equal}
use Rattle.std.proofs.lemmas.List.{length-map}
use Rattle.ap_text.specs.declared.seen.Which.TheVariants.{Files as ManyFiles, Bytes as ManyBytes, Jobs, ProductBytes, Tickets}
use Rattle.ap_text.specs.Order.{bytes_cmp}
use Rattle.ap_text.proofs.Members.{AllByRecursion-at, AllByRecursion-from}
use Rattle.ap_config.specs.declared.config.Config.{Config}
use Rattle.ap_scan.specs.declared.candidate.Candidate.{Candidate}
use Rattle.ap_scan.specs.declared.results.Winner.{Winner}
use Rattle.ap_scan.specs.declared.results.Hidden.{Hidden}
use Rattle.ap_scan.specs.declared.results.Odd.{Odd}
use Rattle.ap_scan.specs.declared.fault.ScanFault.{ScanFault}
use Rattle.ap_scan.specs.declared.fault.ScanFault.TheVariants.{TreeFault, Limit, OutOfMemory}
use Rattle.ap_scan.specs.Winners.{Files, HasOwnOrders, AreWinners, AreHidden, AreOdd, hidden_cmp, odd_cmp}
use Rattle.ap_scan.specs.Limits.{Scans, AreLawful, IsLawful, IsPassedBytes, IsThere, bytes_of, first_over, all_seen}
use Rattle.ap_scan.specs.Candidates.{candidate_cmp, candidates_of, odds_of, SameMembers, IsFolded}
use Rattle.ap_scan.specs.Sweep.{firsts, others, hidden_of}
use Rattle.ap_scan.specs.Reads.{winners_in, those_there, paths_of, winner_paths}
use Rattle.ap_scan.proofs.Orders.{Alike, alike}
use Rattle.ap_scan.proofs.Sweeping.{Rise, splits}
use Rattle.ap_scan.proofs.Finding.{IsFound, found, one-candidate}
use Rattle.ap_scan.proofs.Winning.{keys-rise, hidden-rise, winners-are, hidden-are, firsts-there, odd-are}

winners-length : (files : Files) (ws : List Candidate) → length (winners_in files ws) ≡ length ws
winners-length files ws = rw length-map refl

-- the candidates in their order are those that were listed
pub record Ordered (listed candidates : List Candidate) : Type 0 where
  pub rise : Rise candidates
  pub only : (c : Candidate) → Contains candidates c → Contains listed c
  pub all : (c : Candidate) → Contains listed c → (d : Candidate) × Contains candidates d × (candidate_cmp c d ≡ Equal)

module _ (config : Config) (own : HasOwnOrders config.folders) (listed cs ws : List Candidate) (ordered : Ordered listed cs) (split : ws ≡ firsts cs) where
  is-found : (files : Files) → SameMembers (candidates_of files config.folders) listed → (c : Candidate) → Contains cs c ↔ IsFound config.folders files c
  is-found files same c = (
    λ member. (found config.folders files c).0 ((same c).1 (ordered.only c member)),
    λ f.
        let d = ordered.all c ((same c).0 ((found config.folders files c).1 f)) in
        let like : Alike c d.0 = alike c d.0 d.2 in
        let found_d : IsFound config.folders files d.0 = (found config.folders files d.0).0 ((same d.0).1 (ordered.only d.0 d.1)) in
        subst (λ (x : Candidate). Contains cs x) (sym (one-candidate config.folders files own c d.0 f found_d like.order like.name)) d.1,
  )

  are-winners : (files : Files) → SameMembers (candidates_of files config.folders) listed → AreWinners config files (winners_in files ws)
  are-winners files same = subst (λ (l : List Candidate). AreWinners config files (winners_in files l)) (sym split) (winners-are config files own cs ordered.rise (is-found files same))

  pub scans-ok : (told now : Option Files) → now ≡ told → IfSome told (λ files. SameMembers (candidates_of files config.folders) listed) →
      (read winners : List Winner) → winners ≡ read → IfSome now (λ files. read ≡ those_there (winners_in files ws)) →
      (swept hidden : List Hidden) → hidden ≡ swept → swept ≡ map hidden_of (others cs) →
      (listed_odd put odd : List Odd) → odd ≡ put → IfSome told (λ files. SameMembers (odds_of files config.folders) listed_odd) → IsStrictlySortedBy odd_cmp put → SameMembers listed_odd put →
      IfSome told (λ files. AreWinners config files winners × AreHidden config files hidden × AreOdd config files odd)
  scans-ok None now stays same read winners is_read reads swept hidden is_swept sweeps listed_odd put odd is_put odd_found odd_rises odd_same = tt
  scans-ok (Some files) now stays same read winners is_read reads swept hidden is_swept sweeps listed_odd put odd is_put odd_found odd_rises odd_same = (
    subst (λ (l : List Winner). AreWinners config files l)
        (ap (winners_in files) split ∙ sym (firsts-there config files own cs ordered.rise (is-found files same)) ∙ ap (λ (l : List Candidate). those_there (winners_in files l)) (sym split)
        ∙ sym (subst (λ (t : Option Files). IfSome t (λ fs. read ≡ those_there (winners_in fs ws))) stays reads) ∙ sym is_read)
        (are-winners files same),
    subst (λ (l : List Hidden). AreHidden config files l) (sym (is_swept ∙ sweeps)) (hidden-are config files own cs ordered.rise (is-found files same)),
    subst (λ (l : List Odd). AreOdd config files l) (sym is_put) (odd-are config files listed_odd put odd_found odd_same odd_rises),
  )

  pub scans-many : (told : Option Files) → IfSome told (λ files. SameMembers (candidates_of files config.folders) listed) →
      (count : ℕ) (fault : ScanFault) → count ≡ length ws → 20000 < count → fault ≡ Limit ManyFiles count → IfSome told (λ files. Scans config files (Err fault))
  scans-many None same count fault counted many is = tt
  scans-many (Some files) same count fault counted many is = subst (λ (f : ScanFault). Scans config files (Err f)) (sym is) (
    winners_in files ws,
    are-winners files same,
    (subst (λ n. 20000 < n) (counted ∙ sym (winners-length files ws)) many, counted ∙ sym (winners-length files ws)),
  )

  pub scans-fault : (told now : Option Files) → now ≡ told → IfSome told (λ files. SameMembers (candidates_of files config.folders) listed) → length ws ≤ 20000 →
      (fault : ScanFault) → IsPassedBytes fault → ((count : ℕ) → fault ≡ Limit ManyBytes count → IfSome now (λ files. first_over 0 (all_seen (winners_in files ws)) ≡ Some count)) →
      IfSome told (λ files. Scans config files (Err fault))
  scans-fault None now stays same few fault passed limit = tt
  scans-fault (Some files) now stays same few TreeFault passed limit = tt
  scans-fault (Some files) now stays same few OutOfMemory passed limit = tt
  scans-fault (Some files) now stays same few (Limit ManyFiles count) passed limit = absurd passed
  scans-fault (Some files) now stays same few (Limit Jobs count) passed limit = absurd passed
  scans-fault (Some files) now stays same few (Limit ProductBytes count) passed limit = absurd passed
  scans-fault (Some files) now stays same few (Limit Tickets count) passed limit = absurd passed
  scans-fault (Some files) now stays same few (Limit ManyBytes count) passed limit = (
    winners_in files ws,
    are-winners files same,
    (
      subst (λ n. n ≤ 20000) (sym (winners-length files ws)) few,
      subst (λ (t : Option Files). IfSome t (λ fs. first_over 0 (all_seen (winners_in fs ws)) ≡ Some count)) stays (limit count refl),
    ),
  )

  all_folded : AllByRecursion IsFolded listed → (c : Candidate) → Contains cs c → c.path ≡ str_to_ascii_lowercase c.name
  all_folded folded c member = AllByRecursion-at IsFolded listed c folded (ordered.only c member)

  pub lawful-winners : AllByRecursion IsFolded listed → length ws ≤ 20000 → (read : List Winner) →
      (IsStrictlySortedBy bytes_cmp (paths_of ws) → IsStrictlySortedBy bytes_cmp (winner_paths read)) → (AllByRecursion IsFolded ws → AllByRecursion IsThere read) →
      length read ≤ length ws → bytes_of read ≤ 268435456 → AreLawful read
  lawful-winners folded few read rises there fewer small = record {
    rises = keys-rise (λ (w : Winner). w.path) bytes_cmp read (rises (subst (λ (l : List Candidate). IsStrictlySortedBy bytes_cmp (paths_of l)) (sym split) (splits cs ordered.rise).firsts_rise));
    there = there (AllByRecursion-from IsFolded ws (λ c member. all_folded folded c ((splits cs ordered.rise).among c (subst (λ (l : List Candidate). Contains l c) split member))));
    few = omega (arith, fewer, few);
    small = small;
  }

  pub lawful : (read winners : List Winner) → winners ≡ read → AreLawful read → AllByRecursion IsFolded listed →
      (swept hidden : List Hidden) → hidden ≡ swept → swept ≡ map hidden_of (others cs) → (put odd : List Odd) → odd ≡ put → IsStrictlySortedBy odd_cmp put →
      IsLawful (record { winners = winners; hidden = hidden; odd = odd })
  lawful read winners is_read of_winners folded swept hidden is_swept sweeps put odd is_put odd_rises = record {
    winners = subst (λ (l : List Winner). AreLawful l) (sym is_read) of_winners;
    hidden_rise = subst (λ (l : List Hidden). IsStrictlySortedBy hidden_cmp l) (sym (is_swept ∙ sweeps))
        (hidden-rise (others cs) (λ c member. all_folded folded c ((splits cs ordered.rise).others_among c member)) (splits cs ordered.rise).others_rise);
    odd_rise = subst (λ (l : List Odd). IsStrictlySortedBy odd_cmp l) (sym is_put) odd_rises;
  }
