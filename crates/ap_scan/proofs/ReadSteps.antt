-- The winners that were read, and those still to be read.
use Rattle.std.proofs.Common.{◌≡◌, ◌≤◌, ◌+◌, ℕ, Bool, true, false, List, [], ◌∷◌, ◌++◌, length, refl, sym, ◌∙◌, ap, subst, arith, append_assoc, length-append}
use Rattle.std.specs.Prelude.{Option, Some, None, IfSome, nat_le, if◌then◌else◌}
use Rattle.std.specs.List.{AllByRecursion}
use Rattle.std.specs.List.Sorted.{IsStrictlySortedBy}
use Rattle.std.specs.declared.cmp.Ordering.{Ordering}
use Rattle.std.specs.declared.cmp.Ordering.TheVariants.{Less}
use Rattle.std.proofs.lemmas.List.{map-append}
use Rattle.std.proofs.lemmas.List.Sums.{sum_by-append}
use Rattle.std.proofs.lemmas.Grind.{common_steps}
use Rattle.ap_text.specs.declared.seen.Seen.{Seen}
use Rattle.ap_text.specs.declared.seen.Seen.TheVariants.{Bytes, Absent, TooLarge}
use Rattle.ap_text.specs.Order.{bytes_cmp}
use Rattle.ap_scan.specs.declared.candidate.Candidate.{Candidate}
use Rattle.ap_scan.specs.declared.results.Winner.{Winner}
use Rattle.ap_scan.specs.Winners.{Files}
use Rattle.ap_scan.specs.Candidates.{IsFolded}
use Rattle.ap_scan.specs.Limits.{IsThere, size_of, bytes_of, first_over, all_seen}
use Rattle.ap_text.proofs.Members.{AllByRecursion-join}
use Rattle.ap_scan.specs.Reads.{winner_of, winners_in, seen_in, those_there, paths_of, winner_paths}

abbrev one : Candidate → Seen → List Winner
one candidate seen = those_there (winner_of candidate seen ∷ [])

module _ (told now : Option Files) (candidate : Candidate) (rest items : List Candidate) (seen : Seen)
    (stays : now ≡ told) (next : items ≡ candidate ∷ rest) (is : IfSome now (λ files. seen ≡ seen_in files candidate)) where
  is_told : IfSome told (λ files. seen ≡ seen_in files candidate)
  is_told = subst (λ (t : Option Files). IfSome t (λ files. seen ≡ seen_in files candidate)) stays is

  one-of : (files : Files) (seen : Seen) → one candidate seen ++ those_there (winners_in files rest) ≡ those_there (winner_of candidate seen ∷ winners_in files rest)
  one-of files (Bytes bytes) = refl
  one-of files Absent = refl
  one-of files TooLarge = refl

  pub read-step : (winners : List Winner) (all : Files → List Winner) → IfSome told (λ files. winners ++ those_there (winners_in files items) ≡ all files) →
      IfSome told (λ files. (winners ++ one candidate seen) ++ those_there (winners_in files rest) ≡ all files)
  read-step winners all = by_told told is_told
    where
      by_told : (t : Option Files) → IfSome t (λ files. seen ≡ seen_in files candidate) → IfSome t (λ files. winners ++ those_there (winners_in files items) ≡ all files) →
          IfSome t (λ files. (winners ++ one candidate seen) ++ those_there (winners_in files rest) ≡ all files)
      by_told None e before = tt
      by_told (Some files) e before =
          append_assoc winners (one candidate seen) (those_there (winners_in files rest))
          ∙ ap (λ (l : List Winner). winners ++ l) (one-of files seen ∙ ap (λ (s : Seen). those_there (winner_of candidate s ∷ winners_in files rest)) e ∙ ap (λ (l : List Candidate). those_there (winners_in files l)) (sym next))
          ∙ before

  pub limit-step : (total total' : ℕ) (all : Files → Option ℕ) → total' ≡ total + size_of seen → total' ≤ 268435456 →
      IfSome told (λ files. first_over total (all_seen (winners_in files items)) ≡ all files) → IfSome told (λ files. first_over total' (all_seen (winners_in files rest)) ≡ all files)
  limit-step total total' all sum within = by_told told is_told
    where
      by_test : (files : Files) (small : Bool) → nat_le total' 268435456 ≡ small →
          first_over total' (all_seen (winners_in files rest)) ≡ (if small then first_over total' (all_seen (winners_in files rest)) else Some total')
      by_test files true e = refl
      by_test files false e = absurd (grind (arith, e, within, common_steps))

      by_told : (t : Option Files) → IfSome t (λ files. seen ≡ seen_in files candidate) → IfSome t (λ files. first_over total (all_seen (winners_in files items)) ≡ all files) →
          IfSome t (λ files. first_over total' (all_seen (winners_in files rest)) ≡ all files)
      by_told None e before = tt
      by_told (Some files) e before =
          by_test files (nat_le total' 268435456) refl
          ∙ ap (λ (n : ℕ). if nat_le n 268435456 then first_over n (all_seen (winners_in files rest)) else Some n) (sum ∙ ap (λ (s : Seen). total + size_of s) e)
          ∙ ap (λ (l : List Candidate). first_over total (all_seen (winners_in files l))) (sym next)
          ∙ before

-- what is known whatever the tree
module _ {K : Type 0} (cmp : K → K → Ordering) where
  all_without : (P : K → Type 0) (xs : List K) (y : K) (ys : List K) → AllByRecursion P (xs ++ y ∷ ys) → AllByRecursion P (xs ++ ys)
  all_without P [] y ys all = all.1
  all_without P (x ∷ xs) y ys all = (all.0, all_without P xs y ys all.1)

  rises-without : (xs : List K) (y : K) (ys : List K) → IsStrictlySortedBy cmp (xs ++ y ∷ ys) → IsStrictlySortedBy cmp (xs ++ ys)
  unfolding IsStrictlySortedBy
  rises-without [] y ys rises = rises.1
  rises-without (x ∷ xs) y ys rises = (all_without (λ z. cmp x z ≡ Less) xs y ys rises.0, rises-without xs y ys rises.1)

paths-step : (winners : List Winner) (candidate : Candidate) (seen : Seen) (rest : List Candidate) →
    IsStrictlySortedBy bytes_cmp (winner_paths winners ++ paths_of (candidate ∷ rest)) → IsStrictlySortedBy bytes_cmp (winner_paths (winners ++ one candidate seen) ++ paths_of rest)
paths-step winners candidate seen rest rises = by_seen seen
  where
    with_it : (seen : Seen) → IsStrictlySortedBy bytes_cmp (winner_paths (winners ++ winner_of candidate seen ∷ []) ++ paths_of rest)
    with_it seen = subst (λ (l : List (List ℕ)). IsStrictlySortedBy bytes_cmp l)
        (sym (ap (λ (l : List (List ℕ)). l ++ paths_of rest) (map-append (λ (w : Winner). w.path) winners (winner_of candidate seen ∷ [])) ∙ append_assoc (winner_paths winners) (candidate.path ∷ []) (paths_of rest)))
        rises

    by_seen : (seen : Seen) → IsStrictlySortedBy bytes_cmp (winner_paths (winners ++ one candidate seen) ++ paths_of rest)
    by_seen (Bytes bytes) = with_it (Bytes bytes)
    by_seen Absent = subst (λ (l : List (List ℕ)). IsStrictlySortedBy bytes_cmp l)
        (sym (ap (λ (l : List (List ℕ)). l ++ paths_of rest) (map-append (λ (w : Winner). w.path) winners []) ∙ append_assoc (winner_paths winners) [] (paths_of rest)))
        (rises-without bytes_cmp (winner_paths winners) candidate.path (paths_of rest) rises)
    by_seen TooLarge = with_it TooLarge

pub rises-step : (winners : List Winner) (candidate : Candidate) (seen : Seen) (rest items : List Candidate) → items ≡ candidate ∷ rest →
    IsStrictlySortedBy bytes_cmp (winner_paths winners ++ paths_of items) → IsStrictlySortedBy bytes_cmp (winner_paths (winners ++ one candidate seen) ++ paths_of rest)
rises-step winners candidate seen rest items next rises = paths-step winners candidate seen rest
    (subst (λ (l : List Candidate). IsStrictlySortedBy bytes_cmp (winner_paths winners ++ paths_of l)) next rises)

pub folded-step : (candidate : Candidate) (rest items : List Candidate) → items ≡ candidate ∷ rest → AllByRecursion IsFolded items → IsFolded candidate × AllByRecursion IsFolded rest
folded-step candidate rest items next folded = subst (λ (l : List Candidate). AllByRecursion IsFolded l) next folded

one-there : (candidate : Candidate) (seen : Seen) → IsFolded candidate → AllByRecursion IsThere (one candidate seen)
one-there candidate (Bytes bytes) folded = (record { folds = folded; there = λ e. cc }, tt)
one-there candidate Absent folded = tt
one-there candidate TooLarge folded = (record { folds = folded; there = λ e. cc }, tt)

pub there-step : (winners : List Winner) (candidate : Candidate) (seen : Seen) → IsFolded candidate → AllByRecursion IsThere winners → AllByRecursion IsThere (winners ++ one candidate seen)
there-step winners candidate seen folded there = AllByRecursion-join IsThere winners (one candidate seen) there (one-there candidate seen folded)

one-few : (candidate : Candidate) (seen : Seen) → length (one candidate seen) ≤ 1
one-few candidate (Bytes bytes) = omega arith
one-few candidate Absent = omega arith
one-few candidate TooLarge = omega arith

pub few-step : (winners : List Winner) (candidate : Candidate) (seen : Seen) (rest items : List Candidate) (most : ℕ) → items ≡ candidate ∷ rest →
    length winners + length items ≤ most → length (winners ++ one candidate seen) + length rest ≤ most
few-step winners candidate seen rest items most next few =
    let n = ap length next in
    omega (arith, length-append winners (one candidate seen), one-few candidate seen, n)

one-size : (candidate : Candidate) (seen : Seen) → bytes_of (one candidate seen) ≡ size_of seen
one-size candidate (Bytes bytes) = omega arith
one-size candidate Absent = refl
one-size candidate TooLarge = omega arith

pub small-step : (winners : List Winner) (candidate : Candidate) (seen : Seen) (total total' : ℕ) → total' ≡ total + size_of seen → bytes_of winners ≡ total →
    bytes_of (winners ++ one candidate seen) ≡ total'
small-step winners candidate seen total total' sum before =
    sum_by-append (λ (winner : Winner). size_of winner.seen) winners (one candidate seen) ∙ (let s = one-size candidate seen in omega (arith, s))
