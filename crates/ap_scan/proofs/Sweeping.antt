-- Of candidates in their order, the first for each path comes before the others for it.
use Rattle.std.proofs.Common.{◌≡◌, ◌⊎◌, ℕ, Bool, true, false, List, [], ◌∷◌, Contains, refl, sym, ◌∙◌, ap, subst, inl, inr, ⊎_elim}
use Rattle.std.specs.Prelude.{if◌then◌else◌}
use Rattle.std.specs.List.Sorted.{IsStrictlySortedBy}
use Rattle.std.specs.declared.cmp.Ordering.TheVariants.{Less}
use Rattle.std.proofs.lemmas.Slice.Eq.{bytes_eq-Decides}
use Rattle.ap_text.specs.Order.{bytes_cmp}
use Rattle.ap_text.proofs.Members.{Contains-none, Contains-head, Contains-tail_of, Contains-cons_cases, Contains-map_cases, AllByRecursion-at, AllByRecursion-from}
use Rattle.ap_scan.specs.declared.candidate.Candidate.{Candidate}
use Rattle.ap_scan.specs.Candidates.{candidate_cmp}
use Rattle.ap_scan.specs.Sweep.{has_path_of, firsts_from, others_from, firsts, others}
use Rattle.ap_scan.specs.Reads.{paths_of}
use Rattle.ap_scan.proofs.Orders.{bytes-self, path-less, path-still-less}

abbrev pub Rise : List Candidate → Type 0
Rise = IsStrictlySortedBy candidate_cmp

first_in : (k : Candidate) (xs : List Candidate) → Contains (firsts_from k xs) k
first_in k [] = Contains-head k []
first_in k (x ∷ xs) = by_test (first_in k xs) (has_path_of k x)
  where
    by_test : Contains (firsts_from k xs) k → (same : Bool) → Contains (if same then firsts_from k xs else k ∷ firsts_from x xs) k
    by_test later true = later
    by_test later false = Contains-head k (firsts_from x xs)

firsts_among : (k : Candidate) (xs : List Candidate) (w : Candidate) → Contains (firsts_from k xs) w → Contains (k ∷ xs) w
firsts_among k [] w member = member
firsts_among k (x ∷ xs) w member = by_test (firsts_among k xs w) (firsts_among x xs w) (has_path_of k x) member
  where
    by_test : (Contains (firsts_from k xs) w → Contains (k ∷ xs) w) → (Contains (firsts_from x xs) w → Contains (x ∷ xs) w) →
        (same : Bool) → Contains (if same then firsts_from k xs else k ∷ firsts_from x xs) w → Contains (k ∷ x ∷ xs) w
    by_test here later true in_firsts = ⊎_elim
        (λ e. subst (λ (y : Candidate). Contains (k ∷ x ∷ xs) y) e (Contains-head k (x ∷ xs)))
        (λ behind. Contains-tail_of k (x ∷ xs) w (Contains-tail_of x xs w behind))
        (Contains-cons_cases k xs w (here in_firsts))
    by_test here later false in_firsts = ⊎_elim
        (λ e. subst (λ (y : Candidate). Contains (k ∷ x ∷ xs) y) e (Contains-head k (x ∷ xs)))
        (λ behind. Contains-tail_of k (x ∷ xs) w (later behind))
        (Contains-cons_cases k (firsts_from x xs) w in_firsts)

others_among : (k : Candidate) (xs : List Candidate) (w : Candidate) → Contains (others_from k xs) w → Contains xs w
others_among k [] w member = member
others_among k (x ∷ xs) w member = by_test (others_among k xs w) (others_among x xs w) (has_path_of k x) member
  where
    by_test : (Contains (others_from k xs) w → Contains xs w) → (Contains (others_from x xs) w → Contains xs w) →
        (same : Bool) → Contains (if same then x ∷ others_from k xs else others_from x xs) w → Contains (x ∷ xs) w
    by_test here later true in_others = ⊎_elim
        (λ e. subst (λ (y : Candidate). Contains (x ∷ xs) y) e (Contains-head x xs))
        (λ behind. Contains-tail_of x xs w (here behind))
        (Contains-cons_cases x (others_from k xs) w in_others)
    by_test here later false in_others = Contains-tail_of x xs w (later in_others)

placed : (k : Candidate) (xs : List Candidate) (c : Candidate) → Contains (k ∷ xs) c → Contains (firsts_from k xs) c ⊎ Contains (others_from k xs) c
placed k [] c member = inl member
placed k (x ∷ xs) c member = by_test (placed k xs c) (placed x xs c) (has_path_of k x) (Contains-cons_cases k (x ∷ xs) c member)
  where
    by_test : (Contains (k ∷ xs) c → Contains (firsts_from k xs) c ⊎ Contains (others_from k xs) c) →
        (Contains (x ∷ xs) c → Contains (firsts_from x xs) c ⊎ Contains (others_from x xs) c) →
        (same : Bool) → (k ≡ c) ⊎ Contains (x ∷ xs) c →
        Contains (if same then firsts_from k xs else k ∷ firsts_from x xs) c ⊎ Contains (if same then x ∷ others_from k xs else others_from x xs) c
    by_test here later true place = ⊎_elim
        (λ e. inl (subst (λ (y : Candidate). Contains (firsts_from k xs) y) e (first_in k xs)))
        (λ behind. ⊎_elim
        (λ e. inr (subst (λ (y : Candidate). Contains (x ∷ others_from k xs) y) e (Contains-head x (others_from k xs))))
        (λ far. ⊎_elim inl (λ other. inr (Contains-tail_of x (others_from k xs) c other)) (here (Contains-tail_of k xs c far)))
        (Contains-cons_cases x xs c behind))
        place
    by_test here later false place = ⊎_elim
        (λ e. inl (subst (λ (y : Candidate). Contains (k ∷ firsts_from x xs) y) e (Contains-head k (firsts_from x xs))))
        (λ behind. ⊎_elim (λ first. inl (Contains-tail_of k (firsts_from x xs) c first)) inr (later behind))
        place

-- behind a candidate of a lesser path all paths are greater
all_greater : (k x : Candidate) (xs : List Candidate) → bytes_cmp k.path x.path ≡ Less → Rise (x ∷ xs) → (y : Candidate) → Contains (x ∷ xs) y → bytes_cmp k.path y.path ≡ Less
unfolding IsStrictlySortedBy
all_greater k x xs less rise y member = ⊎_elim
    (λ e. subst (λ (z : Candidate). bytes_cmp k.path z.path ≡ Less) e less)
    (λ behind. path-still-less k x y less (AllByRecursion-at (λ (z : Candidate). candidate_cmp x z ≡ Less) xs y rise.0 behind))
    (Contains-cons_cases x xs y member)

firsts_rise : (k : Candidate) (xs : List Candidate) → Rise (k ∷ xs) → IsStrictlySortedBy bytes_cmp (paths_of (firsts_from k xs))
unfolding IsStrictlySortedBy
firsts_rise k [] rise = (tt, tt)
firsts_rise k (x ∷ xs) rise = by_test (firsts_rise k xs (rise.0.1, rise.1.1)) (firsts_rise x xs rise.1) (has_path_of k x) refl
  where
    by_test : IsStrictlySortedBy bytes_cmp (paths_of (firsts_from k xs)) → IsStrictlySortedBy bytes_cmp (paths_of (firsts_from x xs)) →
        (same : Bool) → has_path_of k x ≡ same → IsStrictlySortedBy bytes_cmp (paths_of (if same then firsts_from k xs else k ∷ firsts_from x xs))
    by_test here later true is = here
    by_test here later false is = (
      AllByRecursion-from (λ (p : List ℕ). bytes_cmp k.path p ≡ Less) (paths_of (firsts_from x xs))
          (λ p member. let from = Contains-map_cases (λ (c : Candidate). c.path) (firsts_from x xs) p member in
          subst (λ (q : List ℕ). bytes_cmp k.path q ≡ Less) from.2
          (all_greater k x xs (path-less k x rise.0.0 is) rise.1 from.0 (firsts_among x xs from.0 from.1))),
      later,
    )

others_rise : (k : Candidate) (xs : List Candidate) → Rise (k ∷ xs) → Rise (others_from k xs)
unfolding IsStrictlySortedBy
others_rise k [] rise = tt
others_rise k (x ∷ xs) rise = by_test (others_rise k xs (rise.0.1, rise.1.1)) (others_rise x xs rise.1) (has_path_of k x)
  where
    by_test : Rise (others_from k xs) → Rise (others_from x xs) → (same : Bool) → Rise (if same then x ∷ others_from k xs else others_from x xs)
    by_test here later true = (
      AllByRecursion-from (λ (y : Candidate). candidate_cmp x y ≡ Less) (others_from k xs)
          (λ y member. AllByRecursion-at (λ (z : Candidate). candidate_cmp x z ≡ Less) xs y rise.1.0 (others_among k xs y member)),
      here,
    )
    by_test here later false = later

-- the first for the path of another one
pub record Before (candidates : List Candidate) (other : Candidate) : Type 0 where
  pub first : Candidate
  pub member : Contains candidates first
  pub path : first.path ≡ other.path
  pub less : candidate_cmp first other ≡ Less

behind : (k : Candidate) (xs : List Candidate) → Rise (k ∷ xs) → (h : Candidate) → Contains (others_from k xs) h → Before (firsts_from k xs) h
unfolding IsStrictlySortedBy
behind k [] rise h member = absurd (Contains-none h member)
behind k (x ∷ xs) rise h member = by_test (behind k xs (rise.0.1, rise.1.1) h) (behind x xs rise.1 h) (has_path_of k x) refl member
  where
    by_test : (Contains (others_from k xs) h → Before (firsts_from k xs) h) → (Contains (others_from x xs) h → Before (firsts_from x xs) h) →
        (same : Bool) → has_path_of k x ≡ same → Contains (if same then x ∷ others_from k xs else others_from x xs) h →
        Before (if same then firsts_from k xs else k ∷ firsts_from x xs) h
    by_test here later true is in_others = ⊎_elim
        (λ e. record {
          first = k;
          member = first_in k xs;
          path = subst (λ (y : Candidate). k.path ≡ y.path) e ((bytes_eq-Decides k.path x.path).0 is);
          less = subst (λ (y : Candidate). candidate_cmp k y ≡ Less) e rise.0.0;
        })
        here
        (Contains-cons_cases x (others_from k xs) h in_others)
    by_test here later false is in_others =
        let r = later in_others in
        record { first = r.first; member = Contains-tail_of k (firsts_from x xs) r.first r.member; path = r.path; less = r.less }

-- what is known of the first for each path and of the others
pub record Splits (candidates : List Candidate) : Type 0 where
  pub firsts_rise : IsStrictlySortedBy bytes_cmp (paths_of (firsts candidates))
  pub others_rise : Rise (others candidates)
  pub among : (c : Candidate) → Contains (firsts candidates) c → Contains candidates c
  pub others_among : (c : Candidate) → Contains (others candidates) c → Contains candidates c
  pub placed : (c : Candidate) → Contains candidates c → Contains (firsts candidates) c ⊎ Contains (others candidates) c
  pub behind : (c : Candidate) → Contains (others candidates) c → Before (firsts candidates) c

pub splits : (candidates : List Candidate) → Rise candidates → Splits candidates
unfolding IsStrictlySortedBy
splits [] rise = record {
  firsts_rise = tt;
  others_rise = tt;
  among = λ c member. member;
  others_among = λ c member. member;
  placed = λ c member. inl member;
  behind = λ c member. absurd (Contains-none c member);
}
splits (k ∷ xs) rise = record {
  firsts_rise = firsts_rise k xs rise;
  others_rise = others_rise k xs rise;
  among = firsts_among k xs;
  others_among = λ c member. Contains-tail_of k xs c (others_among k xs c member);
  placed = placed k xs;
  behind = behind k xs rise;
}

-- candidates of different paths are different
one_path : (ws : List Candidate) → IsStrictlySortedBy bytes_cmp (paths_of ws) → (a b : Candidate) → Contains ws a → Contains ws b → a.path ≡ b.path → a ≡ b
unfolding IsStrictlySortedBy
one_path [] rise a b in_a in_b same = absurd (Contains-none a in_a)
one_path (w ∷ ws) rise a b in_a in_b same = by_place (one_path ws rise.1 a b) (Contains-cons_cases w ws a in_a) (Contains-cons_cases w ws b in_b)
  where
    apart : (first later : Candidate) → w ≡ first → Contains ws later → first.path ≡ later.path → ⊥
    apart first later e member paths =
        let less : bytes_cmp w.path later.path ≡ Less = AllByRecursion-at (λ (p : List ℕ). bytes_cmp w.path p ≡ Less) (paths_of ws) later.path rise.0 (Rattle.ap_text.proofs.Members.Contains-map (λ (c : Candidate). c.path) ws later member) in
        cc (sym less ∙ bytes-self w.path later.path (ap (λ (c : Candidate). c.path) e ∙ paths))

    by_place : (Contains ws a → Contains ws b → a.path ≡ b.path → a ≡ b) → (w ≡ a) ⊎ Contains ws a → (w ≡ b) ⊎ Contains ws b → a ≡ b
    by_place later place_a place_b = ⊎_elim
        (λ here_a. ⊎_elim (λ here_b. sym here_a ∙ here_b) (λ far_b. absurd (apart a b here_a far_b same)) place_b)
        (λ far_a. ⊎_elim (λ here_b. absurd (apart b a here_b far_a (sym same))) (λ far_b. later far_a far_b same) place_b)
        place_a

-- the first for a path is before all others for it
pub first-before : (cs : List Candidate) → Splits cs → (w c : Candidate) → Contains (firsts cs) w → Contains cs c → w.path ≡ c.path → (w ≡ c) ⊎ (candidate_cmp w c ≡ Less)
first-before cs s w c in_w in_c same = ⊎_elim
    (λ first. inl (one_path (firsts cs) s.firsts_rise w c in_w first same))
    (λ other. let r = s.behind c other in
    inr (subst (λ (f : Candidate). candidate_cmp f c ≡ Less) (one_path (firsts cs) s.firsts_rise r.first w r.member in_w (r.path ∙ sym same)) r.less))
    (s.placed c in_c)
