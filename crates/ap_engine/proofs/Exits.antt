-- How runs of commits follow one another, moment by moment.
use Rattle.std.proofs.Common.{◌≡◌, ℕ, ◌+◌, ◌≤◌, ◌<◌, ◌⊎◌, inl, inr, Bool, true, false, cond, List, [], ◌∷◌, ◌++◌, length, refl, sym, ap, subst, arith}
use Rattle.std.specs.Prelude.{nat_lt}
use Rattle.std.specs.List.{AllByRecursion}
use Rattle.std.proofs.lemmas.Bool.{cases_lt}
use Rattle.std.proofs.lemmas.List.{length-append}
use Rattle.ap_journal.specs.Commits.{count_before, Rises, Committed, Started}
use Rattle.ap_journal.specs.Moments.{Elapsed, Began}

abbrev AreWithin : ℕ → ℕ → List ℕ → Type 0
AreWithin was now exits = AllByRecursion (λ exit. (was ≤ exit) × (exit ≤ now)) exits

-- ---- how many exits are before a moment

not_before : (t exit : ℕ) → t ≤ exit → cond {A = ℕ} (nat_lt exit t) 1 0 ≡ 0
not_before t exit le = let no : nat_lt exit t ≡ false = grind (arith, le) in ap (λ (b : Bool). cond b 1 0) no

is_before : (t exit : ℕ) → exit < t → cond {A = ℕ} (nat_lt exit t) 1 0 ≡ 1
is_before t exit lt = let is : nat_lt exit t ≡ true = grind (arith, lt) in ap (λ (b : Bool). cond b 1 0) is

all_before : (was mid t : ℕ) (exits : List ℕ) → AreWithin was mid exits → mid < t → count_before t exits ≡ length exits
all_before was mid t [] within lt = refl
all_before was mid t (exit ∷ exits) within lt = let one = is_before t exit (omega (arith, within.0.1, lt)) in omega (arith, one, all_before was mid t exits within.1 lt)

none_before : (mid now t : ℕ) (exits : List ℕ) → AreWithin mid now exits → t ≤ mid → count_before t exits ≡ 0
none_before mid now t [] within le = refl
none_before mid now t (exit ∷ exits) within le = let none = not_before t exit (omega (arith, le, within.0.0)) in omega (arith, none, none_before mid now t exits within.1 le)

both_before : (t : ℕ) (exits more : List ℕ) → count_before t (exits ++ more) ≡ count_before t exits + count_before t more
both_before t [] more = omega arith
both_before t (exit ∷ exits) more = let rest = both_before t exits more in omega (arith, rest)

at_most_one : (t exit count most : ℕ) → count ≤ most → cond {A = ℕ} (nat_lt exit t) 1 0 + count ≤ most + 1
at_most_one t exit count most le = by_test (nat_lt exit t)
  where
    by_test : (b : Bool) → cond {A = ℕ} b 1 0 + count ≤ most + 1
    by_test true = omega (arith, le)
    by_test false = omega (arith, le)

at_most : (t : ℕ) (exits : List ℕ) → count_before t exits ≤ length exits
at_most t [] = omega arith
at_most t (exit ∷ exits) = let one = at_most_one t exit (count_before t exits) (length exits) (at_most t exits) in omega (arith, one)

-- ---- the exits of two runs

wider : (was mid from now : ℕ) (exits : List ℕ) → from ≤ was → mid ≤ now → AreWithin was mid exits → AreWithin from now exits
wider was mid from now [] lower upper within = tt
wider was mid from now (exit ∷ exits) lower upper within = ((omega (arith, lower, within.0.0), omega (arith, upper, within.0.1)), wider was mid from now exits lower upper within.1)

both_within : (was now : ℕ) (exits more : List ℕ) → AreWithin was now exits → AreWithin was now more → AreWithin was now (exits ++ more)
both_within was now [] more one two = two
both_within was now (exit ∷ exits) more one two = (one.0, both_within was now exits more one.1 two)

behind_it : (exit mid now : ℕ) (more : List ℕ) → exit ≤ mid → AreWithin mid now more → AllByRecursion (λ later. exit ≤ later) more
behind_it exit mid now [] le within = tt
behind_it exit mid now (later ∷ more) le within = (omega (arith, le, within.0.0), behind_it exit mid now more le within.1)

all_behind : (exit : ℕ) (exits more : List ℕ) → AllByRecursion (λ later. exit ≤ later) exits → AllByRecursion (λ later. exit ≤ later) more → AllByRecursion (λ later. exit ≤ later) (exits ++ more)
all_behind exit [] more one two = two
all_behind exit (other ∷ exits) more one two = (one.0, all_behind exit exits more one.1 two)

both_rise : (was mid now : ℕ) (exits more : List ℕ) → Rises exits → AreWithin was mid exits → Rises more → AreWithin mid now more → Rises (exits ++ more)
both_rise was mid now [] more rises within rise in_more = rise
both_rise was mid now (exit ∷ exits) more rises within rise in_more =
    (all_behind exit exits more rises.0 (behind_it exit mid now more within.0.1 in_more), both_rise was mid now exits more rises.1 within.1 rise in_more)

-- ---- two runs are one

module _ (was mid now : ℕ) (before during after : ℕ → List ℕ → Type 0) (One Two All : ℕ → List ℕ → Type 0) (m n : ℕ)
    (one : Committed before during One m was mid) (two : Committed during after Two n mid now)
    (in_one : (count : ℕ) (c : List ℕ) → count ≤ m → One count c → All count c) (in_two : (count : ℕ) (c : List ℕ) → Two count c → All (m + count) c) where
  image : (t : ℕ) (c : List ℕ) → was < t → t ≤ now → after t c → (mid < t) ⊎ (t ≤ mid) → All (count_before t (one.exits ++ two.exits)) c
  image t c lt le left (inl behind) =
      let all = all_before was mid t one.exits one.are.within behind in
      let both = both_before t one.exits two.exits in
      let count : m + count_before t two.exits ≡ count_before t (one.exits ++ two.exits) = let e = one.count in omega (arith, all, both, e) in
      subst (λ (k : ℕ). All k c) count (in_two (count_before t two.exits) c (two.since t c behind le left))
  image t c lt le left (inr ahead) =
      let none = none_before mid now t two.exits two.are.within ahead in
      let both = both_before t one.exits two.exits in
      let count : count_before t one.exits ≡ count_before t (one.exits ++ two.exits) = omega (arith, none, both) in
      let few : count_before t one.exits ≤ m = let e = one.count in let most = at_most t one.exits in omega (arith, e, most) in
      subst (λ (k : ℕ). All k c) count (in_one (count_before t one.exits) c few (one.since t c lt ahead (two.earlier t c ahead left)))

  pub joined : Committed before after All (m + n) was now
  joined = record {
    later = omega (arith, one.later, two.later);
    earlier = λ t c le left. one.earlier t c le (two.earlier t c (omega (arith, le, one.later)) left);
    kept = λ t c le left. two.kept t c (omega (arith, le, one.later)) (one.kept t c le left);
    exits = one.exits ++ two.exits;
    are = record {
      rise = both_rise was mid now one.exits two.exits one.are.rise one.are.within two.are.rise two.are.within;
      within = both_within was now one.exits two.exits (wider was mid was now one.exits (omega arith) two.later one.are.within) (wider mid now was now two.exits one.later (omega arith) two.are.within);
    };
    count = let e = length-append one.exits two.exits in omega (arith, e, one.count, two.count);
    since = λ t c lt le left. image t c lt le left (cases_lt mid t);
  }

-- ---- one commit

module _ (was now : ℕ) (before after : ℕ → List ℕ → Type 0) (P : List ℕ → Type 0) (Has : ℕ → List ℕ → Type 0) (run : Elapsed before after P was now) (in_has : (c : List ℕ) → P c → Has 0 c) where
  -- that answered Ok
  pub answered_once : Committed before after Has 1 was now
  answered_once = record {
    later = run.later;
    earlier = run.earlier;
    kept = run.kept;
    exits = now ∷ [];
    are = record { rise = (tt, tt); within = ((run.later, omega arith), tt) };
    count = refl;
    since = λ t c lt le left. subst (λ (k : ℕ). Has k c) (let none = not_before t now le in omega (arith, none)) (in_has c (run.since t c lt le left));
  }

  -- that didn't
  pub answered_never : Committed before after Has 0 was now
  answered_never = record {
    later = run.later;
    earlier = run.earlier;
    kept = run.kept;
    exits = [];
    are = record { rise = tt; within = tt };
    count = refl;
    since = λ t c lt le left. in_has c (run.since t c lt le left);
  }

-- no commit at all
pub none_at_rest : (now : ℕ) (images : ℕ → List ℕ → Type 0) (Has : ℕ → List ℕ → Type 0) → Committed images images Has 0 now now
none_at_rest now images Has = record {
  later = omega arith;
  earlier = λ t c le left. left;
  kept = λ t c le left. left;
  exits = [];
  are = record { rise = tt; within = tt };
  count = refl;
  since = λ t c lt le left. absurd (omega (arith, lt, le));
}

-- ---- behind an opening

module _ (was mid now : ℕ) (before during after : ℕ → List ℕ → Type 0) (First P : List ℕ → Type 0) (Has Then : ℕ → List ℕ → Type 0) (n : ℕ)
    (one : Began before during First P was mid) (two : Committed during after Then n mid now)
    (in_has : (c : List ℕ) → P c → Has 0 c) (then_has : (count : ℕ) (c : List ℕ) → Then count c → Has count c) where
  behind_it_image : (t : ℕ) (c : List ℕ) → was + 1 < t → t ≤ now → after t c → (mid < t) ⊎ (t ≤ mid) → Has (count_before t two.exits) c
  behind_it_image t c lt le left (inl behind) = then_has (count_before t two.exits) c (two.since t c behind le left)
  behind_it_image t c lt le left (inr ahead) =
      subst (λ (k : ℕ). Has k c) (sym (none_before mid now t two.exits two.are.within ahead)) (in_has c (one.since t c lt ahead (two.earlier t c ahead left)))

  pub started : Started before after First Has n was now
  started = record {
    later = omega (arith, one.later, two.later);
    earlier = λ t c le left. one.earlier t c le (two.earlier t c (omega (arith, le, one.later)) left);
    kept = λ t c le left. two.kept t c (omega (arith, le, one.later)) (one.kept t c le left);
    exits = two.exits;
    are = record { rise = two.are.rise; within = wider mid now was now two.exits (omega (arith, one.later)) (omega arith) two.are.within };
    count = two.count;
    first = λ c left. one.first c (two.earlier (was + 1) c (omega (arith, one.later)) left);
    since = λ t c lt le left. behind_it_image t c lt le left (cases_lt mid t);
  }

-- an opening alone
pub started_alone : (was now : ℕ) (before after : ℕ → List ℕ → Type 0) (First P : List ℕ → Type 0) (Has : ℕ → List ℕ → Type 0) → Began before after First P was now → ((c : List ℕ) → P c → Has 0 c) → Started before after First Has 0 was now
started_alone was now before after First P Has one in_has = record {
  later = one.later;
  earlier = one.earlier;
  kept = one.kept;
  exits = [];
  are = record { rise = tt; within = tt };
  count = refl;
  first = one.first;
  since = λ t c lt le left. in_has c (one.since t c lt le left);
}
