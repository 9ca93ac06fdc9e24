-- Laws: how commits follow one another.
use Rattle.std.proofs.Common.{◌≡◌, ℕ, suc, ◌+◌, ◌≤◌, ◌<◌, ◌⊎◌, inl, inr, Bool, true, false, cond, List, [], ◌∷◌, ◌++◌, length, take, Option, Some, None, refl, sym, ◌∙◌, ap, subst, arith, append_assoc}
use Rattle.std.specs.Prelude.{IfSome, nat_lt}
use Rattle.std.specs.List.{AllByRecursion}
use Rattle.std.proofs.lemmas.Bool.{cases_lt}
use Rattle.std.proofs.lemmas.List.{take-append-le, take_all, length-append, append-nil}
use Rattle.std.proofs.Math.Seq.{take-length}
use Rattle.ap_disk.specs.Calls.{TellsAs}
use Rattle.ap_disk.specs.Crashes.{Only}
use Rattle.ap_journal.specs.Records.{standing, has_bad_header, IsStoreOf, IsSameStore}
use Rattle.ap_journal.specs.Moments.{Elapsed, Began, BetweenClocks, Steps, Opens}
use Rattle.ap_journal.specs.Between.{rests_on, rests_still}
use Rattle.ap_journal.specs.Told.{one as each}
use Rattle.ap_journal.specs.Commits.{Holds, HasFirst, count_before, Rises, Committed, Started, Commits, CommitsAll, RunsOn}

-- ---- images

all_of : (given more : List (List ℕ)) → take (length given) (given ++ more) ≡ given
all_of given more = take-append-le (length given) given more (omega arith) ∙ take-length given

past_end : (given : List (List ℕ)) → take (length given + 1) given ≡ given
past_end given = take_all (length given + 1) given (omega arith)

has_first_more : (old : List ℕ) (given : List (List ℕ)) (payload : List ℕ) (count : ℕ) (c : List ℕ) → count ≤ length given → HasFirst old given count c → HasFirst old (given ++ payload ∷ []) count c
has_first_more old given payload count c le (inl has) = inl (subst (λ (l : List (List ℕ)). Holds old l c) (sym (take-append-le count given (payload ∷ []) le)) has)
has_first_more old given payload count c le (inr has) = by_case (cases_lt count (length given))
  where
    by_case : (count < length given) ⊎ (length given ≤ count) → HasFirst old (given ++ payload ∷ []) count c
    by_case (inl lt) = inr (subst (λ (l : List (List ℕ)). Holds old l c) (sym (take-append-le (count + 1) given (payload ∷ []) (omega (arith, lt)))) has)
    by_case (inr ge) =
        let same : count ≡ length given = omega (arith, le, ge) in
        inl (subst (λ (l : List (List ℕ)). Holds old l c)
        (ap (λ (n : ℕ). take (n + 1) given) same ∙ past_end given ∙ sym (all_of given (payload ∷ [])) ∙ ap (λ (n : ℕ). take n (given ++ payload ∷ [])) (sym same)) has)

all_and_one : (given : List (List ℕ)) (payload : List ℕ) → take (length given + 1) (given ++ payload ∷ []) ≡ given ++ payload ∷ []
all_and_one given payload =
    let e = length-append given (payload ∷ []) in
    ap (λ (n : ℕ). take n (given ++ payload ∷ [])) (omega (arith, e)) ∙ take-length (given ++ payload ∷ [])

-- within a commit behind these
within_commit : (old mid : List ℕ) (given : List (List ℕ)) (payload c : List ℕ) → has_bad_header old ≡ false → standing mid ≡ standing old ++ given
    → IsStoreOf (standing mid) c ⊎ IsStoreOf (standing mid ++ payload ∷ []) c → HasFirst old (given ++ payload ∷ []) (length given) c
within_commit old mid given payload c good are (inl has) = inl (record {
  stand = has.stands_for ∙ are ∙ ap (λ l. standing old ++ l) (sym (all_of given (payload ∷ [])));
  header = has.header ∙ sym good;
})
within_commit old mid given payload c good are (inr has) = inr (record {
  stand = has.stands_for ∙ ap (λ l. l ++ payload ∷ []) are ∙ append_assoc (standing old) given (payload ∷ []) ∙ ap (λ l. standing old ++ l) (sym (all_and_one given payload));
  header = has.header ∙ sym good;
})

-- ---- moments

before_none : (t : ℕ) (exit : ℕ) → t ≤ exit → cond {A = ℕ} (nat_lt exit t) 1 0 ≡ 0
before_none t exit le = let no : nat_lt exit t ≡ false = grind (arith, le) in ap (λ (b : Bool). cond b 1 0) no

before_one : (t : ℕ) (exit : ℕ) → exit < t → cond {A = ℕ} (nat_lt exit t) 1 0 ≡ 1
before_one t exit lt = let is : nat_lt exit t ≡ true = grind (arith, lt) in ap (λ (b : Bool). cond b 1 0) is

all_before : (was mid t : ℕ) (exits : List ℕ) → AllByRecursion (λ exit. (was ≤ exit) × (exit ≤ mid)) exits → mid < t → count_before t exits ≡ length exits
all_before was mid t [] within lt = refl
all_before was mid t (exit ∷ exits) within lt =
    let one = before_one t exit (omega (arith, within.0.1, lt)) in
    omega (arith, one, all_before was mid t exits within.1 lt)

at_most_one : (t exit count most : ℕ) → count ≤ most → cond {A = ℕ} (nat_lt exit t) 1 0 + count ≤ suc most
at_most_one t exit count most le = by_test (nat_lt exit t)
  where
    by_test : (b : Bool) → cond {A = ℕ} b 1 0 + count ≤ suc most
    by_test true = omega (arith, le)
    by_test false = omega (arith, le)

at_most : (t : ℕ) (exits : List ℕ) → count_before t exits ≤ length exits
at_most t [] = omega arith
at_most t (exit ∷ exits) = at_most_one t exit (count_before t exits) (length exits) (at_most t exits)

before_more : (t now : ℕ) (exits : List ℕ) → t ≤ now → count_before t (exits ++ now ∷ []) ≡ count_before t exits
before_more t now [] le = let none_yet = before_none t now le in omega (arith, none_yet)
before_more t now (exit ∷ exits) le = ap (λ (n : ℕ). cond (nat_lt exit t) 1 0 + n) (before_more t now exits le)

still_within : (was mid now : ℕ) (exits : List ℕ) → mid ≤ now → AllByRecursion (λ exit. (was ≤ exit) × (exit ≤ mid)) exits → AllByRecursion (λ exit. (was ≤ exit) × (exit ≤ now)) exits
still_within was mid now [] le within = tt
still_within was mid now (exit ∷ exits) le within = ((within.0.0, omega (arith, le, within.0.1)), still_within was mid now exits le within.1)

and_now : (was now : ℕ) (exits : List ℕ) → was ≤ now → AllByRecursion (λ exit. (was ≤ exit) × (exit ≤ now)) exits → AllByRecursion (λ exit. (was ≤ exit) × (exit ≤ now)) (exits ++ now ∷ [])
and_now was now [] le within = ((le, omega arith), tt)
and_now was now (exit ∷ exits) le within = (within.0, and_now was now exits le within.1)

later_too : (exit now : ℕ) (exits : List ℕ) → exit ≤ now → AllByRecursion (λ later. exit ≤ later) exits → AllByRecursion (λ later. exit ≤ later) (exits ++ now ∷ [])
later_too exit now [] le later = (le, tt)
later_too exit now (other ∷ exits) le later = (later.0, later_too exit now exits le later.1)

rises_more : (was mid now : ℕ) (exits : List ℕ) → mid ≤ now → Rises exits → AllByRecursion (λ exit. (was ≤ exit) × (exit ≤ mid)) exits → Rises (exits ++ now ∷ [])
rises_more was mid now [] le rises within = (tt, tt)
rises_more was mid now (exit ∷ exits) le rises within = (later_too exit now exits (omega (arith, le, within.0.1)) rises.0, rises_more was mid now exits le rises.1 within.1)

module _ (was mid now : ℕ) (before during after : ℕ → List ℕ → Type 0) (Has More : ℕ → List ℕ → Type 0) (P : List ℕ → Type 0) (answered : ℕ)
    (one : Committed before during Has answered was mid) (two : Elapsed during after P mid now)
    (has_more : (count : ℕ) (c : List ℕ) → count ≤ answered → Has count c → More count c) (in_more : (c : List ℕ) → P c → More answered c) where
  image : (t : ℕ) (c : List ℕ) → was < t → t ≤ now → after t c → More (count_before t one.exits) c
  image t c lt le left = by_case (cases_lt mid t)
    where
      by_case : (mid < t) ⊎ (t ≤ mid) → More (count_before t one.exits) c
      by_case (inl behind) =
          subst (λ (n : ℕ). More n c) (sym (all_before was mid t one.exits one.are.within behind ∙ one.count)) (in_more c (two.since t c behind le left))
      by_case (inr ahead) =
          has_more (count_before t one.exits) c (let e = one.count in omega (arith, at_most t one.exits, e)) (one.since t c lt ahead (two.earlier t c ahead left))

  -- a commit that answered Ok
  committed_one : Committed before after More (suc answered) was now
  committed_one = record {
    later = omega (arith, one.later, two.later);
    earlier = λ t c le left. one.earlier t c le (two.earlier t c (omega (arith, le, one.later)) left);
    kept = λ t c le left. two.kept t c (omega (arith, le, one.later)) (one.kept t c le left);
    exits = one.exits ++ now ∷ [];
    are = record {
      rise = rises_more was mid now one.exits two.later one.are.rise one.are.within;
      within = and_now was now one.exits (omega (arith, one.later, two.later)) (still_within was mid now one.exits two.later one.are.within);
    };
    count = let e = length-append one.exits (now ∷ []) in omega (arith, e, one.count);
    since = λ t c lt le left. subst (λ (n : ℕ). More n c) (sym (before_more t now one.exits le)) (image t c lt le left);
  }

  -- one that didn't
  committed_none : Committed before after More answered was now
  committed_none = record {
    later = omega (arith, one.later, two.later);
    earlier = λ t c le left. one.earlier t c le (two.earlier t c (omega (arith, le, one.later)) left);
    kept = λ t c le left. two.kept t c (omega (arith, le, one.later)) (one.kept t c le left);
    exits = one.exits;
    are = record { rise = one.are.rise; within = still_within was mid now one.exits two.later one.are.within };
    count = one.count;
    since = image;
  }

-- behind an opening
module _ (was mid now : ℕ) (before during after : ℕ → List ℕ → Type 0) (First : List ℕ → Type 0) (Has : ℕ → List ℕ → Type 0) (P : List ℕ → Type 0) (answered : ℕ)
    (one : Began before during First P was mid) (two : Committed during after Has answered mid now)
    (in_has : (c : List ℕ) → P c → Has 0 c) where
  none_before : (t : ℕ) (exits : List ℕ) → AllByRecursion (λ exit. (mid ≤ exit) × (exit ≤ now)) exits → t ≤ mid → count_before t exits ≡ 0
  none_before t [] within le = refl
  none_before t (exit ∷ exits) within le =
      let none_yet = before_none t exit (omega (arith, le, within.0.0)) in
      omega (arith, none_yet, none_before t exits within.1 le)

  from_was : (exits : List ℕ) → AllByRecursion (λ exit. (mid ≤ exit) × (exit ≤ now)) exits → AllByRecursion (λ exit. (was ≤ exit) × (exit ≤ now)) exits
  from_was [] within = tt
  from_was (exit ∷ exits) within = ((omega (arith, one.later, within.0.0), within.0.1), from_was exits within.1)

  started : Started before after First Has answered was now
  started = record {
    later = omega (arith, one.later, two.later);
    earlier = λ t c le left. one.earlier t c le (two.earlier t c (omega (arith, le, one.later)) left);
    kept = λ t c le left. two.kept t c (omega (arith, le, one.later)) (one.kept t c le left);
    exits = two.exits;
    are = record { rise = two.are.rise; within = from_was two.exits two.are.within };
    count = two.count;
    first = λ c left. one.first c (two.earlier (was + 1) c (omega (arith, one.later)) left);
    since = λ t c lt le left. by_case t c lt le left (cases_lt mid t);
  }
    where
      by_case : (t : ℕ) (c : List ℕ) → was + 1 < t → t ≤ now → after t c → (mid < t) ⊎ (t ≤ mid) → Has (count_before t two.exits) c
      by_case t c lt le left (inl behind) = two.since t c behind le left
      by_case t c lt le left (inr ahead) =
          subst (λ (n : ℕ). Has n c) (sym (none_before t two.exits two.are.within ahead)) (in_has c (one.since t c lt ahead (two.earlier t c ahead left)))

-- ---- clocks

clocks : (old mid new : Option ℕ) (R S T : ℕ → ℕ → Type 0) → BetweenClocks old mid R → BetweenClocks mid new S → ((was at now : ℕ) → R was at → S at now → T was now) → BetweenClocks old new T
clocks old mid None R S T one two both = tt
clocks None None (Some now) R S T one two both = two
clocks None (Some at) (Some now) R S T one two both = one
clocks (Some was) None (Some now) R S T one two both = absurd two
clocks (Some was) (Some at) (Some now) R S T one two both = both was at now one two

over : (told told' : Option (List ℕ)) (R : List ℕ → List ℕ → Type 0) (P Q H : List ℕ → Type 0) → TellsAs told told' R → IfSome told P → ((x y : List ℕ) → R x y → P x → Q y → H x) → IfSome told' Q → IfSome told H
over None None R P Q H tells good both q = tt
over None (Some y) R P Q H tells good both q = absurd tells
over (Some x) None R P Q H tells good both q = absurd tells
over (Some x) (Some y) R P Q H tells good both q = both x y tells good q

onward : (told told' told'' : Option (List ℕ)) (R S T : List ℕ → List ℕ → Type 0) → TellsAs told told' R → TellsAs told' told'' S → ((x y z : List ℕ) → R x y → S y z → T x z) → TellsAs told told'' T
onward None None None R S T one two both = tt
onward None None (Some z) R S T one two both = two
onward None (Some y) told'' R S T one two both = absurd one
onward (Some x) None told'' R S T one two both = absurd one
onward (Some x) (Some y) None R S T one two both = two
onward (Some x) (Some y) (Some z) R S T one two both = both x y z one two

-- once all of them answered Ok and nothing is pending, each image has them
acknowledged : (told told' : Option (List ℕ)) (all : List (List ℕ)) (leaves : List ℕ → Type 0) → TellsAs told told' (λ o n. standing n ≡ standing o ++ all)
    → IfSome told (λ file. has_bad_header file ≡ false) → IfSome told' (λ file. has_bad_header file ≡ false) → Only told' leaves → (c : List ℕ) → leaves c → IfSome told (λ file. HasFirst file all (length all) c)
acknowledged None told' all leaves reads good marked only c left = tt
acknowledged (Some o) None all leaves reads good marked only c left = absurd reads
acknowledged (Some o) (Some n) all leaves reads good marked only c left = inl (subst (λ (file : List ℕ). Holds o (take (length all) all) file) (sym (only c left)) (record {
  stand = reads ∙ ap (λ l. standing o ++ l) (sym (take-length all));
  header = marked ∙ sym good;
}))

same_file : (told : Option (List ℕ)) → TellsAs told told (λ old new. standing new ≡ standing old ++ [])
same_file None = tt
same_file (Some file) = sym (append_nil (standing file))
  where
    append_nil : {X : Type 0} (l : List X) → l ++ [] ≡ l
    append_nil [] = refl
    append_nil (x ∷ l) = ap (λ r. x ∷ r) (append_nil l)

module _ {D : Type 0} (seen : D → Option (List ℕ)) (may_leave : D → List ℕ → Type 0) (clock : D → Option ℕ) (left_at : D → ℕ → List ℕ → Type 0) (room faults : D → ℕ) where
  abbrev Has : D × D → List (List ℕ) → ℕ → List ℕ → Type 0
  Has old given count c = IfSome (seen old.0) (λ file. HasFirst file given count c)

  abbrev Within : D × D → List ℕ → List ℕ → Type 0
  Within mid payload c = IfSome (seen mid.0) (λ file. IsStoreOf (standing file) c ⊎ IsStoreOf (standing file ++ payload ∷ []) c)

  module _ (old mid new : D × D) (given : List (List ℕ)) (payload : List ℕ) (good : IfSome (seen old.0) (λ file. has_bad_header file ≡ false))
      (before : CommitsAll seen may_leave clock left_at room faults old mid given) (steps : Steps seen may_leave clock left_at room faults mid new (Within mid payload)) where
    more : (count : ℕ) (c : List ℕ) → count ≤ length given → Has old given count c → Has old (given ++ payload ∷ []) count c
    more count c le has = each (seen old.0) (λ file. HasFirst file given count c) (λ file. HasFirst file (given ++ payload ∷ []) count c) has (λ file h. has_first_more file given payload count c le h)

    inside : (c : List ℕ) → Within mid payload c → Has old (given ++ payload ∷ []) (length given) c
    inside c w = over (seen old.0) (seen mid.0) (λ o m. standing m ≡ standing o ++ given) (λ file. has_bad_header file ≡ false)
        (λ file. IsStoreOf (standing file) c ⊎ IsStoreOf (standing file ++ payload ∷ []) c) (λ file. HasFirst file (given ++ payload ∷ []) (length given) c)
        before.reads good (λ o m are g h. within_commit o m given payload c g are h) w

    longer : length (given ++ payload ∷ []) ≡ suc (length given)
    longer = let e = length-append given (payload ∷ []) in omega (arith, e)

    -- where the answer is Ok, there is one commit more
    pub one_more : TellsAs (seen mid.0) (seen new.0) (λ m n. standing n ≡ standing m ++ payload ∷ []) → Only (seen new.0) (may_leave new.0) → IfSome (seen new.0) (λ file. has_bad_header file ≡ false) → CommitsAll seen may_leave clock left_at room faults old new (given ++ payload ∷ [])
    one_more reads only marked = record {
      commits = record {
        counted = inl refl;
        moments = subst (λ (n : ℕ). BetweenClocks (clock old.0) (clock new.0) (Committed (left_at old.0) (left_at new.0) (Has old (given ++ payload ∷ [])) n)) (sym longer)
            (clocks (clock old.0) (clock mid.0) (clock new.0) _ _ _ before.commits.moments steps.moments
            (λ was at now one two. committed_one was at now (left_at old.0) (left_at mid.0) (left_at new.0) (Has old given) (Has old (given ++ payload ∷ [])) (Within mid payload) (length given) one two more inside));
        crash = acknowledged (seen old.0) (seen new.0) (given ++ payload ∷ []) (may_leave new.0) read_on good marked only;
        same_room = steps.same_room ∙ before.commits.same_room;
        later = omega (arith, before.commits.later, steps.later);
        other = rests_on seen may_leave clock left_at room faults old.1 mid.1 new.1 before.commits.other steps.other;
      };
      reads = read_on;
    }
      where
        read_on : TellsAs (seen old.0) (seen new.0) (λ o n. standing n ≡ standing o ++ (given ++ payload ∷ []))
        read_on = onward (seen old.0) (seen mid.0) (seen new.0) _ _ (λ o n. standing n ≡ standing o ++ (given ++ payload ∷ [])) before.reads reads
            (λ o m n are is. is ∙ ap (λ l. l ++ payload ∷ []) are ∙ append_assoc (standing o) given (payload ∷ []))

    -- where it isn't, there may be
    pub one_begun : Commits seen may_leave clock left_at room faults old new (given ++ payload ∷ []) (length given)
    one_begun = record {
      counted = inr longer;
      moments = clocks (clock old.0) (clock mid.0) (clock new.0) _ _ _ before.commits.moments steps.moments
          (λ was at now one two. committed_none was at now (left_at old.0) (left_at mid.0) (left_at new.0) (Has old given) (Has old (given ++ payload ∷ [])) (Within mid payload) (length given) one two more inside);
      crash = λ c left. inside c (steps.crash c left);
      same_room = steps.same_room ∙ before.commits.same_room;
      later = omega (arith, before.commits.later, steps.later);
      other = rests_on seen may_leave clock left_at room faults old.1 mid.1 new.1 before.commits.other steps.other;
    }

  -- no commit yet
  pub none_yet : (old : D × D) → Only (seen old.0) (may_leave old.0) → CommitsAll seen may_leave clock left_at room faults old old []
  none_yet old only = record {
    commits = record {
      counted = inl refl;
      moments = at_rest (clock old.0);
      crash = λ c left. here c left (seen old.0) only;
      same_room = refl;
      later = omega arith;
      other = rests_still seen may_leave clock left_at room faults old.1;
    };
    reads = same_file (seen old.0);
  }
    where
      at_rest : (now : Option ℕ) → BetweenClocks now now (Committed (left_at old.0) (left_at old.0) (Has old []) 0)
      at_rest None = tt
      at_rest (Some now) = record {
        later = omega arith;
        earlier = λ t c le left. left;
        kept = λ t c le left. left;
        exits = [];
        are = record { rise = tt; within = tt };
        count = refl;
        since = λ t c lt le left. absurd (omega (arith, lt, le));
      }

      here : (c : List ℕ) → may_leave old.0 c → (told : Option (List ℕ)) → Only told (may_leave old.0) → IfSome told (λ file. HasFirst file [] 0 c)
      here c left None o = tt
      here c left (Some file) o = inl (subst (λ (f : List ℕ). Holds file [] f) (sym (o c left)) (record { stand = sym (append-nil (standing file)); header = refl }))

  -- commits behind an opening
  pub runs_on : (old mid new : D × D) (given : List (List ℕ)) (answered : ℕ)
      → Opens seen may_leave clock left_at room faults old mid (may_leave old.0) (λ c. IfSome (seen old.0) (λ file. IsSameStore file c))
      → TellsAs (seen old.0) (seen mid.0) (λ o m. standing m ≡ standing o) → IfSome (seen old.0) (λ file. has_bad_header file ≡ false) → IfSome (seen mid.0) (λ file. has_bad_header file ≡ false)
      → Commits seen may_leave clock left_at room faults mid new given answered → RunsOn seen may_leave clock left_at room faults old new given answered
  runs_on old mid new given answered opens same good marked commits = record {
    counted = commits.counted;
    moments = clocks (clock old.0) (clock mid.0) (clock new.0) _ _ _ opens.moments commits.moments
        (λ was at now one two. started was at now (left_at old.0) (left_at mid.0) (left_at new.0) (may_leave old.0) (Has old given) (λ c. IfSome (seen old.0) (λ file. IsSameStore file c)) answered one (moved was at now two) first);
    crash = λ c left. inr (carried answered c (commits.crash c left));
    same_room = commits.same_room ∙ opens.same_room;
    later = omega (arith, opens.later, commits.later);
    other = rests_on seen may_leave clock left_at room faults old.1 mid.1 new.1 opens.other commits.other;
  }
    where
      first : (c : List ℕ) → IfSome (seen old.0) (λ file. IsSameStore file c) → Has old given 0 c
      first c same_store = each (seen old.0) (λ file. IsSameStore file c) (λ file. HasFirst file given 0 c) same_store
          (λ file s. inl (record { stand = s.same ∙ sym (append-nil (standing file)); header = s.header }))

      holds : (o m : List ℕ) (added : List (List ℕ)) (c : List ℕ) → standing m ≡ standing o → has_bad_header o ≡ false → has_bad_header m ≡ false → Holds m added c → Holds o added c
      holds o m added c are g k has = record { stand = has.stand ∙ ap (λ l. l ++ added) are; header = has.header ∙ k ∙ sym g }

      first_of : (o m : List ℕ) (count : ℕ) (c : List ℕ) → standing m ≡ standing o → has_bad_header o ≡ false → has_bad_header m ≡ false → HasFirst m given count c → HasFirst o given count c
      first_of o m count c are g k (inl has) = inl (holds o m (take count given) c are g k has)
      first_of o m count c are g k (inr has) = inr (holds o m (take (count + 1) given) c are g k has)

      both : (told told' : Option (List ℕ)) (count : ℕ) (c : List ℕ) → TellsAs told told' (λ o m. standing m ≡ standing o) → IfSome told (λ file. has_bad_header file ≡ false) → IfSome told' (λ file. has_bad_header file ≡ false)
          → IfSome told' (λ file. HasFirst file given count c) → IfSome told (λ file. HasFirst file given count c)
      both None told' count c s g k has = tt
      both (Some o) None count c s g k has = absurd s
      both (Some o) (Some m) count c s g k has = first_of o m count c s g k has

      carried : (count : ℕ) (c : List ℕ) → Has mid given count c → Has old given count c
      carried count c has = both (seen old.0) (seen mid.0) count c same good marked has

      moved : (was at now : ℕ) → Committed (left_at mid.0) (left_at new.0) (Has mid given) answered at now → Committed (left_at mid.0) (left_at new.0) (Has old given) answered at now
      moved was at now two = record {
        later = two.later;
        earlier = two.earlier;
        kept = two.kept;
        exits = two.exits;
        are = two.are;
        count = two.count;
        since = λ t c lt le left. carried (count_before t two.exits) c (two.since t c lt le left);
      }

  -- an opening alone
  pub opens_alone : (old new : D × D)
      → Opens seen may_leave clock left_at room faults old new (may_leave old.0) (λ c. IfSome (seen old.0) (λ file. IsSameStore file c))
      → RunsOn seen may_leave clock left_at room faults old new [] 0
  opens_alone old new opens = record {
    counted = inl refl;
    moments = begins (clock old.0) (clock new.0) opens.moments;
    crash = λ c left. either c (opens.crash c left);
    same_room = opens.same_room;
    later = opens.later;
    other = opens.other;
  }
    where
      first : (c : List ℕ) → IfSome (seen old.0) (λ file. IsSameStore file c) → Has old [] 0 c
      first c same_store = each (seen old.0) (λ file. IsSameStore file c) (λ file. HasFirst file [] 0 c) same_store
          (λ file s. inl (record { stand = s.same ∙ sym (append-nil (standing file)); header = s.header }))

      either : (c : List ℕ) → may_leave old.0 c ⊎ IfSome (seen old.0) (λ file. IsSameStore file c) → may_leave old.0 c ⊎ Has old [] 0 c
      either c (inl left) = inl left
      either c (inr same_store) = inr (first c same_store)

      begins : (was now : Option ℕ) → BetweenClocks was now (Began (left_at old.0) (left_at new.0) (may_leave old.0) (λ c. IfSome (seen old.0) (λ file. IsSameStore file c)))
          → BetweenClocks was now (Started (left_at old.0) (left_at new.0) (may_leave old.0) (Has old []) 0)
      begins None None one = tt
      begins (Some was) None one = tt
      begins None (Some now) one = one
      begins (Some was) (Some now) one = record {
        later = one.later;
        earlier = one.earlier;
        kept = one.kept;
        exits = [];
        are = record { rise = tt; within = tt };
        count = refl;
        first = one.first;
        since = λ t c lt le left. first c (one.since t c lt le left);
      }
