-- How commits of whole changes follow one another.
use Rattle.std.proofs.Common.{◌≡◌, ℕ, suc, ◌+◌, ◌≤◌, ◌<◌, ◌⊎◌, inl, inr, true, List, [], ◌∷◌, ◌++◌, length, take, Option, Some, None, Ok, refl, sym, ◌∙◌, ap, subst, arith, append_assoc}
use Rattle.std.specs.Prelude.{IfSome}
use Rattle.std.proofs.lemmas.Bool.{cases_lt}
use Rattle.std.proofs.lemmas.List.{take-append-le, take_all, length-append, append-nil}
use Rattle.std.proofs.lemmas.List.Sums.{fold-append}
use Rattle.std.proofs.Math.Seq.{take-append-add}
use Rattle.ap_disk.specs.Calls.{TellsAs}
use Rattle.ap_disk.specs.Crashes.{Only}
use Rattle.ap_content.specs.Entries.{Entry}
use Rattle.ap_journal.specs.Between.{rests_on, rests_still}
use Rattle.ap_journal.specs.Commits.{Committed}
use Rattle.ap_journal.specs.Moments.{BetweenClocks, Steps}
use Rattle.ap_db.specs.Changes.{Whole}
use Rattle.ap_db.specs.Databases.{IsBeforeOrAfter}
use Rattle.ap_db.specs.Lawful.{is_lawful}
use Rattle.ap_db.specs.Stored.{Stored, stored_in}
use Rattle.ap_db.specs.WholeItems.{items_of, committed, all_committed}
use Rattle.ap_db.specs.declared.db.Db.{Db}
use Rattle.ap_engine.specs.Ledgers.{AreLawful, IsAfter, IsAbout, IsReady, Commits, HasCommitted, HasStopped}
use Rattle.ap_engine.proofs.Exits.{joined, answered_once, answered_never, none_at_rest}

-- ---- what is stored after changes

pub both_committed : (stored : Stored) (given more : List Whole) → all_committed stored (given ++ more) ≡ all_committed (all_committed stored given) more
unfolding all_committed
both_committed stored given more = fold-append committed stored given more

pub none_committed : (stored : Stored) → all_committed stored [] ≡ stored
unfolding all_committed
none_committed stored = refl

pub one_committed : (stored : Stored) (change : Whole) → all_committed stored (change ∷ []) ≡ committed stored change
unfolding all_committed
one_committed stored change = refl

pub next_committed : (stored : Stored) (change : Whole) (changes : List Whole) → all_committed stored (change ∷ changes) ≡ all_committed (committed stored change) changes
unfolding all_committed
next_committed stored change changes = refl

pub both_lawful : (stored : Stored) (given more : List Whole) → AreLawful stored given → AreLawful (all_committed stored given) more → AreLawful stored (given ++ more)
both_lawful stored [] more one two = subst (λ (s : Stored). AreLawful s more) (none_committed stored) two
both_lawful stored (change ∷ given) more one two =
    (one.0, both_lawful (committed stored change) given more one.1 (subst (λ (s : Stored). AreLawful s more) (next_committed stored change given) two))

-- ---- images

about_more : (stored : Stored) (given more : List Whole) (count : ℕ) (c : List ℕ) → count ≤ length given → IsAbout stored given count c → IsAbout stored (given ++ more) count c
about_more stored given more count c le (inl is) = inl (is ∙ ap (λ (l : List Whole). Ok (all_committed stored l)) (sym (take-append-le count given more le)))
about_more stored given more count c le (inr is) = by_case (cases_lt count (length given))
  where
    by_case : (count < length given) ⊎ (length given ≤ count) → IsAbout stored (given ++ more) count c
    by_case (inl lt) = inr (is ∙ ap (λ (l : List Whole). Ok (all_committed stored l)) (sym (take-append-le (count + 1) given more (omega (arith, lt)))))
    by_case (inr ge) =
        let same : take (count + 1) given ≡ take count given = take_all (count + 1) given (omega (arith, ge)) ∙ sym (take_all count given (omega (arith, ge))) in
        inl (is ∙ ap (λ (l : List Whole). Ok (all_committed stored l)) (same ∙ sym (take-append-le count given more le)))

after_behind : (stored : Stored) (given more : List Whole) (count : ℕ) (c : List ℕ) → IsAfter (all_committed stored given) more count c → IsAfter stored (given ++ more) (length given + count) c
after_behind stored given more count c is = is ∙ ap Ok (sym (both_committed stored given (take count more)) ∙ ap (all_committed stored) (sym (take-append-add given more count)))

about_behind : (stored : Stored) (given more : List Whole) (count : ℕ) (c : List ℕ) → IsAbout (all_committed stored given) more count c → IsAbout stored (given ++ more) (length given + count) c
about_behind stored given more count c (inl is) = inl (after_behind stored given more count c is)
about_behind stored given more count c (inr is) =
    inr (subst (λ (n : ℕ). IsAfter stored (given ++ more) n c) (omega arith) (after_behind stored given more (count + 1) c is))

-- ---- what is told

pub clocks : (old mid new : Option ℕ) (R S T : ℕ → ℕ → Type 0) → BetweenClocks old mid R → BetweenClocks mid new S → ((was at now : ℕ) → R was at → S at now → T was now) → BetweenClocks old new T
clocks old mid None R S T one two both = tt
clocks None None (Some now) R S T one two both = two
clocks None (Some at) (Some now) R S T one two both = one
clocks (Some was) None (Some now) R S T one two both = absurd two
clocks (Some was) (Some at) (Some now) R S T one two both = both was at now one two

pub clock : (old new : Option ℕ) (R T : ℕ → ℕ → Type 0) → BetweenClocks old new R → ((was now : ℕ) → R was now → T was now) → BetweenClocks old new T
clock old None R T run to = tt
clock None (Some now) R T run to = run
clock (Some was) (Some now) R T run to = to was now run

at_rest : (now : Option ℕ) (R : ℕ → ℕ → Type 0) → ((t : ℕ) → R t t) → BetweenClocks now now R
at_rest None R rests = tt
at_rest (Some now) R rests = rests now

pub told_back : {X : Type 0} (old mid : Option X) (P Q : Type 0) → TellsAs old mid (λ _ _. Unit {0}) → (P → Q) → IfSome mid (λ _. P) → IfSome old (λ _. Q)
told_back None mid P Q told to p = tt
told_back (Some o) None P Q told to p = absurd told
told_back (Some o) (Some m) P Q told to p = to p

told_on : {X : Type 0} (old mid new : Option X) → TellsAs old mid (λ _ _. Unit {0}) → TellsAs mid new (λ _ _. Unit {0}) → TellsAs old new (λ _ _. Unit {0})
told_on None None None one two = tt
told_on None None (Some n) one two = two
told_on None (Some m) new one two = absurd one
told_on (Some o) None new one two = absurd one
told_on (Some o) (Some m) None one two = two
told_on (Some o) (Some m) (Some n) one two = tt

told_same : {X : Type 0} (told : Option X) → TellsAs told told (λ _ _. Unit {0})
told_same None = tt
told_same (Some x) = tt

told : {X : Type 0} (old : Option X) (P Q : Type 0) → (P → Q) → IfSome old (λ _. P) → IfSome old (λ _. Q)
told None P Q to p = tt
told (Some x) P Q to p = to p

module _ {D : Type 0} (seen : D → Option (List ℕ)) (may_leave : D → List ℕ → Type 0) (clock_of : D → Option ℕ) (left_at : D → ℕ → List ℕ → Type 0) (room faults : D → ℕ) where
  -- commits behind commits that all answered Ok
  pub follow : (old mid new : D × D) (stored : Stored) (given more : List Whole) (answered : ℕ) → TellsAs (seen old.0) (seen mid.0) (λ _ _. Unit {0})
      → Commits seen may_leave clock_of left_at room faults old mid stored given (length given)
      → Commits seen may_leave clock_of left_at room faults mid new (all_committed stored given) more answered
      → Commits seen may_leave clock_of left_at room faults old new stored (given ++ more) (length given + answered)
  follow old mid new stored given more answered telling one two = record {
    lawful = both_lawful stored given more one.lawful two.lawful;
    counted = counts two.counted;
    moments = clocks (clock_of old.0) (clock_of mid.0) (clock_of new.0) _ _ _ one.moments two.moments
        (λ was at now first second. joined was at now (left_at old.0) (left_at mid.0) (left_at new.0)
        (λ count c. IfSome (seen old.0) (λ _. IsAbout stored given count c)) (λ count c. IfSome (seen mid.0) (λ _. IsAbout (all_committed stored given) more count c)) (λ count c. IfSome (seen old.0) (λ _. IsAbout stored (given ++ more) count c))
        (length given) answered first second
        (λ count c le is. told (seen old.0) (IsAbout stored given count c) (IsAbout stored (given ++ more) count c) (about_more stored given more count c le) is) behind);
    crash = λ c left. behind answered c (two.crash c left);
    same_room = two.same_room ∙ one.same_room;
    later = omega (arith, one.later, two.later);
    other = rests_on seen may_leave clock_of left_at room faults old.1 mid.1 new.1 one.other two.other;
  }
    where
      long : length (given ++ more) ≡ length given + length more
      long = length-append given more

      counts : (length more ≡ answered) ⊎ (length more ≡ suc answered) → (length (given ++ more) ≡ length given + answered) ⊎ (length (given ++ more) ≡ suc (length given + answered))
      counts (inl all) = let l = long in inl (omega (arith, l, all))
      counts (inr some) = let l = long in inr (omega (arith, l, some))

      behind : (count : ℕ) (c : List ℕ) → IfSome (seen mid.0) (λ _. IsAbout (all_committed stored given) more count c) → IfSome (seen old.0) (λ _. IsAbout stored (given ++ more) (length given + count) c)
      behind count c is = told_back (seen old.0) (seen mid.0) (IsAbout (all_committed stored given) more count c) (IsAbout stored (given ++ more) (length given + count) c) telling (about_behind stored given more count c) is

  -- and all of these
  pub all_follow : (db : Db) (contents : List (Option Entry)) (db' : Db) (contents' : List (Option Entry)) (db'' : Db) (contents'' : List (Option Entry)) (old mid new : D × D) (stored : Stored) (given more : List Whole)
      → HasCommitted seen may_leave clock_of left_at room faults db contents db' contents' old mid stored given
      → HasCommitted seen may_leave clock_of left_at room faults db' contents' db'' contents'' mid new (all_committed stored given) more
      → HasCommitted seen may_leave clock_of left_at room faults db contents db'' contents'' old new stored (given ++ more)
  all_follow db contents db' contents' db'' contents'' old mid new stored given more one two = record {
    commits = subst (Commits seen may_leave clock_of left_at room faults old new stored (given ++ more)) (sym (length-append given more)) (follow old mid new stored given more (length more) one.told one.commits two.commits);
    told = told_on (seen old.0) (seen mid.0) (seen new.0) one.told two.told;
    ready = subst (IsReady seen may_leave room db'' contents'' new) (sym (both_committed stored given more)) two.ready;
    stay = λ n x is. two.stay n x (one.stay n x is);
    limit = two.limit ∙ one.limit;
  }

  -- or some
  pub stopped_behind : (db : Db) (contents : List (Option Entry)) (db' : Db) (contents' : List (Option Entry)) (old mid new : D × D) (stored : Stored) (given more : List Whole)
      → HasCommitted seen may_leave clock_of left_at room faults db contents db' contents' old mid stored given
      → HasStopped seen may_leave clock_of left_at room faults mid new (all_committed stored given) more
      → HasStopped seen may_leave clock_of left_at room faults old new stored (given ++ more)
  stopped_behind db contents db' contents' old mid new stored given more one two = record {
    given = given ++ two.given;
    front = record { rest = two.front.rest; joined = append_assoc given two.given two.front.rest ∙ ap (λ (l : List Whole). given ++ l) two.front.joined };
    answered = length given + two.answered;
    commits = follow old mid new stored given two.given two.answered one.told one.commits two.commits;
  }

  -- a run that stopped before more changes
  pub stopped_before : (old new : D × D) (stored : Stored) (all more : List Whole) → HasStopped seen may_leave clock_of left_at room faults old new stored all → HasStopped seen may_leave clock_of left_at room faults old new stored (all ++ more)
  stopped_before old new stored all more is = record {
    given = is.given;
    front = record { rest = is.front.rest ++ more; joined = sym (append_assoc is.given is.front.rest more) ∙ ap (λ (l : List Whole). l ++ more) is.front.joined };
    answered = is.answered;
    commits = is.commits;
  }

  -- all of them were given
  pub stopped_after : (db : Db) (contents : List (Option Entry)) (db' : Db) (contents' : List (Option Entry)) (old new : D × D) (stored : Stored) (given : List Whole)
      → HasCommitted seen may_leave clock_of left_at room faults db contents db' contents' old new stored given → HasStopped seen may_leave clock_of left_at room faults old new stored given
  stopped_after db contents db' contents' old new stored given is = record {
    given = given;
    front = record { rest = []; joined = append-nil given };
    answered = length given;
    commits = is.commits;
  }

  module _ (db : Db) (contents : List (Option Entry)) (store : D × D) (stored : Stored) (ready : IsReady seen may_leave room db contents store stored) where
    -- each image is what is stored
    pub image_now : (c : List ℕ) → may_leave store.0 c → IfSome (seen store.0) (λ _. stored_in c ≡ Ok stored)
    image_now c left = here (seen store.0) ready.file ready.durable
      where
        here : (o : Option (List ℕ)) → IfSome o (λ file. stored_in file ≡ Ok stored) → Only o (may_leave store.0) → IfSome o (λ _. stored_in c ≡ Ok stored)
        here None file only = tt
        here (Some bytes) file only = ap stored_in (only c left) ∙ file

    -- no commit yet
    pub none_given : Commits seen may_leave clock_of left_at room faults store store stored [] 0
    none_given = record {
      lawful = tt;
      counted = inl refl;
      moments = at_rest (clock_of store.0) (Committed (left_at store.0) (left_at store.0) (λ count c. IfSome (seen store.0) (λ _. IsAbout stored [] count c)) 0) (λ now. none_at_rest now (left_at store.0) (λ count c. IfSome (seen store.0) (λ _. IsAbout stored [] count c)));
      crash = λ c left. told (seen store.0) (stored_in c ≡ Ok stored) (IsAbout stored [] 0 c) (λ is. inl (is ∙ ap Ok (sym (none_committed stored)))) (image_now c left);
      same_room = refl;
      later = omega arith;
      other = rests_still seen may_leave clock_of left_at room faults store.1;
    }

    pub nothing_committed : HasCommitted seen may_leave clock_of left_at room faults db contents db contents store store stored []
    nothing_committed = record {
      commits = none_given;
      told = told_same (seen store.0);
      ready = subst (IsReady seen may_leave room db contents store) (sym (none_committed stored)) ready;
      stay = λ n x is. is;
      limit = refl;
    }

    -- a run that was refused before its first commit
    pub nothing_given : (all : List Whole) → HasStopped seen may_leave clock_of left_at room faults store store stored all
    nothing_given all = record { given = []; front = record { rest = all; joined = refl }; answered = 0; commits = none_given }

  -- ---- one commit

  module _ (old new : D × D) (stored : Stored) (change : Whole) (lawful : is_lawful stored (items_of stored.tables change) ≡ true)
      (steps : Steps seen may_leave clock_of left_at room faults old new (λ c. IfSome (seen old.0) (λ _. IsBeforeOrAfter stored (items_of stored.tables change) c))) where
    about_one : (c : List ℕ) → IsBeforeOrAfter stored (items_of stored.tables change) c → IsAbout stored (change ∷ []) 0 c
    unfolding committed
    about_one c (inl is) = inl (is ∙ ap Ok (sym (none_committed stored)))
    about_one c (inr is) = inr (is ∙ ap Ok (sym (one_committed stored change)))

    in_about : (c : List ℕ) → IfSome (seen old.0) (λ _. IsBeforeOrAfter stored (items_of stored.tables change) c) → IfSome (seen old.0) (λ _. IsAbout stored (change ∷ []) 0 c)
    in_about c is = told (seen old.0) (IsBeforeOrAfter stored (items_of stored.tables change) c) (IsAbout stored (change ∷ []) 0 c) (about_one c) is

    -- that a disk's fault kept from being acknowledged
    pub one_begun : Commits seen may_leave clock_of left_at room faults old new stored (change ∷ []) 0
    one_begun = record {
      lawful = (lawful, tt);
      counted = inr refl;
      moments = clock (clock_of old.0) (clock_of new.0) _ _ steps.moments
          (λ was now run. answered_never was now (left_at old.0) (left_at new.0) (λ c. IfSome (seen old.0) (λ _. IsBeforeOrAfter stored (items_of stored.tables change) c)) (λ count c. IfSome (seen old.0) (λ _. IsAbout stored (change ∷ []) count c)) run in_about);
      crash = λ c left. in_about c (steps.crash c left);
      same_room = steps.same_room;
      later = steps.later;
      other = steps.other;
    }

    -- that was acknowledged
    pub one_acknowledged : TellsAs (seen old.0) (seen new.0) (λ _ _. Unit {0}) → IfSome (seen new.0) (λ file. stored_in file ≡ Ok (committed stored change)) → Only (seen new.0) (may_leave new.0)
        → Commits seen may_leave clock_of left_at room faults old new stored (change ∷ []) 1
    one_acknowledged telling file only = record {
      lawful = (lawful, tt);
      counted = inl refl;
      moments = clock (clock_of old.0) (clock_of new.0) _ _ steps.moments
          (λ was now run. answered_once was now (left_at old.0) (left_at new.0) (λ c. IfSome (seen old.0) (λ _. IsBeforeOrAfter stored (items_of stored.tables change) c)) (λ count c. IfSome (seen old.0) (λ _. IsAbout stored (change ∷ []) count c)) run in_about);
      crash = λ c left. here c left (seen old.0) (seen new.0) telling file only;
      same_room = steps.same_room;
      later = steps.later;
      other = steps.other;
    }
      where
        here : (c : List ℕ) → may_leave new.0 c → (o n : Option (List ℕ)) → TellsAs o n (λ _ _. Unit {0}) → IfSome n (λ file. stored_in file ≡ Ok (committed stored change)) → Only n (may_leave new.0)
            → IfSome o (λ _. IsAbout stored (change ∷ []) 1 c)
        here c left None n telling file only = tt
        here c left (Some x) None telling file only = absurd telling
        here c left (Some x) (Some bytes) telling file only = inl (ap stored_in (only c left) ∙ file ∙ ap Ok (sym (one_committed stored change)))
