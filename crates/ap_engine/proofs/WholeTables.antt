-- The tables after whole changes are those after their items, and what is stored then is well stored and reached.
use Rattle.std.proofs.Common.{◌≡◌, ◌&&◌, ℕ, zero, suc, Bool, true, false, cond, not, List, [], ◌∷◌, fold, Contains, Option, Some, None, refl, sym, ◌∙◌, ap, subst, ⊎_elim}
use Rattle.std.specs.Prelude.{bytes_eq, find, take}
use Rattle.std.specs.List.{filter}
use Rattle.std.proofs.lemmas.List.Sums.{fold-append}
use Rattle.std.proofs.lemmas.Slice.Eq.{bytes_eq-Decides}
use Rattle.ap_content.proofs.Members.{Contains-filter, Contains-filtered}
use Rattle.ap_text.specs.JobOrder.{job_cmp, job_total, same_job}
use Rattle.ap_text.proofs.Members.{Contains-none, Contains-cons_cases, Contains-head, Contains-tail_of}
use Rattle.ap_graph.proofs.IdOrder.{same_job-Decides}
use Rattle.ap_db.specs.Tables.{PlainCreate, PlainJob, PlainTables}
use Rattle.ap_db.specs.Changes.{Whole, put_folders, put_source, remove_source, put_create, put_job, with_create, without_source, without_create, without_job, stays_beside, after, after_all, create_row_at}
use Rattle.ap_db.specs.CommitLaw.{commit_law}
use Rattle.ap_db.specs.DropLaws.{reached}
use Rattle.ap_db.specs.Lawful.{after_plain, is_lawful}
use Rattle.ap_db.specs.Members.{AreIn}
use Rattle.ap_db.specs.States.{TablesRise}
use Rattle.ap_db.specs.Stored.{Stored, values}
use Rattle.ap_db.specs.WellStored.{IsWellStored}
use Rattle.ap_db.specs.WholeItems.{removal_of, job_removals, items_of, committed, all_committed}
use Rattle.ap_engine.specs.Ledgers.{AreLawful}
use Rattle.ap_engine.proofs.LookUps.{some_one, none_some, found_passes, is_row_at}
use Rattle.ap_engine.proofs.MappedLists.{same_choice}
use Rattle.ap_engine.proofs.Following.{none_committed, next_committed}

-- ---- filters

both_filters : {X : Type 0} (p q : X → Bool) (xs : List X) → filter q (filter p xs) ≡ filter (λ x. p x && q x) xs
both_filters p q [] = refl
both_filters p q (x ∷ xs) = by_case (p x) (both_filters p q xs)
  where
    by_case : (b : Bool) → filter q (filter p xs) ≡ filter (λ x. p x && q x) xs
        → filter q (cond b (x ∷ filter p xs) (filter p xs)) ≡ cond (b && q x) (x ∷ filter (λ x. p x && q x) xs) (filter (λ x. p x && q x) xs)
    by_case true more = ap (λ rest. cond (q x) (x ∷ rest) rest) more
    by_case false more = more

all_pass : {X : Type 0} (xs : List X) → filter (λ x. true) xs ≡ xs
all_pass [] = refl
all_pass (x ∷ xs) = ap (λ rest. x ∷ rest) (all_pass xs)

none_passes : {X : Type 0} (p : X → Bool) (xs : List X) → find p xs ≡ None → (x : X) → Contains xs x → p x ≡ false
none_passes p [] e x has = absurd (Contains-none x has)
none_passes {X = X} p (y ∷ ys) e x has = by_case (p y) refl e (none_passes p ys)
  where
    by_case : (b : Bool) → p y ≡ b → cond b (Some y) (find p ys) ≡ None → (find p ys ≡ None → (x : X) → Contains ys x → p x ≡ false) → p x ≡ false
    by_case true is none more = absurd (none_some y (sym none))
    by_case false is none more = ⊎_elim (λ same. ap p (sym same) ∙ is) (λ later. more none x later) (Contains-cons_cases y ys x has)

-- ---- removals of job rows, one after another

-- the row is none of these
abbrev is_none_of : List PlainJob → PlainJob → Bool
is_none_of [] row = true
is_none_of (gone ∷ rows) row = not (same_job row.id gone.id) && is_none_of rows row

after_removals : (rows : List PlainJob) (t : PlainTables) → fold after_plain t (job_removals rows) ≡ record t { jobs = filter (is_none_of rows) t.jobs }
after_removals [] t = ap (λ (jobs : List PlainJob). record t { jobs = jobs }) (sym (all_pass t.jobs))
after_removals (gone ∷ rows) t = after_removals rows (without_job t gone.id)
    ∙ ap (λ (jobs : List PlainJob). record t { jobs = jobs }) (both_filters (λ row. not (same_job row.id gone.id)) (is_none_of rows) t.jobs)

itself_is_one : (row : PlainJob) (rows : List PlainJob) → Contains rows row → is_none_of rows row ≡ false
itself_is_one row [] has = absurd (Contains-none row has)
itself_is_one row (gone ∷ rows) has = ⊎_elim
    (λ same. ap (λ b. not b && is_none_of rows row) ((same_job-Decides row.id gone.id).1 (ap (λ (w : PlainJob). w.id) (sym same))))
    (λ later. still_false (not (same_job row.id gone.id)) (itself_is_one row rows later))
    (Contains-cons_cases gone rows row has)
  where
    still_false : (b : Bool) → is_none_of rows row ≡ false → (b && is_none_of rows row) ≡ false
    still_false true is = is
    still_false false is = refl

none_of_others : (row : PlainJob) (rows : List PlainJob) → ((gone : PlainJob) → Contains rows gone → same_job row.id gone.id ≡ false) → is_none_of rows row ≡ true
none_of_others row [] differ = refl
none_of_others row (gone ∷ rows) differ =
    ap (λ b. not b && is_none_of rows row) (differ gone (Contains-head gone rows)) ∙ none_of_others row rows (λ g has. differ g (Contains-tail_of gone rows g has))

module _ (t : PlainTables) (rise : TablesRise t) where
  one_of_id : (a b : PlainJob) → Contains t.jobs a → Contains t.jobs b → a.id ≡ b.id → a ≡ b
  one_of_id a b in_a in_b same = some_one a b
      (sym (is_row_at job_cmp job_total same_job same_job-Decides (λ (row : PlainJob). row.id) t.jobs a rise.jobs in_a)
      ∙ ap (λ id. find (λ (row : PlainJob). same_job row.id id) t.jobs) same
      ∙ is_row_at job_cmp job_total same_job same_job-Decides (λ (row : PlainJob). row.id) t.jobs b rise.jobs in_b)

  -- those that pass are gone, and the others stay
  passing_gone : (p : PlainJob → Bool) (row : PlainJob) → Contains t.jobs row → is_none_of (filter p t.jobs) row ≡ not (p row)
  passing_gone p row has = by_case (p row) refl
    where
      other : p row ≡ false → (gone : PlainJob) → Contains (filter p t.jobs) gone → (b : Bool) → same_job row.id gone.id ≡ b → same_job row.id gone.id ≡ false
      other stays gone is false e = e
      other stays gone is true e =
          let of = Contains-filtered p t.jobs gone is in
          absurd (cc (sym stays ∙ ap p (one_of_id row gone has of.0 ((same_job-Decides row.id gone.id).0 e)) ∙ of.1))

      by_case : (b : Bool) → p row ≡ b → is_none_of (filter p t.jobs) row ≡ not (p row)
      by_case true e = itself_is_one row (filter p t.jobs) (Contains-filter p t.jobs row e has) ∙ ap not (sym e)
      by_case false e = none_of_others row (filter p t.jobs) (λ gone is. other e gone is (same_job row.id gone.id) refl) ∙ ap not (sym e)

  -- several removals one after another are the one filter
  one_filter : (p : PlainJob → Bool) (u : PlainTables) → u.jobs ≡ t.jobs → fold after_plain u (job_removals (filter p t.jobs)) ≡ record u { jobs = filter (λ row. not (p row)) t.jobs }
  one_filter p u same = after_removals (filter p t.jobs) u
      ∙ ap (λ (jobs : List PlainJob). record u { jobs = jobs })
      (ap (filter (is_none_of (filter p t.jobs))) same ∙ same_choice (is_none_of (filter p t.jobs)) (λ row. not (p row)) t.jobs (passing_gone p))

  -- ---- one whole change

  creation_removed : (path : List ℕ) (found : Option PlainCreate) → create_row_at t path ≡ found → fold after_plain (without_source t path) (removal_of found) ≡ without_create (without_source t path) path
  creation_removed path None e = ap (λ (creates : List PlainCreate). record (without_source t path) { creates = creates })
      (sym (same_choice (λ row. not (bytes_eq row.source path)) (λ row. true) t.creates (λ row has. ap not (none_passes (λ (r : PlainCreate). bytes_eq r.source path) t.creates e row has)) ∙ all_pass t.creates))
  creation_removed path (Some row) e =
      ap (without_create (without_source t path)) ((bytes_eq-Decides row.source path).0 (found_passes (λ (r : PlainCreate). bytes_eq r.source path) t.creates row e).1)

  not_not : (b : Bool) → not (not b) ≡ b
  not_not true = refl
  not_not false = refl

  -- the items of a whole change leave the tables after it
  pub items_are_whole : (change : Whole) → fold after_plain t (items_of t change) ≡ after t change
  unfolding items_of
  items_are_whole (put_folders rows) = refl
  items_are_whole (put_source row) = refl
  items_are_whole (remove_source path) =
      fold-append after_plain (without_source t path) (removal_of (create_row_at t path)) (job_removals (filter (λ row. bytes_eq row.id.source path) t.jobs))
      ∙ ap (λ u. fold after_plain u (job_removals (filter (λ row. bytes_eq row.id.source path) t.jobs))) (creation_removed path (create_row_at t path) refl)
      ∙ one_filter (λ row. bytes_eq row.id.source path) (without_create (without_source t path) path) refl
  items_are_whole (put_create row) =
      one_filter (λ job. not (stays_beside row job)) (with_create t row) refl
      ∙ ap (λ (jobs : List PlainJob). record (with_create t row) { jobs = jobs }) (same_choice (λ job. not (not (stays_beside row job))) (stays_beside row) t.jobs (λ job has. not_not (stays_beside row job)))
  items_are_whole (put_job row) = refl

-- ---- what is stored after whole changes

module _ (stored : Stored) (change : Whole) (well : IsWellStored stored) (lawful : is_lawful stored (items_of stored.tables change) ≡ true) where
  pub tables_after_one : (committed stored change).tables ≡ after stored.tables change
  unfolding committed
  tables_after_one = (commit_law stored (items_of stored.tables change) well lawful).tables ∙ items_are_whole stored.tables well.rise change

  pub well_after_one : IsWellStored (committed stored change)
  unfolding committed
  well_after_one = (commit_law stored (items_of stored.tables change) well lawful).well

  pub reached_after_one : AreIn (values (committed stored change)) (reached (committed stored change).tables)
  unfolding committed
  reached_after_one = (commit_law stored (items_of stored.tables change) well lawful).only_reached

pub tables_after_all : (changes : List Whole) (stored : Stored) → IsWellStored stored → AreLawful stored changes → (all_committed stored changes).tables ≡ after_all stored.tables changes
tables_after_all [] stored well lawful = ap (λ (s : Stored). s.tables) (none_committed stored)
tables_after_all (change ∷ changes) stored well lawful =
    ap (λ (s : Stored). s.tables) (next_committed stored change changes)
    ∙ tables_after_all changes (committed stored change) (well_after_one stored change well lawful.0) lawful.1
    ∙ ap (λ t. after_all t changes) (tables_after_one stored change well lawful.0)

pub well_after_all : (changes : List Whole) (stored : Stored) → IsWellStored stored → AreLawful stored changes → IsWellStored (all_committed stored changes)
well_after_all [] stored well lawful = subst IsWellStored (sym (none_committed stored)) well
well_after_all (change ∷ changes) stored well lawful =
    subst IsWellStored (sym (next_committed stored change changes)) (well_after_all changes (committed stored change) (well_after_one stored change well lawful.0) lawful.1)

-- each live thing is reached, where each was
pub reached_after_all : (changes : List Whole) (stored : Stored) → IsWellStored stored → AreLawful stored changes → AreIn (values stored) (reached stored.tables)
    → AreIn (values (all_committed stored changes)) (reached (all_committed stored changes).tables)
reached_after_all [] stored well lawful are = subst (λ (s : Stored). AreIn (values s) (reached s.tables)) (sym (none_committed stored)) are
reached_after_all (change ∷ changes) stored well lawful are =
    subst (λ (s : Stored). AreIn (values s) (reached s.tables)) (sym (next_committed stored change changes))
    (reached_after_all changes (committed stored change) (well_after_one stored change well lawful.0) lawful.1 (reached_after_one stored change well lawful.0))

-- a front of lawful changes is lawful
pub front_lawful : (k : ℕ) (changes : List Whole) (stored : Stored) → AreLawful stored changes → AreLawful stored (take k changes)
front_lawful zero changes stored lawful = tt
front_lawful (suc k) [] stored lawful = tt
front_lawful (suc k) (change ∷ changes) stored lawful = (lawful.0, front_lawful k changes (committed stored change) lawful.1)

module _ (changes : List Whole) (stored : Stored) (well : IsWellStored stored) (lawful : AreLawful stored changes) (k : ℕ) where
  pub tables_after_front : (all_committed stored (take k changes)).tables ≡ after_all stored.tables (take k changes)
  tables_after_front = tables_after_all (take k changes) stored well (front_lawful k changes stored lawful)

  pub well_after_front : IsWellStored (all_committed stored (take k changes))
  well_after_front = well_after_all (take k changes) stored well (front_lawful k changes stored lawful)

  pub reached_after_front : AreIn (values stored) (reached stored.tables) → AreIn (values (all_committed stored (take k changes))) (reached (all_committed stored (take k changes)).tables)
  reached_after_front are = reached_after_all (take k changes) stored well (front_lawful k changes stored lawful) are
