-- Whole changes of good rows are lawful.
use Rattle.std.proofs.Common.{◌≡◌, ◌==◌, ◌&&◌, ◌||◌, ℕ, Bool, true, false, not, List, [], ◌∷◌, ◌++◌, map, filter, Option, Some, None, is_some, bytes_eq, refl, sym, ◌∙◌, ap, subst, inl, inr, arith}
use Rattle.std.specs.List.{list_all, AllByRecursion}
use Rattle.std.specs.List.Sorted.{IsStrictlySortedBy}
use Rattle.std.specs.declared.cmp.Ordering.{Ordering}
use Rattle.std.specs.declared.cmp.Ordering.TheVariants.{Less}
use Rattle.std.specs.Ordering.{is_eq, ordering_reverse}
use Rattle.std.proofs.lemmas.Slice.Eq.{bytes_eq-Decides}
use Rattle.ap_text.specs.JobOrder.{job_cmp, job_total, same_job, same_equivalence}
use Rattle.ap_text.specs.declared.job_id.JobId.{JobId}
use Rattle.ap_content.specs.Things.{Thing}
use Rattle.ap_rows.specs.Readers.{is_folded}
use Rattle.ap_rows.specs.Folded.{is_folded_job, is_folded_created}
use Rattle.ap_rows.specs.Forms.{has_form}
use Rattle.ap_rows.specs.declared.row.FolderRow.{FolderRow}
use Rattle.ap_db.specs.Same.{tag_of, is_among}
use Rattle.ap_db.specs.SameThings.{both_true, both_parts}
use Rattle.ap_db.specs.Stored.{Stored, values, orders_rise}
use Rattle.ap_db.specs.States.{TablesRise}
use Rattle.ap_db.specs.Tables.{PlainSource, PlainCreate, PlainOutcome, done, failed, PlainResult, processed, on_cycle, lacks, after_failure, PlainJob, PlainTables}
use Rattle.ap_db.specs.Members.{Has, AreIn, from_filter, in_filter, find_there, found_in}
use Rattle.ap_db.specs.Changes.{put_folders, put_source, remove_source, put_create, put_job, source_row_at, create_row_at, job_row_at, with_create, without_source, without_create, without_job, stays_beside}
use Rattle.ap_db.specs.Commit.{PlainItem, with_below}
use Rattle.ap_db.specs.Lawful.{is_good_thing, is_good_content, is_good_outcome, is_good_result, is_lawful_item, are_lawful, is_lawful}
use Rattle.ap_db.specs.WholeItems.{removal_of, job_removals, items_of}
use Rattle.ap_db.proofs.Alike.{filter_rises}
use Rattle.ap_engine.specs.Goods.{IsFormed, IsGoodContent, IsGoodSource, IsGoodCreate, IsGoodOutcome, IsGoodResult, IsGoodJob}

and_true : (b : Bool) → b ≡ true → (b && true) ≡ true
and_true b is = both_true b true is refl

or_true : (a b : Bool) → b ≡ true → (a || b) ≡ true
or_true true b is = refl
or_true false b is = is

all_more : {X : Type 0} (p q : X → Bool) (xs : List X) → ((x : X) → p x ≡ true → q x ≡ true) → list_all p xs ≡ true → list_all q xs ≡ true
all_more p q [] more all = refl
all_more p q (x ∷ xs) more all =
    let parts = both_parts (p x) (list_all p xs) all in
    both_true (q x) (list_all q xs) (more x parts.0) (all_more p q xs more parts.1)

same_number : (n m : ℕ) → n ≡ m → n == m ≡ true
same_number n m is = grind (arith, is)

-- ---- good things

module _ (stored : Stored) where
  good_if_formed : (tag : ℕ) (x : Thing) → IsFormed tag x → is_good_thing stored tag x ≡ true
  unfolding is_good_thing
  good_if_formed tag x is =
      both_true (tag_of x == tag) (list_all (λ part. is_among (values stored) part || has_form part) (with_below x)) (same_number (tag_of x) tag is.tagged)
      (all_more has_form (λ part. is_among (values stored) part || has_form part) (with_below x) (λ part formed. or_true (is_among (values stored) part) (has_form part) formed) is.formed)

  good_content : (content : Option Thing) → IsGoodContent content → is_good_content stored content ≡ true
  good_content None is = refl
  good_content (Some x) is = good_if_formed 0 x is

  good_outcome : (outcome : PlainOutcome) → IsGoodOutcome outcome → is_good_outcome stored outcome ≡ true
  good_outcome (done x) is = good_if_formed 3 x is
  good_outcome (failed code) is = refl

  good_result : (result : PlainResult) → IsGoodResult result → is_good_result stored result ≡ true
  good_result (processed input outcome) is = both_true (is_good_thing stored 2 input) (is_good_outcome stored outcome) (good_if_formed 2 input is.0) (good_outcome outcome is.1)
  good_result on_cycle is = refl
  good_result (lacks d) is = is
  good_result (after_failure d) is = is

  -- ---- removed rows are there

  other_job : (a b : JobId) → job_cmp a b ≡ Less → not (same_job b a) ≡ true
  other_job a b less = ap (λ (o : Ordering). not (is_eq o)) (job_total.antisymm b a ∙ ap ordering_reverse less)

  job_is_there : (tables : PlainTables) (row : PlainJob) → Has tables.jobs row → is_some (job_row_at tables row.id) ≡ true
  job_is_there tables row h = let found = find_there (λ (r : PlainJob). same_job r.id row.id) tables.jobs row h (same_equivalence.refl row.id) in ap is_some found.1

  all_other : (id : JobId) (rows : List PlainJob) → AllByRecursion (λ k. job_cmp id k ≡ Less) (map (λ (row : PlainJob). row.id) rows) → (row : PlainJob) → Has rows row → job_cmp id row.id ≡ Less
  all_other id [] all row h = absurd h
  all_other id (r ∷ rows) all row (inl e) = subst (λ (x : PlainJob). job_cmp id x.id ≡ Less) e all.0
  all_other id (r ∷ rows) all row (inr h) = all_other id rows all.1 row h

  removals_lawful : (rows : List PlainJob) (tables : PlainTables) → IsStrictlySortedBy job_cmp (map (λ (row : PlainJob). row.id) rows) → AreIn rows tables.jobs → are_lawful stored tables (job_removals rows) ≡ true
  unfolding IsStrictlySortedBy is_lawful_item
  removals_lawful [] tables rise there = refl
  removals_lawful (row ∷ rows) tables rise there =
      both_true (is_some (job_row_at tables row.id)) (are_lawful stored (without_job tables row.id) (job_removals rows))
      (job_is_there tables row (there row (inl refl)))
      (removals_lawful rows (without_job tables row.id) rise.1
      (λ x h. in_filter (λ (r : PlainJob). not (same_job r.id row.id)) tables.jobs x (there x (inr h)) (other_job row.id x.id (all_other row.id rows rise.0 x h))))

  rows_of : (p : PlainJob → Bool) (jobs : List PlainJob) → IsStrictlySortedBy job_cmp (map (λ (row : PlainJob). row.id) jobs) → IsStrictlySortedBy job_cmp (map (λ (row : PlainJob). row.id) (filter p jobs))
  rows_of p jobs rise = filter_rises job_cmp job_total (λ (row : PlainJob). row.id) p jobs rise

  removal_lawful : (tables : PlainTables) (path : List ℕ) (rest : List PlainItem) (o : Option PlainCreate) → create_row_at tables path ≡ o
      → ((next : PlainTables) → next.jobs ≡ tables.jobs → are_lawful stored next rest ≡ true) → are_lawful stored tables (removal_of o ++ rest) ≡ true
  unfolding is_lawful_item
  removal_lawful tables path rest None e then = then tables refl
  removal_lawful tables path rest (Some row) e then =
      let found = found_in (λ (r : PlainCreate). bytes_eq r.source path) tables.creates row e in
      let again = find_there (λ (r : PlainCreate). bytes_eq r.source row.source) tables.creates row found.0 ((bytes_eq-Decides row.source row.source).1 refl) in
      both_true (is_some (create_row_at tables row.source)) (are_lawful stored (without_create tables row.source) rest) (ap is_some again.1) (then (without_create tables row.source) refl)

  -- ---- whole changes

  pub folders_lawful : (rows : List FolderRow) → orders_rise rows ≡ true → is_lawful stored (items_of stored.tables (put_folders rows)) ≡ true
  unfolding is_lawful items_of is_lawful_item
  folders_lawful rows rise = and_true (orders_rise rows) rise

  pub source_lawful : (row : PlainSource) → IsGoodSource row → is_lawful stored (items_of stored.tables (put_source row)) ≡ true
  unfolding is_lawful items_of is_lawful_item
  source_lawful row good = and_true (is_folded row.path && is_good_content stored row.content) (both_true (is_folded row.path) (is_good_content stored row.content) good.folded (good_content row.content good.content))

  pub job_lawful : (row : PlainJob) → IsGoodJob row → is_lawful stored (items_of stored.tables (put_job row)) ≡ true
  unfolding is_lawful items_of is_lawful_item
  job_lawful row good = and_true (is_folded_job row.id && is_good_result stored row.result) (both_true (is_folded_job row.id) (is_good_result stored row.result) good.folded (good_result row.result good.result))

  pub create_lawful : (row : PlainCreate) → TablesRise stored.tables → IsGoodCreate row → is_lawful stored (items_of stored.tables (put_create row)) ≡ true
  unfolding is_lawful items_of is_lawful_item
  create_lawful row rise good =
      let gone = filter (λ (job : PlainJob). not (stays_beside row job)) stored.tables.jobs in
      both_true (is_folded row.source && is_good_thing stored 1 row.input && is_folded_created row.created) (are_lawful stored (with_create stored.tables row) (job_removals gone))
      (both_true (is_folded row.source && is_good_thing stored 1 row.input) (is_folded_created row.created)
      (both_true (is_folded row.source) (is_good_thing stored 1 row.input) good.folded (good_if_formed 1 row.input good.input)) good.created)
      (removals_lawful gone (with_create stored.tables row) (rows_of (λ (job : PlainJob). not (stays_beside row job)) stored.tables.jobs rise.jobs) (λ x h. (from_filter (λ (job : PlainJob). not (stays_beside row job)) stored.tables.jobs x h).0))

  pub gone_lawful : (path : List ℕ) → TablesRise stored.tables → is_some (source_row_at stored.tables path) ≡ true → is_lawful stored (items_of stored.tables (remove_source path)) ≡ true
  unfolding is_lawful items_of is_lawful_item
  gone_lawful path rise there =
      let gone = filter (λ (row : PlainJob). bytes_eq row.id.source path) stored.tables.jobs in
      both_true (is_some (source_row_at stored.tables path)) (are_lawful stored (without_source stored.tables path) (removal_of (create_row_at stored.tables path) ++ job_removals gone)) there
      (removal_lawful (without_source stored.tables path) path (job_removals gone) (create_row_at stored.tables path) refl
      (λ next same. removals_lawful gone next (rows_of (λ (row : PlainJob). bytes_eq row.id.source path) stored.tables.jobs rise.jobs)
      (λ x h. subst (λ (jobs : List PlainJob). Has jobs x) (sym same) ((from_filter (λ (row : PlainJob). bytes_eq row.id.source path) stored.tables.jobs x h).0))))
