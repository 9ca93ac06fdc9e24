-- A put or a removal that is undone gives the table of before.
use Rattle.std.proofs.Common.{◌≡◌, ℕ, Bool, true, false, not, cond, List, [], ◌∷◌, map, Option, Some, None, refl, sym, ◌∙◌, ap, subst, filter, find, bytes_eq}
use Rattle.std.specs.List.{AllByRecursion}
use Rattle.std.specs.List.Sorted.{IsStrictlySortedBy}
use Rattle.std.specs.Cmp.{IsTotalOrder, tied_itself}
use Rattle.std.specs.Cmp.Lexicographic.{nat_list_cmp_total}
use Rattle.std.proofs.lemmas.Map.Text.{is_eq-slice_cmp}
use Rattle.std.specs.declared.cmp.Ordering.{Ordering}
use Rattle.std.specs.declared.cmp.Ordering.TheVariants.{Less, Equal, Greater}
use Rattle.std.specs.Ordering.{on, is_eq, ordering_reverse, match_ordering}
use Rattle.ap_text.specs.Order.{bytes_cmp, put_in_order}
use Rattle.ap_text.specs.JobOrder.{job_cmp, job_total, same_job}
use Rattle.ap_text.specs.declared.job_id.JobId.{JobId}
use Rattle.ap_rows.specs.declared.row.SourceRow.{SourceRow}
use Rattle.ap_rows.specs.declared.row.CreateRow.{CreateRow}
use Rattle.ap_rows.specs.declared.row.JobRow.{JobRow}
use Rattle.ap_db.specs.Tables.{PlainSource, PlainCreate, PlainJob, PlainTables}
use Rattle.ap_db.specs.Changes.{source_cmp, create_cmp, job_row_cmp, with_source, without_source, with_create, without_create, with_job, without_job, source_row_at, create_row_at, job_row_at}
use Rattle.ap_db.specs.Listed.{replaced}
use Rattle.ap_db.specs.Rows.{by_path, by_source, by_id, SourcesRise, CreatesRise, JobsRise}
use Rattle.ap_db.specs.States.{TablesRise}

-- rows with the one that was taken out or replaced put back, where there was one
abbrev pub with_old : {X : Type 0} → (X → X → Ordering) → Option X → List X → List X
with_old cmp None rows = rows
with_old cmp (Some old) rows = put_in_order cmp old rows

-- rows after a put is undone: with the row that it replaced, or, where it replaced none, without that of the key
abbrev pub put_undone : {X : Type 0} → (X → X → Ordering) → (X → Bool) → Option X → List X → List X
put_undone cmp is_new None rows = filter (λ row. not (is_new row)) rows
put_undone cmp is_new (Some old) rows = put_in_order cmp old rows

-- ---- over any comparison

module _ {X K : Type 0} (cmp : K → K → Ordering) (total : IsTotalOrder cmp) (key : X → K) where
  -- a row before all others is put first
  put_first : (x : X) (ys : List X) → AllByRecursion (λ k. cmp (key x) k ≡ Less) (map key ys) → put_in_order (on key cmp) x ys ≡ x ∷ ys
  put_first x [] h = refl
  put_first x (y ∷ ys) h = ap (λ o. match_ordering o (x ∷ y ∷ ys) (x ∷ ys) (y ∷ put_in_order (on key cmp) x ys)) h.0

  all_follow : (P Q : K → Type 0) (ys : List X) → ((k : K) → P k → Q k) → AllByRecursion P (map key ys) → AllByRecursion Q (map key ys)
  all_follow P Q [] f h = tt
  all_follow P Q (y ∷ ys) f h = (f (key y) h.0, all_follow P Q ys f h.1)

  reversed : (a b : K) (o : Ordering) → cmp a b ≡ o → cmp b a ≡ ordering_reverse o
  reversed a b o e = total.antisymm b a ∙ ap ordering_reverse e

  -- what is true of all keys is true of that of the row replaced, and of that found
  replaced_is : (P : K → Type 0) (x : X) (ys : List X) (old : X) → AllByRecursion P (map key ys) → replaced (on key cmp) x ys ≡ Some old → P (key old)
  replaced_is P x [] old h e = absurd (cc e)
  replaced_is P x (y ∷ ys) old h e = step (cmp (key x) (key y)) (replaced_is P x ys old h.1) e
    where
      step : (o : Ordering) → (replaced (on key cmp) x ys ≡ Some old → P (key old)) → match_ordering o None (Some y) (replaced (on key cmp) x ys) ≡ Some old → P (key old)
      step Less later e = absurd (cc e)
      step Equal later e = let same : y ≡ old = cc e in subst (λ z. P (key z)) same h.0
      step Greater later e = later e

  found_is : (P : K → Type 0) (test : X → Bool) (ys : List X) (old : X) → AllByRecursion P (map key ys) → find test ys ≡ Some old → P (key old)
  found_is P test [] old h e = absurd (cc e)
  found_is P test (y ∷ ys) old h e = step (test y) (found_is P test ys old h.1) e
    where
      step : (b : Bool) → (find test ys ≡ Some old → P (key old)) → cond b (Some y) (find test ys) ≡ Some old → P (key old)
      step true later e = let same : y ≡ old = cc e in subst (λ z. P (key z)) same h.0
      step false later e = later e

  -- a row behind this one is put behind it
  put_behind : (old y : X) (ys : List X) → cmp (key y) (key old) ≡ Less → put_in_order (on key cmp) old (y ∷ ys) ≡ y ∷ put_in_order (on key cmp) old ys
  put_behind old y ys less = ap (λ o. match_ordering o (old ∷ y ∷ ys) (old ∷ ys) (y ∷ put_in_order (on key cmp) old ys)) (reversed (key y) (key old) Less less)

  module _ (k : K) (test : X → Bool) (tests : (y : X) → test y ≡ is_eq (cmp (key y) k)) where
    passes_not : (y : X) (ys : List X) → cmp k (key y) ≡ Less → filter (λ z. not (test z)) (y ∷ ys) ≡ y ∷ filter (λ z. not (test z)) ys
    passes_not y ys less = ap (λ b. cond (not b) (y ∷ filter (λ z. not (test z)) ys) (filter (λ z. not (test z)) ys)) (tests y ∙ ap is_eq (reversed k (key y) Less less))

    -- where all are behind the key none goes
    none_goes : (ys : List X) → AllByRecursion (λ w. cmp k w ≡ Less) (map key ys) → filter (λ z. not (test z)) ys ≡ ys
    none_goes [] h = refl
    none_goes (y ∷ ys) h = passes_not y ys h.0 ∙ ap (λ l. y ∷ l) (none_goes ys h.1)

    -- the row of a key taken out and put back
    pub take_then_back : (ys : List X) → IsStrictlySortedBy cmp (map key ys) → with_old (on key cmp) (find test ys) (filter (λ z. not (test z)) ys) ≡ ys
    unfolding IsStrictlySortedBy
    take_then_back [] h = refl
    take_then_back (y ∷ ys) h = step (cmp (key y) k) refl (take_then_back ys h.1)
      where
        left : List X
        left = filter (λ z. not (test z)) ys

        goal : Bool → Type 0
        goal b = with_old (on key cmp) (cond b (Some y) (find test ys)) (cond (not b) (y ∷ left) left) ≡ y ∷ ys

        later : (o : Option X) → find test ys ≡ o → with_old (on key cmp) o left ≡ ys → with_old (on key cmp) o (y ∷ left) ≡ y ∷ ys
        later None found rest = ap (λ l. y ∷ l) rest
        later (Some old) found rest = put_behind old y left (found_is (λ w. cmp (key y) w ≡ Less) test ys old h.0 found) ∙ ap (λ l. y ∷ l) rest

        stays : test y ≡ false → with_old (on key cmp) (find test ys) left ≡ ys → goal (test y)
        stays e rest = subst goal (sym e) (later (find test ys) refl rest)

        step : (o : Ordering) → cmp (key y) k ≡ o → with_old (on key cmp) (find test ys) left ≡ ys → goal (test y)
        step Less e rest = stays (tests y ∙ ap is_eq e) rest
        step Equal e rest =
            let is : test y ≡ true = tests y ∙ ap is_eq e in
            let all : left ≡ ys = none_goes ys (all_follow (λ w. cmp (key y) w ≡ Less) (λ w. cmp k w ≡ Less) ys (λ w less. sym (total.congr (key y) k w e) ∙ less) h.0) in
            subst goal (sym is) (ap (λ l. put_in_order (on key cmp) y l) all ∙ put_first y ys h.0)
        step Greater e rest = stays (tests y ∙ ap is_eq e) rest

  module _ (x : X) (test : X → Bool) (tests : (y : X) → test y ≡ is_eq (cmp (key y) (key x))) where
    new_goes : (ys : List X) → filter (λ z. not (test z)) (x ∷ ys) ≡ filter (λ z. not (test z)) ys
    new_goes ys = ap (λ b. cond (not b) (x ∷ filter (λ z. not (test z)) ys) (filter (λ z. not (test z)) ys)) (tests x ∙ ap is_eq (tied_itself total (key x)))

    -- a row put, and the one that it replaced put back, or the new one taken out where it replaced none
    pub put_then_back : (ys : List X) → IsStrictlySortedBy cmp (map key ys) → put_undone (on key cmp) test (replaced (on key cmp) x ys) (put_in_order (on key cmp) x ys) ≡ ys
    unfolding IsStrictlySortedBy
    put_then_back [] h = new_goes []
    put_then_back (y ∷ ys) h = step (cmp (key x) (key y)) refl (put_then_back ys h.1)
      where
        put : List X
        put = put_in_order (on key cmp) x ys

        later : (o : Option X) → replaced (on key cmp) x ys ≡ o → cmp (key x) (key y) ≡ Greater → put_undone (on key cmp) test o put ≡ ys → put_undone (on key cmp) test o (y ∷ put) ≡ y ∷ ys
        later None was e rest =
            ap (λ b. cond (not b) (y ∷ filter (λ z. not (test z)) put) (filter (λ z. not (test z)) put)) (tests y ∙ ap is_eq (reversed (key x) (key y) Greater e)) ∙ ap (λ l. y ∷ l) rest
        later (Some old) was e rest = put_behind old y put (replaced_is (λ w. cmp (key y) w ≡ Less) x ys old h.0 was) ∙ ap (λ l. y ∷ l) rest

        step : (o : Ordering) → cmp (key x) (key y) ≡ o → put_undone (on key cmp) test (replaced (on key cmp) x ys) put ≡ ys
            → put_undone (on key cmp) test (match_ordering o None (Some y) (replaced (on key cmp) x ys)) (match_ordering o (x ∷ y ∷ ys) (x ∷ ys) (y ∷ put)) ≡ y ∷ ys
        step Less e rest =
            new_goes (y ∷ ys) ∙ none_goes (key x) test tests (y ∷ ys) (e, all_follow (λ w. cmp (key y) w ≡ Less) (λ w. cmp (key x) w ≡ Less) ys (λ w less. total.trans (key x) (key y) w e less) h.0)
        step Equal e rest = ap (λ o. match_ordering o (y ∷ x ∷ ys) (y ∷ ys) (x ∷ put_in_order (on key cmp) y ys)) (reversed (key x) (key y) Equal e)
        step Greater e rest = later (replaced (on key cmp) x ys) refl e rest

eq_bytes : (a b : List ℕ) → bytes_eq a b ≡ is_eq (bytes_cmp a b)
eq_bytes a b = sym (is_eq-slice_cmp a b)

-- ---- rows with numbers

pub sources_put_back : (row : SourceRow) (rows : List SourceRow) → SourcesRise rows → put_undone by_path (λ r. bytes_eq r.path row.path) (replaced by_path row rows) (put_in_order by_path row rows) ≡ rows
sources_put_back row rows rise = put_then_back bytes_cmp nat_list_cmp_total (λ (r : SourceRow). r.path) row (λ r. bytes_eq r.path row.path) (λ r. eq_bytes r.path row.path) rows rise

pub creates_put_back : (row : CreateRow) (rows : List CreateRow) → CreatesRise rows → put_undone by_source (λ r. bytes_eq r.source row.source) (replaced by_source row rows) (put_in_order by_source row rows) ≡ rows
creates_put_back row rows rise = put_then_back bytes_cmp nat_list_cmp_total (λ (r : CreateRow). r.source) row (λ r. bytes_eq r.source row.source) (λ r. eq_bytes r.source row.source) rows rise

pub jobs_put_back : (row : JobRow) (rows : List JobRow) → JobsRise rows → put_undone by_id (λ r. same_job r.id row.id) (replaced by_id row rows) (put_in_order by_id row rows) ≡ rows
jobs_put_back row rows rise = put_then_back job_cmp job_total (λ (r : JobRow). r.id) row (λ r. same_job r.id row.id) (λ r. refl) rows rise

pub sources_taken_back : (path : List ℕ) (rows : List SourceRow) → SourcesRise rows → with_old by_path (find (λ r. bytes_eq r.path path) rows) (filter (λ r. not (bytes_eq r.path path)) rows) ≡ rows
sources_taken_back path rows rise = take_then_back bytes_cmp nat_list_cmp_total (λ (r : SourceRow). r.path) path (λ r. bytes_eq r.path path) (λ r. eq_bytes r.path path) rows rise

pub creates_taken_back : (path : List ℕ) (rows : List CreateRow) → CreatesRise rows → with_old by_source (find (λ r. bytes_eq r.source path) rows) (filter (λ r. not (bytes_eq r.source path)) rows) ≡ rows
creates_taken_back path rows rise = take_then_back bytes_cmp nat_list_cmp_total (λ (r : CreateRow). r.source) path (λ r. bytes_eq r.source path) (λ r. eq_bytes r.source path) rows rise

pub jobs_taken_back : (id : JobId) (rows : List JobRow) → JobsRise rows → with_old by_id (find (λ r. same_job r.id id) rows) (filter (λ r. not (same_job r.id id)) rows) ≡ rows
jobs_taken_back id rows rise = take_then_back job_cmp job_total (λ (r : JobRow). r.id) id (λ r. same_job r.id id) (λ r. refl) rows rise

-- ---- plain tables

-- the tables after the put of a row is undone, and after a removal is
abbrev pub source_unput : PlainSource → Option PlainSource → PlainTables → PlainTables
source_unput row None tables = without_source tables row.path
source_unput row (Some old) tables = with_source tables old

abbrev pub create_unput : PlainCreate → Option PlainCreate → PlainTables → PlainTables
create_unput row None tables = without_create tables row.source
create_unput row (Some old) tables = with_create tables old

abbrev pub job_unput : PlainJob → Option PlainJob → PlainTables → PlainTables
job_unput row None tables = without_job tables row.id
job_unput row (Some old) tables = with_job tables old

abbrev pub source_returned : Option PlainSource → PlainTables → PlainTables
source_returned None tables = tables
source_returned (Some old) tables = with_source tables old

abbrev pub create_returned : Option PlainCreate → PlainTables → PlainTables
create_returned None tables = tables
create_returned (Some old) tables = with_create tables old

abbrev pub job_returned : Option PlainJob → PlainTables → PlainTables
job_returned None tables = tables
job_returned (Some old) tables = with_job tables old

module _ (tables : PlainTables) (rise : TablesRise tables) where
  pub put_source_undone : (row : PlainSource) → source_unput row (replaced source_cmp row tables.sources) (with_source tables row) ≡ tables
  put_source_undone row = each (replaced source_cmp row tables.sources) (put_then_back bytes_cmp nat_list_cmp_total (λ (r : PlainSource). r.path) row (λ r. bytes_eq r.path row.path) (λ r. eq_bytes r.path row.path) tables.sources rise.sources)
    where
      each : (o : Option PlainSource) → put_undone source_cmp (λ r. bytes_eq r.path row.path) o (put_in_order source_cmp row tables.sources) ≡ tables.sources → source_unput row o (with_source tables row) ≡ tables
      each None e = ap (λ l. record tables { sources = l }) e
      each (Some old) e = ap (λ l. record tables { sources = l }) e

  pub put_create_undone : (row : PlainCreate) → create_unput row (replaced create_cmp row tables.creates) (with_create tables row) ≡ tables
  put_create_undone row = each (replaced create_cmp row tables.creates) (put_then_back bytes_cmp nat_list_cmp_total (λ (r : PlainCreate). r.source) row (λ r. bytes_eq r.source row.source) (λ r. eq_bytes r.source row.source) tables.creates rise.creates)
    where
      each : (o : Option PlainCreate) → put_undone create_cmp (λ r. bytes_eq r.source row.source) o (put_in_order create_cmp row tables.creates) ≡ tables.creates → create_unput row o (with_create tables row) ≡ tables
      each None e = ap (λ l. record tables { creates = l }) e
      each (Some old) e = ap (λ l. record tables { creates = l }) e

  pub put_job_undone : (row : PlainJob) → job_unput row (replaced job_row_cmp row tables.jobs) (with_job tables row) ≡ tables
  put_job_undone row = each (replaced job_row_cmp row tables.jobs) (put_then_back job_cmp job_total (λ (r : PlainJob). r.id) row (λ r. same_job r.id row.id) (λ r. refl) tables.jobs rise.jobs)
    where
      each : (o : Option PlainJob) → put_undone job_row_cmp (λ r. same_job r.id row.id) o (put_in_order job_row_cmp row tables.jobs) ≡ tables.jobs → job_unput row o (with_job tables row) ≡ tables
      each None e = ap (λ l. record tables { jobs = l }) e
      each (Some old) e = ap (λ l. record tables { jobs = l }) e

  pub remove_source_undone : (path : List ℕ) → source_returned (source_row_at tables path) (without_source tables path) ≡ tables
  remove_source_undone path = each (source_row_at tables path) (take_then_back bytes_cmp nat_list_cmp_total (λ (r : PlainSource). r.path) path (λ r. bytes_eq r.path path) (λ r. eq_bytes r.path path) tables.sources rise.sources)
    where
      each : (o : Option PlainSource) → with_old source_cmp o (filter (λ r. not (bytes_eq r.path path)) tables.sources) ≡ tables.sources → source_returned o (without_source tables path) ≡ tables
      each None e = ap (λ l. record tables { sources = l }) e
      each (Some old) e = ap (λ l. record tables { sources = l }) e

  pub remove_create_undone : (path : List ℕ) → create_returned (create_row_at tables path) (without_create tables path) ≡ tables
  remove_create_undone path = each (create_row_at tables path) (take_then_back bytes_cmp nat_list_cmp_total (λ (r : PlainCreate). r.source) path (λ r. bytes_eq r.source path) (λ r. eq_bytes r.source path) tables.creates rise.creates)
    where
      each : (o : Option PlainCreate) → with_old create_cmp o (filter (λ r. not (bytes_eq r.source path)) tables.creates) ≡ tables.creates → create_returned o (without_create tables path) ≡ tables
      each None e = ap (λ l. record tables { creates = l }) e
      each (Some old) e = ap (λ l. record tables { creates = l }) e

  pub remove_job_undone : (id : JobId) → job_returned (job_row_at tables id) (without_job tables id) ≡ tables
  remove_job_undone id = each (job_row_at tables id) (take_then_back job_cmp job_total (λ (r : PlainJob). r.id) id (λ r. same_job r.id id) (λ r. refl) tables.jobs rise.jobs)
    where
      each : (o : Option PlainJob) → with_old job_row_cmp o (filter (λ r. not (same_job r.id id)) tables.jobs) ≡ tables.jobs → job_returned o (without_job tables id) ≡ tables
      each None e = ap (λ l. record tables { jobs = l }) e
      each (Some old) e = ap (λ l. record tables { jobs = l }) e
