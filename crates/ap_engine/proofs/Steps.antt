-- What each whole change leaves at a key, and what changes in order keep or reach.
use Rattle.std.proofs.Common.{◌≡◌, ◌≢◌, ◌⊎◌, ℕ, zero, suc, Bool, true, false, not, List, [], ◌∷◌, ◌++◌, Contains, Some, None, refl, sym, ◌∙◌, ap, subst, inl, inr, ⊎_elim}
use Rattle.std.specs.Prelude.{bytes_eq, take}
use Rattle.std.specs.List.{flat_map}
use Rattle.std.specs.declared.cmp.Ordering.TheVariants.{Equal}
use Rattle.std.specs.Ordering.{is_eq}
use Rattle.std.specs.Cmp.Lexicographic.{nat_list_cmp_total}
use Rattle.std.proofs.lemmas.List.Sums.{fold-append}
use Rattle.std.proofs.lemmas.Slice.Eq.{bytes_eq-Decides}
use Rattle.std.proofs.lemmas.Map.Text.{is_eq-slice_cmp}
use Rattle.ap_text.specs.declared.job_id.JobId.{JobId}
use Rattle.ap_text.specs.Order.{bytes_cmp}
use Rattle.ap_text.specs.JobOrder.{job_cmp, job_total, same_job}
use Rattle.ap_text.proofs.Members.{Contains-none, Contains-cons_cases, Contains-head, Contains-tail_of}
use Rattle.ap_graph.proofs.IdOrder.{same_job-Decides}
use Rattle.ap_db.specs.Tables.{PlainSource, PlainCreate, PlainJob, PlainTables}
use Rattle.ap_db.specs.Changes.{Whole, put_source, remove_source, put_create, put_job, stays_beside, after, after_all, source_row_at, create_row_at, job_row_at}
use Rattle.ap_engine.proofs.LookUps.{put_there, put_elsewhere, passed, stopped, still_none}

-- ---- keys

pub bytes_tied : (a b : List ℕ) → bytes_cmp a b ≡ Equal → a ≡ b
bytes_tied a b e = (bytes_eq-Decides a b).0 (sym (is_eq-slice_cmp a b) ∙ ap is_eq e)

pub job_tied : (a b : JobId) → job_cmp a b ≡ Equal → a ≡ b
job_tied a b e = (same_job-Decides a b).0 (ap is_eq e)

pub differ_eq : (a b : List ℕ) → a ≢ b → bytes_eq a b ≡ false
differ_eq a b differ = by_case (bytes_eq a b) refl
  where
    by_case : (t : Bool) → bytes_eq a b ≡ t → bytes_eq a b ≡ false
    by_case true e = absurd (differ ((bytes_eq-Decides a b).0 e))
    by_case false e = e

pub one_or_two : (a b : List ℕ) → (a ≡ b) ⊎ (a ≢ b)
one_or_two a b = by_case (bytes_eq a b) refl
  where
    by_case : (t : Bool) → bytes_eq a b ≡ t → (a ≡ b) ⊎ (a ≢ b)
    by_case true e = inl ((bytes_eq-Decides a b).0 e)
    by_case false e = inr (λ same. cc (sym e ∙ (bytes_eq-Decides a b).1 same))

pub one_job_or_two : (a b : JobId) → (a ≡ b) ⊎ (a ≢ b)
one_job_or_two a b = by_case (same_job a b) refl
  where
    by_case : (t : Bool) → same_job a b ≡ t → (a ≡ b) ⊎ (a ≢ b)
    by_case true e = inl ((same_job-Decides a b).0 e)
    by_case false e = inr (λ same. cc (sym e ∙ (same_job-Decides a b).1 same))

-- ---- one change

module _ (t : PlainTables) where
  pub source_put : (row : PlainSource) (q : List ℕ) → row.path ≡ q → source_row_at (after t (put_source row)) q ≡ Some row
  source_put row q e = put_there bytes_cmp nat_list_cmp_total bytes_eq bytes_eq-Decides (λ (row : PlainSource). row.path) row t.sources q e

  pub source_put_beside : (row : PlainSource) (q : List ℕ) → row.path ≢ q → source_row_at (after t (put_source row)) q ≡ source_row_at t q
  source_put_beside row q differ = put_elsewhere bytes_cmp nat_list_cmp_total bytes_eq bytes_eq-Decides (λ (row : PlainSource). row.path) bytes_tied row t.sources q differ

  pub create_put : (row : PlainCreate) (q : List ℕ) → row.source ≡ q → create_row_at (after t (put_create row)) q ≡ Some row
  create_put row q e = put_there bytes_cmp nat_list_cmp_total bytes_eq bytes_eq-Decides (λ (row : PlainCreate). row.source) row t.creates q e

  pub create_put_beside : (row : PlainCreate) (q : List ℕ) → row.source ≢ q → create_row_at (after t (put_create row)) q ≡ create_row_at t q
  create_put_beside row q differ = put_elsewhere bytes_cmp nat_list_cmp_total bytes_eq bytes_eq-Decides (λ (row : PlainCreate). row.source) bytes_tied row t.creates q differ

  pub job_put : (row : PlainJob) (id : JobId) → row.id ≡ id → job_row_at (after t (put_job row)) id ≡ Some row
  job_put row id e = put_there job_cmp job_total same_job same_job-Decides (λ (row : PlainJob). row.id) row t.jobs id e

  pub job_put_beside : (row : PlainJob) (id : JobId) → row.id ≢ id → job_row_at (after t (put_job row)) id ≡ job_row_at t id
  job_put_beside row id differ = put_elsewhere job_cmp job_total same_job same_job-Decides (λ (row : PlainJob). row.id) job_tied row t.jobs id differ

  -- a source that goes

  module _ (p : List ℕ) where
    pub source_gone : source_row_at (after t (remove_source p)) p ≡ None
    source_gone = stopped bytes_cmp nat_list_cmp_total bytes_eq bytes_eq-Decides (λ (row : PlainSource). row.path) (λ row. not (bytes_eq row.path p)) p
        (λ row e. ap not ((bytes_eq-Decides row.path p).1 e)) t.sources

    pub source_beside_gone : (q : List ℕ) → p ≢ q → source_row_at (after t (remove_source p)) q ≡ source_row_at t q
    source_beside_gone q differ = passed bytes_cmp nat_list_cmp_total bytes_eq bytes_eq-Decides (λ (row : PlainSource). row.path) (λ row. not (bytes_eq row.path p)) q
        (λ row e. ap not (differ_eq row.path p (λ f. differ (sym f ∙ e)))) t.sources

    pub create_gone : create_row_at (after t (remove_source p)) p ≡ None
    create_gone = stopped bytes_cmp nat_list_cmp_total bytes_eq bytes_eq-Decides (λ (row : PlainCreate). row.source) (λ row. not (bytes_eq row.source p)) p
        (λ row e. ap not ((bytes_eq-Decides row.source p).1 e)) t.creates

    pub create_beside_gone : (q : List ℕ) → p ≢ q → create_row_at (after t (remove_source p)) q ≡ create_row_at t q
    create_beside_gone q differ = passed bytes_cmp nat_list_cmp_total bytes_eq bytes_eq-Decides (λ (row : PlainCreate). row.source) (λ row. not (bytes_eq row.source p)) q
        (λ row e. ap not (differ_eq row.source p (λ f. differ (sym f ∙ e)))) t.creates

    pub no_create_stays : (q : List ℕ) → create_row_at t q ≡ None → create_row_at (after t (remove_source p)) q ≡ None
    no_create_stays q none = still_none bytes_cmp nat_list_cmp_total bytes_eq bytes_eq-Decides (λ (row : PlainCreate). row.source) (λ row. not (bytes_eq row.source p)) q t.creates none

    pub job_gone : (id : JobId) → id.source ≡ p → job_row_at (after t (remove_source p)) id ≡ None
    job_gone id of = stopped job_cmp job_total same_job same_job-Decides (λ (row : PlainJob). row.id) (λ row. not (bytes_eq row.id.source p)) id
        (λ row e. ap not ((bytes_eq-Decides row.id.source p).1 (ap (λ (w : JobId). w.source) e ∙ of))) t.jobs

    pub job_beside_gone : (id : JobId) → p ≢ id.source → job_row_at (after t (remove_source p)) id ≡ job_row_at t id
    job_beside_gone id differ = passed job_cmp job_total same_job same_job-Decides (λ (row : PlainJob). row.id) (λ row. not (bytes_eq row.id.source p)) id
        (λ row e. ap not (differ_eq row.id.source p (λ f. differ (sym f ∙ ap (λ (w : JobId). w.source) e)))) t.jobs

    pub no_job_stays : (id : JobId) → job_row_at t id ≡ None → job_row_at (after t (remove_source p)) id ≡ None
    no_job_stays id none = still_none job_cmp job_total same_job same_job-Decides (λ (row : PlainJob). row.id) (λ row. not (bytes_eq row.id.source p)) id t.jobs none

  -- the jobs beside a put creation

  module _ (create : PlainCreate) where
    pub job_passes : (id : JobId) → ((row : PlainJob) → row.id ≡ id → stays_beside create row ≡ true) → job_row_at (after t (put_create create)) id ≡ job_row_at t id
    job_passes id through = passed job_cmp job_total same_job same_job-Decides (λ (row : PlainJob). row.id) (stays_beside create) id through t.jobs

    pub job_stops : (id : JobId) → ((row : PlainJob) → row.id ≡ id → stays_beside create row ≡ false) → job_row_at (after t (put_create create)) id ≡ None
    job_stops id against = stopped job_cmp job_total same_job same_job-Decides (λ (row : PlainJob). row.id) (stays_beside create) id against t.jobs

    pub no_job_beside : (id : JobId) → job_row_at t id ≡ None → job_row_at (after t (put_create create)) id ≡ None
    no_job_beside id none = still_none job_cmp job_total same_job same_job-Decides (λ (row : PlainJob). row.id) (stays_beside create) id t.jobs none

-- ---- changes in order

module _ {A : Type 0} (g : A → List Whole) where
  -- what each item's changes keep all keep
  pub kept_by_all : (Q : PlainTables → Type 0) (items : List A) → ((p : A) → Contains items p → (t : PlainTables) → Q t → Q (after_all t (g p))) → (t : PlainTables) → Q t → Q (after_all t (flat_map g items))
  kept_by_all Q [] each t q = q
  kept_by_all Q (p ∷ items) each t q = subst Q (sym (fold-append after t (g p) (flat_map g items)))
      (kept_by_all Q items (λ r has. each r (Contains-tail_of p items r has)) (after_all t (g p)) (each p (Contains-head p items) t q))

  -- what one item's changes reach and each item's keep all reach
  pub reached_by_one : (Q R : PlainTables → Type 0) (items : List A) (one : A) → Contains items one
      → ((p : A) → Contains items p → (t : PlainTables) → Q t → Q (after_all t (g p)))
      → ((p : A) → Contains items p → (t : PlainTables) → R t → R (after_all t (g p)))
      → ((t : PlainTables) → Q t → R (after_all t (g one)))
      → (t : PlainTables) → Q t → R (after_all t (flat_map g items))
  reached_by_one Q R [] one has keeps stays reaches t q = absurd (Contains-none one has)
  reached_by_one Q R (p ∷ items) one has keeps stays reaches t q = subst R (sym (fold-append after t (g p) (flat_map g items)))
      (⊎_elim
      (λ e. kept_by_all R items (λ r later. stays r (Contains-tail_of p items r later)) (after_all t (g p)) (subst (λ w. R (after_all t (g w))) (sym e) (reaches t q)))
      (λ later. reached_by_one Q R items one later (λ r more. keeps r (Contains-tail_of p items r more)) (λ r more. stays r (Contains-tail_of p items r more)) reaches (after_all t (g p)) (keeps p (Contains-head p items) t q))
      (Contains-cons_cases p items one has))

-- what each change keeps each front of them keeps
pub kept_by_fronts : (Q : PlainTables → Type 0) (changes : List Whole) → ((change : Whole) → Contains changes change → (t : PlainTables) → Q t → Q (after t change))
    → (k : ℕ) (t : PlainTables) → Q t → Q (after_all t (take k changes))
kept_by_fronts Q changes each zero t q = q
kept_by_fronts Q [] each (suc k) t q = q
kept_by_fronts Q (change ∷ changes) each (suc k) t q =
    kept_by_fronts Q changes (λ c has. each c (Contains-tail_of change changes c has)) k (after t change) (each change (Contains-head change changes) t q)

-- fronts of changes and of what follows them are fronts of both
pub fronts_joined : (Q : PlainTables → Type 0) (first others : List Whole) (t : PlainTables) → ((k : ℕ) → Q (after_all t (take k first))) → ((k : ℕ) → Q (after_all (after_all t first) (take k others)))
    → (k : ℕ) → Q (after_all t (take k (first ++ others)))
fronts_joined Q [] others t before behind k = behind k
fronts_joined Q (change ∷ first) others t before behind zero = before zero
fronts_joined Q (change ∷ first) others t before behind (suc k) = fronts_joined Q first others (after t change) (λ n. before (suc n)) behind k

-- and those of a front are fronts of the whole
pub fronts_of_front : (Q : PlainTables → Type 0) (given rest : List Whole) (t : PlainTables) → ((k : ℕ) → Q (after_all t (take k (given ++ rest)))) → (k : ℕ) → Q (after_all t (take k given))
fronts_of_front Q given rest t all zero = all zero
fronts_of_front Q [] rest t all (suc k) = all zero
fronts_of_front Q (change ∷ given) rest t all (suc k) = fronts_of_front Q given rest (after t change) (λ n. all (suc n)) k
