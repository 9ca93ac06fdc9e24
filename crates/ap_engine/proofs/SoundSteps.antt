-- Whole changes that leave sound tables sound.
use Rattle.std.proofs.Common.{◌≡◌, ◌≢◌, ◌⊎◌, ◌||◌, ℕ, true, not, List, [], ◌∷◌, Contains, Option, Some, None, refl, sym, ◌∙◌, ap, subst, ⊎_elim}
use Rattle.std.specs.Prelude.{bytes_eq, is_some, find, option_map, IsSome}
use Rattle.std.specs.declared.cmp.Ordering.{Ordering}
use Rattle.std.specs.declared.cmp.Ordering.TheVariants.{Less, Equal, Greater}
use Rattle.std.specs.Ordering.{match_ordering}
use Rattle.std.proofs.lemmas.Slice.Eq.{bytes_eq-Decides}
use Rattle.ap_content.proofs.Members.{Contains-filter, Contains-filtered}
use Rattle.ap_text.specs.declared.job_id.JobId.{JobId}
use Rattle.ap_text.specs.Order.{put_in_order}
use Rattle.ap_text.specs.JobOrder.{same_job}
use Rattle.ap_text.proofs.Members.{Contains-none, Contains-cons_cases, Contains-head, Contains-tail_of}
use Rattle.ap_rows.specs.declared.job.JobDesc.{JobDesc}
use Rattle.ap_rows.specs.declared.job.Created.{Created}
use Rattle.ap_rows.specs.declared.job.Created.TheVariants.{Jobs, Builder, DuplicateKey, TooLarge}
use Rattle.ap_rows.specs.Jobs.{Job, id_of as id_of_job, jobs_of, is_job}
use Rattle.ap_builder.specs.Meanings.{Meanings}
use Rattle.ap_db.specs.Tables.{PlainSource, PlainCreate, PlainJob, PlainTables}
use Rattle.ap_db.specs.Changes.{Whole, put_folders, put_source, remove_source, put_create, put_job, create_cmp, job_row_cmp, id_of, created_ids, stays_beside, after, source_row_at}
use Rattle.ap_engine.specs.Sound.{IsCreation, IsProcessing, HasCreation, AreSoundTables}
use Rattle.ap_engine.proofs.RisingLists.{put_cases}
use Rattle.ap_engine.proofs.MappedLists.{find_image}
use Rattle.ap_engine.proofs.Steps.{bytes_tied, one_or_two, source_put, source_put_beside, source_beside_gone}

module _ {X : Type 0} (cmp : X → X → Ordering) where
  pub put_is_there : (x : X) (ys : List X) → Contains (put_in_order cmp x ys) x
  put_is_there x [] = Contains-head x []
  put_is_there x (y ∷ ys) = by_case (cmp x y) (put_is_there x ys)
    where
      by_case : (c : Ordering) → Contains (put_in_order cmp x ys) x → Contains (match_ordering c (x ∷ y ∷ ys) (x ∷ ys) (y ∷ put_in_order cmp x ys)) x
      by_case Less more = Contains-head x (y ∷ ys)
      by_case Equal more = Contains-head x ys
      by_case Greater more = Contains-tail_of y (put_in_order cmp x ys) x more

  -- what has another rank stays
  pub others_stay : (x q : X) (ys : List X) → cmp x q ≢ Equal → Contains ys q → Contains (put_in_order cmp x ys) q
  others_stay x q [] differ h = absurd (Contains-none q h)
  others_stay x q (y ∷ ys) differ h = by_case (cmp x y) refl (Contains-cons_cases y ys q h) (others_stay x q ys differ)
    where
      by_case : (c : Ordering) → cmp x y ≡ c → (y ≡ q) ⊎ Contains ys q → (Contains ys q → Contains (put_in_order cmp x ys) q) →
          Contains (match_ordering c (x ∷ y ∷ ys) (x ∷ ys) (y ∷ put_in_order cmp x ys)) q
      by_case Less e k more = Contains-tail_of x (y ∷ ys) q h
      by_case Equal e k more = ⊎_elim (λ s. absurd (differ (subst (λ w. cmp x w ≡ Equal) s e))) (λ later. Contains-tail_of x ys q later) k
      by_case Greater e k more = ⊎_elim (λ s. subst (λ w. Contains (y ∷ put_in_order cmp x ys) w) s (Contains-head y (put_in_order cmp x ys))) (λ later. Contains-tail_of y (put_in_order cmp x ys) q (more later)) k

is_some_image : {X Y : Type 0} (f : X → Y) (found : Option X) → is_some (option_map f found) ≡ is_some found
is_some_image f None = refl
is_some_image f (Some x) = refl

-- an id is one of those created where it is that of a created job
pub created_id_is_job : (path : List ℕ) (answer : Created) (id : JobId) → is_some (find (λ other. same_job other id) (created_ids path answer)) ≡ is_job (jobs_of path answer) id
created_id_is_job path (Jobs jobs) id =
    ap is_some (find_image (λ other. same_job other id) (id_of path) jobs) ∙ is_some_image (id_of path) (find (λ desc. same_job (id_of path desc) id) jobs)
    ∙ sym (ap is_some (find_image (λ (job : Job). same_job (id_of_job job) id) (λ (desc : JobDesc). record { source = path; desc = desc }) jobs)
    ∙ is_some_image (λ (desc : JobDesc). record { source = path; desc = desc }) (find (λ desc. same_job (id_of path desc) id) jobs))
created_id_is_job path (Builder builder code) id = refl
created_id_is_job path (DuplicateKey key platform) id = refl
created_id_is_job path TooLarge id = refl

not_true_differs : (a b : List ℕ) → not (bytes_eq a b) ≡ true → a ≢ b
not_true_differs a b h e = cc (sym h ∙ ap not ((bytes_eq-Decides a b).1 e))

-- the change is of folder rows or of a source
abbrev pub IsOfSources : Whole → Type 0
IsOfSources (put_folders rows) = Unit {0}
IsOfSources (put_source row) = Unit {0}
IsOfSources (remove_source path) = Unit {0}
IsOfSources (put_create row) = ⊥
IsOfSources (put_job row) = ⊥

module _ (builders : Meanings) (t : PlainTables) (sound : AreSoundTables builders t) where
  -- the creation of a job's row is there in other tables too
  creation_in : (u : PlainTables) (row : PlainJob) (has : HasCreation t row) → Contains u.creates has.create → HasCreation u row
  creation_in u row has there = record { create = has.create; there = there; same = has.same; among = has.among }

  still_sourced : (row : PlainSource) (q : List ℕ) → IsSome (source_row_at t q) → IsSome (source_row_at (after t (put_source row)) q)
  still_sourced row q is = ⊎_elim (λ same. ap is_some (source_put t row q same)) (λ differ. ap is_some (source_put_beside t row q differ) ∙ is) (one_or_two row.path q)

  pub sound_after_sources : (change : Whole) → IsOfSources change → AreSoundTables builders (after t change)
  sound_after_sources (put_folders rows) of = record {
    creations = sound.creations;
    processings = sound.processings;
    sources = sound.sources;
    jobs = λ row has. let of = sound.jobs row has in creation_in (after t (put_folders rows)) row of of.there;
  }
  sound_after_sources (put_source source) of = record {
    creations = sound.creations;
    processings = sound.processings;
    sources = λ row has. still_sourced source row.source (sound.sources row has);
    jobs = λ row has. let of = sound.jobs row has in creation_in (after t (put_source source)) row of of.there;
  }
  sound_after_sources (remove_source path) of = record {
    creations = λ row has. sound.creations row (Contains-filtered (λ (row : PlainCreate). not (bytes_eq row.source path)) t.creates row has).0;
    processings = λ row has. sound.processings row (Contains-filtered (λ (row : PlainJob). not (bytes_eq row.id.source path)) t.jobs row has).0;
    sources = λ row has.
        let r = Contains-filtered (λ (row : PlainCreate). not (bytes_eq row.source path)) t.creates row has in
        ap is_some (source_beside_gone t path row.source (λ e. not_true_differs row.source path r.1 (sym e))) ∙ sound.sources row r.0;
    jobs = λ row has.
        let r = Contains-filtered (λ (row : PlainJob). not (bytes_eq row.id.source path)) t.jobs row has in
        let of = sound.jobs row r.0 in
        creation_in (after t (remove_source path)) row of
        (Contains-filter (λ (row : PlainCreate). not (bytes_eq row.source path)) t.creates of.create (ap (λ p. not (bytes_eq p path)) of.same ∙ r.1) of.there);
  }
  sound_after_sources (put_create row) of = absurd of
  sound_after_sources (put_job row) of = absurd of

  -- a creation of a source that is there, with what is created of its input
  module _ (create : PlainCreate) (is : IsCreation builders create) (sourced : IsSome (source_row_at t create.source)) where
    created_beside : (row : PlainJob) → row.id.source ≡ create.source → stays_beside create row ≡ true → is_job (jobs_of create.source create.created) row.id ≡ true
    created_beside row of stays =
        sym (created_id_is_job create.source create.created row.id)
        ∙ sym (ap (λ b. not b || is_some (find (λ id. same_job id row.id) (created_ids create.source create.created))) ((bytes_eq-Decides row.id.source create.source).1 of))
        ∙ stays

    pub sound_after_create : AreSoundTables builders (after t (put_create create))
    sound_after_create = record {
      creations = λ row has. ⊎_elim (λ e. subst (IsCreation builders) e is) (λ before. sound.creations row before) (put_cases create_cmp create row t.creates has);
      processings = λ row has. sound.processings row (Contains-filtered (stays_beside create) t.jobs row has).0;
      sources = λ row has. ⊎_elim (λ e. subst (λ (w : PlainCreate). IsSome (source_row_at t w.source)) e sourced) (λ before. sound.sources row before) (put_cases create_cmp create row t.creates has);
      jobs = λ row has.
          let r = Contains-filtered (stays_beside create) t.jobs row has in
          let of = sound.jobs row r.0 in
          ⊎_elim
          (λ same. record { create = create; there = put_is_there create_cmp create t.creates; same = same ∙ of.same; among = created_beside row (sym (same ∙ of.same)) r.1 })
          (λ differ. creation_in (after t (put_create create)) row of (others_stay create_cmp create of.create t.creates (λ e. differ (bytes_tied create.source of.create.source e)) of.there))
          (one_or_two create.source of.create.source);
    }

  -- a row of a job that was created, with what is made of its input
  pub sound_after_job : (job : PlainJob) → IsProcessing builders job.result → HasCreation t job → AreSoundTables builders (after t (put_job job))
  sound_after_job job is of = record {
    creations = sound.creations;
    processings = λ row has. ⊎_elim (λ e. subst (λ (w : PlainJob). IsProcessing builders w.result) e is) (λ before. sound.processings row before) (put_cases job_row_cmp job row t.jobs has);
    sources = sound.sources;
    jobs = λ row has. ⊎_elim
        (λ e. subst (HasCreation (after t (put_job job))) e (creation_in (after t (put_job job)) job of of.there))
        (λ before. let has = sound.jobs row before in creation_in (after t (put_job job)) row has has.there)
        (put_cases job_row_cmp job row t.jobs has);
  }
