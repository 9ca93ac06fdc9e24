-- The items that remove rows say the removals of plain rows.
use Rattle.std.proofs.Common.{◌≡◌, ℕ, Bool, true, false, not, ◌&&◌, ◌||◌, cond, List, [], ◌∷◌, ◌++◌, map, filter, find, Some, is_some, bytes_eq, refl, sym, ◌∙◌, ap, subst}
use Rattle.std.specs.declared.cmp.Ordering.{Ordering}
use Rattle.std.specs.declared.cmp.Ordering.TheVariants.{Less, Equal, Greater}
use Rattle.std.specs.Ordering.{is_eq, ordering_then}
use Rattle.std.proofs.lemmas.Map.Text.{is_eq-slice_cmp}
use Rattle.std.proofs.lemmas.Slice.Eq.{bytes_eq-Decides}
use Rattle.ap_text.specs.Order.{bytes_cmp}
use Rattle.ap_text.specs.JobOrder.{same_job}
use Rattle.ap_text.specs.declared.job_id.JobId.{JobId}
use Rattle.ap_content.specs.Things.{Thing}
use Rattle.ap_content.specs.declared.node.Number.{Number}
use Rattle.ap_rows.specs.declared.change.Item.TheVariants.{PutCreate, RemoveSource, RemoveJob}
use Rattle.ap_rows.specs.declared.job.JobDesc.{JobDesc}
use Rattle.ap_rows.specs.declared.job.Created.{Created}
use Rattle.ap_rows.specs.declared.job.Created.TheVariants.{Jobs, Builder, DuplicateKey, TooLarge}
use Rattle.ap_rows.specs.declared.row.CreateRow.{CreateRow}
use Rattle.ap_rows.specs.declared.row.JobRow.{JobRow}
use Rattle.ap_db.specs.Changes.{id_of, created_ids, stays_beside, remove_source, put_create, create_row_at}
use Rattle.ap_db.specs.Listed.{AreAll}
use Rattle.ap_db.specs.Said.{ItemIs}
use Rattle.ap_db.specs.States.{CreateIs, JobIs}
use Rattle.ap_db.specs.Tables.{PlainCreate, PlainJob, PlainTables}
use Rattle.ap_db.specs.WholeItems.{removal_of, job_removals, items_of}
use Rattle.ap_engine.specs.Removals.{is_job_of, jobs_created, removals, creation_removed}

module _ {X Y : Type 0} (Is : X → Y → Type 0) where
  both_all : (xs more : List X) (ys others : List Y) → AreAll Is xs ys → AreAll Is more others → AreAll Is (xs ++ more) (ys ++ others)
  both_all [] more [] others one two = two
  both_all [] more (y ∷ ys) others one two = absurd one
  both_all (x ∷ xs) more [] others one two = absurd one
  both_all (x ∷ xs) more (y ∷ ys) others one two = (one.0, both_all xs more ys others one.1 two)

both_filters : {X : Type 0} (a b : X → Bool) (xs : List X) → filter a (filter b xs) ≡ filter (λ x. b x && a x) xs
both_filters a b [] = refl
both_filters a b (x ∷ xs) = step (b x) (both_filters a b xs)
  where
    step : (t : Bool) → filter a (filter b xs) ≡ filter (λ x. b x && a x) xs → filter a (cond t (x ∷ filter b xs) (filter b xs)) ≡ cond (t && a x) (x ∷ filter (λ x. b x && a x) xs) (filter (λ x. b x && a x) xs)
    step true rest = ap (λ l. cond (a x) (x ∷ l) l) rest
    step false rest = rest

-- ---- the ids of created jobs

both_equal : (a b : Ordering) → is_eq (ordering_then a b) ≡ (is_eq a && is_eq b)
both_equal Less b = refl
both_equal Equal b = refl
both_equal Greater b = refl

same_in_source : (source : List ℕ) (job : JobDesc) (id : JobId) → id.source ≡ source → same_job (id_of source job) id ≡ (bytes_eq job.key id.key && bytes_eq job.platform id.platform)
same_in_source source job id is =
    both_equal (bytes_cmp source id.source) (ordering_then (bytes_cmp job.key id.key) (bytes_cmp job.platform id.platform))
    ∙ ap (λ (b : Bool). b && is_eq (ordering_then (bytes_cmp job.key id.key) (bytes_cmp job.platform id.platform))) (is_eq-slice_cmp source id.source ∙ (bytes_eq-Decides source id.source).1 (sym is))
    ∙ both_equal (bytes_cmp job.key id.key) (bytes_cmp job.platform id.platform)
    ∙ ap (λ (b : Bool). b && is_eq (bytes_cmp job.platform id.platform)) (is_eq-slice_cmp job.key id.key)
    ∙ ap (λ (b : Bool). bytes_eq job.key id.key && b) (is_eq-slice_cmp job.platform id.platform)

found_job : (source : List ℕ) (jobs : List JobDesc) (id : JobId) → id.source ≡ source → is_some (find (λ other. same_job other id) (map (id_of source) jobs)) ≡ is_job_of jobs id
found_job source [] id is = refl
found_job source (job ∷ jobs) id is =
    ap (λ (b : Bool). is_some (cond b (Some (id_of source job)) (find (λ other. same_job other id) (map (id_of source) jobs)))) (same_in_source source job id is)
    ∙ step (bytes_eq job.key id.key && bytes_eq job.platform id.platform) (found_job source jobs id is)
  where
    step : (t : Bool) → is_some (find (λ other. same_job other id) (map (id_of source) jobs)) ≡ is_job_of jobs id
        → is_some (cond t (Some (id_of source job)) (find (λ other. same_job other id) (map (id_of source) jobs))) ≡ (t || is_job_of jobs id)
    step true rest = refl
    step false rest = rest

found_created : (source : List ℕ) (created : Created) (id : JobId) → id.source ≡ source → is_some (find (λ other. same_job other id) (created_ids source created)) ≡ is_job_of (jobs_created created) id
found_created source (Jobs jobs) id is = found_job source jobs id is
found_created source (Builder builder code) id is = refl
found_created source (DuplicateKey key platform) id is = refl
found_created source TooLarge id is = refl

-- a row goes with a creation where it is of the source and of none of its jobs
goes : (create : PlainCreate) (row : PlainJob) → (bytes_eq row.id.source create.source && not (is_job_of (jobs_created create.created) row.id)) ≡ not (stays_beside create row)
goes create row = step (bytes_eq row.id.source create.source) refl
  where
    step : (t : Bool) → bytes_eq row.id.source create.source ≡ t
        → (t && not (is_job_of (jobs_created create.created) row.id)) ≡ not (not t || is_some (find (λ id. same_job id row.id) (created_ids create.source create.created)))
    step true is = ap not (sym (found_created create.source create.created row.id ((bytes_eq-Decides row.id.source create.source).0 is)))
    step false is = refl

module _ (N Names : Number → Thing → Type 0) where
  -- ---- job rows

  gone_rows : (p : JobId → Bool) (q : PlainJob → Bool) → ((plain : PlainJob) → p plain.id ≡ q plain) → (rows : List JobRow) (plains : List PlainJob) → AreAll (JobIs Names) rows plains
      → AreAll (ItemIs N) (map (λ (row : JobRow). RemoveJob row.id) (filter (λ (row : JobRow). p row.id) rows)) (job_removals (filter q plains))
  gone_rows p q same [] [] are = tt
  gone_rows p q same [] (plain ∷ plains) are = absurd are
  gone_rows p q same (row ∷ rows) [] are = absurd are
  gone_rows p q same (row ∷ rows) (plain ∷ plains) are =
      subst (λ (b : Bool). AreAll (ItemIs N) (map (λ (row : JobRow). RemoveJob row.id) (cond b (row ∷ filter (λ (row : JobRow). p row.id) rows) (filter (λ (row : JobRow). p row.id) rows))) (job_removals (filter q (plain ∷ plains))))
      (sym (ap p are.0.id ∙ same plain)) (step (q plain) (gone_rows p q same rows plains are.1))
    where
      step : (b : Bool) → AreAll (ItemIs N) (map (λ (row : JobRow). RemoveJob row.id) (filter (λ (row : JobRow). p row.id) rows)) (job_removals (filter q plains))
          → AreAll (ItemIs N) (map (λ (row : JobRow). RemoveJob row.id) (cond b (row ∷ filter (λ (row : JobRow). p row.id) rows) (filter (λ (row : JobRow). p row.id) rows))) (job_removals (cond b (plain ∷ filter q plains) (filter q plains)))
      step true rest = (are.0.id, rest)
      step false rest = rest

  -- ---- the row of a creation

  gone_creation : (path : List ℕ) (rows : List CreateRow) (plains : List PlainCreate) → AreAll (CreateIs Names) rows plains
      → AreAll (ItemIs N) (creation_removed path (find (λ row. bytes_eq row.source path) rows)) (removal_of (find (λ row. bytes_eq row.source path) plains))
  gone_creation path [] [] are = tt
  gone_creation path [] (plain ∷ plains) are = absurd are
  gone_creation path (row ∷ rows) [] are = absurd are
  gone_creation path (row ∷ rows) (plain ∷ plains) are =
      subst (λ (b : Bool). AreAll (ItemIs N) (creation_removed path (cond b (Some row) (find (λ row. bytes_eq row.source path) rows))) (removal_of (find (λ row. bytes_eq row.source path) (plain ∷ plains))))
      (sym (ap (λ (s : List ℕ). bytes_eq s path) are.0.source)) (step (bytes_eq plain.source path) refl (gone_creation path rows plains are.1))
    where
      step : (b : Bool) → bytes_eq plain.source path ≡ b → AreAll (ItemIs N) (creation_removed path (find (λ row. bytes_eq row.source path) rows)) (removal_of (find (λ row. bytes_eq row.source path) plains))
          → AreAll (ItemIs N) (creation_removed path (cond b (Some row) (find (λ row. bytes_eq row.source path) rows))) (removal_of (cond b (Some plain) (find (λ row. bytes_eq row.source path) plains)))
      step true is rest = (sym ((bytes_eq-Decides plain.source path).0 is), tt)
      step false is rest = rest

  -- ---- whole changes

  module _ (tables : PlainTables) (jobs : List JobRow) (are : AreAll (JobIs Names) jobs tables.jobs) where
    pub says_create : (row : CreateRow) (plain : PlainCreate) → CreateIs N row plain
        → AreAll (ItemIs N) (PutCreate row ∷ removals row.source (jobs_created row.created) jobs) (items_of tables (put_create plain))
    unfolding items_of
    says_create row plain is = (
      is,
      subst (λ items. AreAll (ItemIs N) items (job_removals (filter (λ job. not (stays_beside plain job)) tables.jobs))) (sym same)
          (gone_rows (λ id. bytes_eq id.source plain.source && not (is_job_of (jobs_created plain.created) id)) (λ job. not (stays_beside plain job)) (goes plain) jobs tables.jobs are),
    )
      where
        same : removals row.source (jobs_created row.created) jobs
            ≡ map (λ (job : JobRow). RemoveJob job.id) (filter (λ (job : JobRow). bytes_eq job.id.source plain.source && not (is_job_of (jobs_created plain.created) job.id)) jobs)
        same = ap (λ (s : List ℕ). removals s (jobs_created row.created) jobs) is.source ∙ ap (λ (created : Created). removals plain.source (jobs_created created) jobs) is.created
            ∙ ap (map (λ (job : JobRow). RemoveJob job.id)) (both_filters (λ (job : JobRow). not (is_job_of (jobs_created plain.created) job.id)) (λ (job : JobRow). bytes_eq job.id.source plain.source) jobs)

    pub says_gone : (path : List ℕ) (creates : List CreateRow) → AreAll (CreateIs Names) creates tables.creates
        → AreAll (ItemIs N) (RemoveSource path ∷ (creation_removed path (find (λ row. bytes_eq row.source path) creates) ++ removals path [] jobs)) (items_of tables (remove_source path))
    unfolding items_of
    says_gone path creates both = (
      refl,
      both_all (ItemIs N) (creation_removed path (find (λ row. bytes_eq row.source path) creates)) (removals path [] jobs)
          (removal_of (create_row_at tables path)) (job_removals (filter (λ row. bytes_eq row.id.source path) tables.jobs)) (gone_creation path creates tables.creates both)
          (subst (λ items. AreAll (ItemIs N) items (job_removals (filter (λ row. bytes_eq row.id.source path) tables.jobs))) (sym same)
          (gone_rows (λ id. bytes_eq id.source path && true) (λ row. bytes_eq row.id.source path) (λ plain. and_true (bytes_eq plain.id.source path)) jobs tables.jobs are)),
    )
      where
        and_true : (b : Bool) → (b && true) ≡ b
        and_true true = refl
        and_true false = refl

        same : removals path [] jobs ≡ map (λ (job : JobRow). RemoveJob job.id) (filter (λ (job : JobRow). bytes_eq job.id.source path && true) jobs)
        same = ap (map (λ (job : JobRow). RemoveJob job.id)) (both_filters (λ (job : JobRow). not (is_job_of [] job.id)) (λ (job : JobRow). bytes_eq job.id.source path) jobs)
