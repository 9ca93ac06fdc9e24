-- The files and the ids of jobs' products, row by row.
use Rattle.std.proofs.Common.{◌≡◌, ◌≤◌, ◌&&◌, ℕ, Bool, true, List, [], ◌∷◌, ◌++◌, map, length, get_or, refl, sym, ◌∙◌, ap, subst, arith, append_assoc}
use Rattle.std.specs.Prelude.{Option}
use Rattle.std.specs.List.{flat_map, list_all}
use Rattle.std.proofs.lemmas.List.{map-append}
use Rattle.ap_content.specs.Entries.{Entry}
use Rattle.ap_rows.specs.declared.row.JobRow.{JobRow}
use Rattle.ap_db.specs.declared.things.FileThing.{FileThing}
use Rattle.ap_db.specs.Listed.{AreAll}
use Rattle.ap_db.specs.States.{Names, JobIs}
use Rattle.ap_db.specs.Tables.{PlainJob}
use Rattle.ap_scan.specs.Winners.{Files}
use Rattle.ap_cli.specs.Layout.{files_in, products_recorded, has_one_product}
use Rattle.ap_engine.proofs.SliceSteps.{after, after-cons}
use Rattle.ap_cli.specs.ProductIds.{ProductId, ids_in, plain_id}
use Rattle.ap_cli.specs.declared.layout.ProductId.{ProductId as BorrowedId}

-- the files of a job
abbrev pub job_files : PlainJob → Files
job_files job = files_in job.id (products_recorded job.result)

-- and their ids
abbrev pub job_ids : PlainJob → List ProductId
job_ids job = ids_in job.id (products_recorded job.result)

-- it made just one
abbrev pub made_one : PlainJob → Bool
made_one job = has_one_product job.result

module _ (things : List (Option FileThing)) (contents : List (Option Entry)) (jobs : List PlainJob) where
  -- these rows are left of those of the jobs, behind these files with these ids
  pub record AreLeft (files : Files) (ids : List BorrowedId) (rows : List JobRow) : Type 0 where
    pub rest : List PlainJob
    pub are : AreAll (JobIs (Names things contents)) rows rest
    pub laid : files ++ flat_map job_files rest ≡ flat_map job_files jobs
    pub named : map plain_id ids ++ flat_map job_ids rest ≡ flat_map job_ids jobs
    pub made : list_all made_one rest ≡ list_all made_one jobs

  first_made : (one all : Bool) → one ≡ true → (one && all) ≡ all
  first_made one all is = rw is refl

  -- one more stands behind those that stand
  one_more : {X : Type 0} (of_job : PlainJob → List X) (so_far so_far' : List X) (x : X) (job : PlainJob) (rest : List PlainJob) → so_far' ≡ so_far ++ x ∷ [] → of_job job ≡ x ∷ []
      → so_far ++ flat_map of_job (job ∷ rest) ≡ flat_map of_job jobs → so_far' ++ flat_map of_job rest ≡ flat_map of_job jobs
  one_more of_job so_far so_far' x job rest gained is all =
      ap (λ l. l ++ flat_map of_job rest) gained ∙ append_assoc so_far (x ∷ []) (flat_map of_job rest) ∙ ap (λ l. so_far ++ (l ++ flat_map of_job rest)) (sym is) ∙ all

  -- the product of the first row is laid
  pub one_laid : (files files' : Files) (ids ids' : List BorrowedId) (file : List ℕ × List ℕ) (id : BorrowedId) (rows : List JobRow) (row : JobRow) → 1 ≤ length rows → row ≡ get_or rows 0 row
      → files' ≡ files ++ file ∷ [] → ids' ≡ ids ++ id ∷ [] → ((job : PlainJob) → JobIs (Names things contents) row job → job_files job ≡ file ∷ [])
      → ((job : PlainJob) → JobIs (Names things contents) row job → job_ids job ≡ plain_id id ∷ []) → ((job : PlainJob) → JobIs (Names things contents) row job → made_one job ≡ true)
      → AreLeft files ids rows → AreLeft files' ids' (after rows)
  one_laid files files' ids ids' file id [] row some is gained gained_id laid laid_id made left = absurd (omega (arith, some))
  one_laid files files' ids ids' file id (first ∷ rows) row some is gained gained_id laid laid_id made left = by_rest left.rest left.are left.laid left.named left.made
    where
      by_rest : (rest : List PlainJob) → AreAll (JobIs (Names things contents)) (first ∷ rows) rest → files ++ flat_map job_files rest ≡ flat_map job_files jobs
          → map plain_id ids ++ flat_map job_ids rest ≡ flat_map job_ids jobs → list_all made_one rest ≡ list_all made_one jobs → AreLeft files' ids' (after (first ∷ rows))
      by_rest [] are so_far ids_so_far all = absurd are
      by_rest (job ∷ rest) are so_far ids_so_far all =
          let one : JobIs (Names things contents) row job = subst (λ (r : JobRow). JobIs (Names things contents) r job) (sym is) are.0 in
          record {
            rest = rest;
            are = subst (λ (l : List JobRow). AreAll (JobIs (Names things contents)) l rest) (sym (after-cons first rows)) are.1;
            laid = one_more job_files files files' file job rest gained (laid job one) so_far;
            named = one_more job_ids (map plain_id ids) (map plain_id ids') (plain_id id) job rest (ap (map plain_id) gained_id ∙ map-append plain_id ids (id ∷ [])) (laid_id job one) ids_so_far;
            made = sym (first_made (made_one job) (list_all made_one rest) (made job one)) ∙ all;
          }
