-- The ids of the jobs of a creation.
use Rattle.std.proofs.Common.{◌≡◌, ℕ, true, List, Contains, Option, Some, None, refl, sym, subst}
use Rattle.std.specs.Prelude.{is_some, map}
use Rattle.ap_text.specs.declared.job_id.JobId.{JobId}
use Rattle.ap_text.specs.JobOrder.{same_job}
use Rattle.ap_text.proofs.Members.{Contains-map, Contains-map_cases}
use Rattle.ap_rows.specs.declared.job.JobDesc.{JobDesc}
use Rattle.ap_rows.specs.declared.job.Created.{Created}
use Rattle.ap_rows.specs.declared.job.Created.TheVariants.{Jobs, Builder, DuplicateKey, TooLarge}
use Rattle.ap_rows.specs.Jobs.{Job, id_of, jobs_of, job_at, is_job}
use Rattle.ap_graph.proofs.IdOrder.{same_job-Decides}
use Rattle.ap_db.specs.Changes.{created_ids}
use Rattle.ap_engine.proofs.LookUps.{found_passes, passing_found}
use Rattle.ap_engine.proofs.MappedLists.{keys_of_images}

ids_are : (path : List ℕ) (created : Created) → created_ids path created ≡ map id_of (jobs_of path created)
ids_are path (Jobs jobs) = sym (keys_of_images id_of (λ (desc : JobDesc). record { source = path; desc = desc }) jobs)
ids_are path (Builder builder code) = refl
ids_are path (DuplicateKey key platform) = refl
ids_are path TooLarge = refl

-- the id of a job is created with it, and each id that is created is a job's
pub id_created : (path : List ℕ) (created : Created) (job : Job) → Contains (jobs_of path created) job → Contains (created_ids path created) (id_of job)
id_created path created job among = subst (λ ids. Contains ids (id_of job)) (sym (ids_are path created)) (Contains-map id_of (jobs_of path created) job among)

pub job_created : (path : List ℕ) (created : Created) (id : JobId) → Contains (created_ids path created) id → (job : Job) × Contains (jobs_of path created) job × (id_of job ≡ id)
job_created path created id has = Contains-map_cases id_of (jobs_of path created) id (subst (λ ids. Contains ids id) (ids_are path created) has)

-- an id of jobs is that of one of them, and the other way round
pub job_of_id : (jobs : List Job) (id : JobId) → is_job jobs id ≡ true → (job : Job) × Contains jobs job × (id_of job ≡ id)
job_of_id jobs id is = by_case (job_at jobs id) refl is
  where
    by_case : (found : Option Job) → job_at jobs id ≡ found → is_some found ≡ true → (job : Job) × Contains jobs job × (id_of job ≡ id)
    by_case None e is = absurd (cc is)
    by_case (Some job) e is = let passes = found_passes (λ job. same_job (id_of job) id) jobs job e in (job, passes.0, (same_job-Decides (id_of job) id).0 passes.1)

pub is_id_of : (jobs : List Job) (job : Job) → Contains jobs job → is_job jobs (id_of job) ≡ true
is_id_of jobs job has = passing_found (λ other. same_job (id_of other) (id_of job)) jobs job has ((same_job-Decides (id_of job) (id_of job)).1 refl)
