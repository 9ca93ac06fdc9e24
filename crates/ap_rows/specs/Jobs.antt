-- Created jobs by their ids.
use Rattle.std.specs.Prelude.{ℕ, Bool, List, [], map, find, Option, is_some}
use Rattle.ap_text.specs.declared.job_id.JobId.{JobId}
use Rattle.ap_text.specs.JobOrder.{same_job}
use Rattle.ap_rows.specs.declared.job.JobDesc.{JobDesc}
use Rattle.ap_rows.specs.declared.job.Created.{Created}
use Rattle.ap_rows.specs.declared.job.Created.TheVariants.{Jobs, Builder, DuplicateKey, TooLarge}

-- a job of a source
pub record Job : Type 0 where
  pub source : List ℕ
  pub desc : JobDesc

-- the id of a job
abbrev pub id_of : Job → JobId
id_of job = record { source = job.source; key = job.desc.key; platform = job.desc.platform }

-- the jobs of a creation
abbrev pub jobs_of : List ℕ → Created → List Job
jobs_of path (Jobs jobs) = map (λ desc. record { source = path; desc = desc }) jobs
jobs_of path (Builder builder code) = []
jobs_of path (DuplicateKey key platform) = []
jobs_of path TooLarge = []

-- the job of an id
abbrev pub job_at : List Job → JobId → Option Job
job_at jobs id = find (λ job. same_job (id_of job) id) jobs

-- an id is that of a job
abbrev pub is_job : List Job → JobId → Bool
is_job jobs id = is_some (job_at jobs id)
