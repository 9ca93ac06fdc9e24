-- Which created job depends on which, and cycles of them.
use Rattle.std.specs.Prelude.{Bool, List, [], length, map, filter, Option, Some, None}
use Rattle.std.specs.List.{list_any}
use Rattle.ap_text.specs.declared.job_id.JobId.{JobId}
use Rattle.ap_text.specs.JobOrder.{same_job}
use Rattle.ap_rows.specs.Jobs.{Job, job_at, is_job}
use Rattle.ap_text.specs.Chain.{ends}

-- the dependencies of a job that are jobs
abbrev pub edges_of : List Job → Option Job → List JobId
edges_of jobs None = []
edges_of jobs (Some job) = filter (is_job jobs) (map (λ dep. dep.job) job.desc.deps)

-- the jobs that a job depends on, in any way
abbrev pub edges_among : List Job → JobId → List JobId
edges_among jobs id = edges_of jobs (job_at jobs id)

-- a chain of one or more edges leads from the job to itself: a cycle passes no job twice
abbrev pub is_cyclic : List Job → JobId → Bool
is_cyclic jobs id = list_any (same_job id) (ends (edges_among jobs) (length jobs) id)
