-- What each job comes to, by recursion on a number.
use Rattle.std.specs.Prelude.{ℕ, zero, suc, Bool, true, false, not, List, [], ◌∷◌, length, map, filter, find, Option, Some, None, option_map, option_and_then}
use Rattle.ap_text.specs.declared.job_id.JobId.{JobId}
use Rattle.ap_content.specs.Things.{Thing}
use Rattle.ap_config.specs.declared.config.Config.{Config}
use Rattle.ap_scan.specs.declared.results.Winner.{Winner}
use Rattle.ap_rows.specs.declared.job.DepKind.{DepKind}
use Rattle.ap_rows.specs.declared.job.DepKind.TheVariants.{Order, OrderOnce, Fingerprint}
use Rattle.ap_rows.specs.declared.job.DependencyRow.{DependencyRow}
use Rattle.ap_rows.specs.Inputs.{PlainProduct, HandedOver, ByOrder, ByFingerprint, MadeFrom, input_thing}
use Rattle.ap_rows.specs.Jobs.{Job, id_of, job_at, is_job}
use Rattle.ap_builder.specs.declared.work.Outcome.{Outcome}
use Rattle.ap_builder.specs.declared.work.Outcome.TheVariants.{Done, Failed}
use Rattle.ap_builder.specs.Meanings.{Meanings}
use Rattle.ap_builder.specs.Views.{plain_of, job_view}
use Rattle.ap_graph.specs.Edges.{is_cyclic}
use Rattle.ap_sources.specs.Sources.{content_at_path, reached}
use Rattle.ap_create.specs.Creation.{all_jobs}

-- what a job comes to: `answered` is the builder's answer, with what the job is made from
pub data Verdict : Type 0 where
  cycle : Verdict
  missing : JobId → Verdict
  dep_failed : JobId → Verdict
  answered : MadeFrom → Outcome → Verdict

-- a dependency of this kind hands something over, and is waited for
abbrev pub hands_over : DepKind → Bool
hands_over Order = true
hands_over OrderOnce = false
hands_over Fingerprint = true

-- the Order and Fingerprint dependencies of a job, in its order
abbrev pub handing : Job → List DependencyRow
handing job = filter (λ dep. hands_over dep.kind) job.desc.deps

-- what a dependency of this kind hands over of a job that was made so
abbrev pub handed_as : DepKind → JobId → MadeFrom → List PlainProduct → HandedOver
handed_as Fingerprint job from products = ByFingerprint job (input_thing from) products
handed_as Order job from products = ByOrder job products
handed_as OrderOnce job from products = ByOrder job products

-- what a dependency hands over, where its verdict is Done
abbrev pub handed_by : DependencyRow → Verdict → Option HandedOver
handed_by dep cycle = None
handed_by dep (missing d) = None
handed_by dep (dep_failed d) = None
handed_by dep (answered from (Failed code)) = None
handed_by dep (answered from (Done products)) = Some (handed_as dep.kind dep.job from (map plain_of products))

-- what all of them hand over, or the first that isn't Done
pub data Handing : Type 0 where
  all_handed : List HandedOver → Handing
  not_done : JobId → Handing

-- one dependency before those behind it: the first that isn't done counts
abbrev pub with_first : JobId → Option HandedOver → Handing → Handing
with_first job None rest = not_done job
with_first job (Some handed) (not_done d) = not_done d
with_first job (Some handed) (all_handed more) = all_handed (handed ∷ more)

-- the same over the verdicts of the dependencies; None where one has no verdict
abbrev pub handing_of : (JobId → Option Verdict) → List DependencyRow → Option Handing
handing_of verdict_at [] = Some (all_handed [])
handing_of verdict_at (dep ∷ deps) = option_and_then
    (λ verdict. option_map (with_first dep.job (handed_by dep verdict)) (handing_of verdict_at deps))
    (verdict_at dep.job)

module _ (builders : Meanings) (config : Config) (winners : List Winner) where
  -- what a job is made from, given what is handed over
  abbrev pub made_from : Job → List HandedOver → MadeFrom
  made_from job handed = record {
    builder = job.desc.builder;
    version = job.desc.version;
    platform = job.desc.platform;
    key = job.desc.key;
    params = job.desc.params;
    path = job.source;
    bytes = content_at_path winners job.source;
    reached = reached builders config winners job.source;
    handed = handed;
  }

  -- the verdict of a job by what is handed over
  abbrev pub made_by : Job → Handing → Verdict
  made_by job (not_done d) = dep_failed d
  made_by job (all_handed handed) = answered (made_from job handed) (builders.makes (job_view (made_from job handed)))

  -- the first that applies: a cycle, a missing dependency, no verdict yet, and then the dependencies' verdicts
  abbrev pub judged : Job → Bool → Option DependencyRow → Option Handing → Option Verdict
  judged job true lacking handing = Some cycle
  judged job false (Some dep) handing = Some (missing dep.job)
  judged job false None None = None
  judged job false None (Some handing) = Some (made_by job handing)

  -- the verdict of a job at a number, among these jobs
  abbrev pub verdict_among : List Job → ℕ → Job → Option Verdict
  verdict_among jobs zero job = None
  verdict_among jobs (suc n) job = judged job (is_cyclic jobs (id_of job))
      (find (λ dep. not (is_job jobs dep.job)) (handing job))
      (handing_of (λ id. option_and_then (verdict_among jobs n) (job_at jobs id)) (handing job))

  -- the verdict of a job: that at the number of jobs
  abbrev pub verdict_of : Job → Option Verdict
  verdict_of job = verdict_among (all_jobs builders config winners) (length (all_jobs builders config winners)) job

  -- what a job is made from, where the verdict is the builder's
  abbrev pub made_from_in : Option Verdict → Option MadeFrom
  made_from_in None = None
  made_from_in (Some cycle) = None
  made_from_in (Some (missing d)) = None
  made_from_in (Some (dep_failed d)) = None
  made_from_in (Some (answered from outcome)) = Some from

  -- the input of a job whose verdict is the builder's
  abbrev pub input_of_job : Job → Option Thing
  input_of_job job = option_map input_thing (made_from_in (verdict_of job))
