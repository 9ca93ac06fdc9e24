-- What a job that depends on nothing comes to: what its builder makes of it.
use Rattle.std.proofs.Common.{◌≡◌, ◌<◌, ℕ, zero, suc, false, not, List, [], length, Contains, Some, ◌∙◌, ap, arith}
use Rattle.std.specs.Prelude.{option_and_then}
use Rattle.std.specs.List.{filter, find}
use Rattle.ap_config.specs.declared.config.Config.{Config}
use Rattle.ap_scan.specs.declared.results.Winner.{Winner}
use Rattle.ap_rows.specs.Inputs.{input_thing}
use Rattle.ap_rows.specs.Jobs.{Job, id_of, job_at, is_job}
use Rattle.ap_builder.specs.Meanings.{Meanings}
use Rattle.ap_builder.specs.Views.{job_view}
use Rattle.ap_graph.specs.Edges.{is_cyclic}
use Rattle.ap_create.specs.Creation.{all_jobs}
use Rattle.ap_db.specs.Tables.{PlainJob, processed}
use Rattle.ap_engine.specs.Verdict.{Verdict, answered, hands_over, handing, handing_of, made_from, judged, verdict_among, verdict_of}
use Rattle.ap_engine.specs.Settled.{plain_outcome, row_of_verdict, job_row}
use Rattle.ap_engine.specs.Worlds.{AreFree}
use Rattle.ap_engine.proofs.FreeJobs.{jobs_are_free, none_is_cyclic}

module _ (builders : Meanings) (config : Config) (winners : List Winner) where
  -- what the builder makes of a job that nothing is handed over to
  abbrev pub free_verdict : Job → Verdict
  free_verdict job = answered (made_from builders config winners job []) (builders.makes (job_view (made_from builders config winners job [])))

  -- and its row
  abbrev pub free_row : Job → PlainJob
  free_row job = record {
    id = id_of job;
    result = processed (input_thing (made_from builders config winners job [])) (plain_outcome (builders.makes (job_view (made_from builders config winners job []))));
  }

  verdict_at : (jobs : List Job) (n : ℕ) (job : Job) → 0 < n → job.desc.deps ≡ [] → is_cyclic jobs (id_of job) ≡ false → verdict_among builders config winners jobs n job ≡ Some (free_verdict job)
  verdict_at jobs zero job some free acyclic = absurd (omega arith)
  verdict_at jobs (suc n) job some free acyclic =
      ap (λ c. judged builders config winners job c (find (λ dep. not (is_job jobs dep.job)) (handing job))
      (handing_of (λ id. option_and_then (verdict_among builders config winners jobs n) (job_at jobs id)) (handing job))) acyclic
      ∙ ap (λ deps. judged builders config winners job false (find (λ dep. not (is_job jobs dep.job)) deps)
      (handing_of (λ id. option_and_then (verdict_among builders config winners jobs n) (job_at jobs id)) deps)) (ap (filter (λ dep. hands_over dep.kind)) free)

  module _ (are_free : AreFree builders config winners) where
    pub free_job_verdict : (job : Job) → Contains (all_jobs builders config winners) job → verdict_of builders config winners job ≡ Some (free_verdict job)
    free_job_verdict job has = verdict_at (all_jobs builders config winners) (length (all_jobs builders config winners)) job (omega (arith, has.1))
        (jobs_are_free builders config winners are_free job has) (none_is_cyclic builders config winners are_free (id_of job))

    pub free_job_row : (job : Job) → Contains (all_jobs builders config winners) job → job_row builders config winners job ≡ Some (free_row job)
    free_job_row job has = ap (row_of_verdict (id_of job)) (free_job_verdict job has)
