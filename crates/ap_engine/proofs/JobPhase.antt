-- The tables once the results that don't stand are put: each job has its row.
use Rattle.std.proofs.Common.{◌≡◌, ◌≢◌, Bool, true, false, not, List, [], ◌∷◌, map, Contains, Some, None, refl, sym, ◌∙◌, ap, subst, ⊎_elim}
use Rattle.std.specs.List.{filter}
use Rattle.std.specs.List.Sorted.{IsStrictlySortedBy}
use Rattle.ap_content.proofs.Members.{Contains-filter, Contains-filtered}
use Rattle.ap_text.specs.declared.job_id.JobId.{JobId}
use Rattle.ap_text.specs.JobOrder.{job_cmp, job_total, same_job}
use Rattle.ap_config.specs.declared.config.Config.{Config}
use Rattle.ap_scan.specs.declared.results.Winner.{Winner}
use Rattle.ap_rows.specs.Inputs.{input_thing}
use Rattle.ap_rows.specs.Jobs.{Job, id_of, job_at}
use Rattle.ap_builder.specs.Meanings.{Meanings}
use Rattle.ap_graph.proofs.IdOrder.{same_job-Decides}
use Rattle.ap_create.specs.Creation.{all_jobs}
use Rattle.ap_db.specs.Tables.{PlainTables}
use Rattle.ap_db.specs.Changes.{Whole, put_job, after_all, job_row_at}
use Rattle.ap_engine.specs.Verdict.{made_from}
use Rattle.ap_engine.specs.Settled.{job_row}
use Rattle.ap_engine.specs.Need.{result_stands, job_stands, records_input}
use Rattle.ap_engine.specs.Changes.{put_of, job_changes}
use Rattle.ap_engine.specs.Worlds.{AreQuiet, AreFree}
use Rattle.ap_engine.proofs.RisingLists.{keys_rise}
use Rattle.ap_engine.proofs.LookUps.{is_row_at, some_one}
use Rattle.ap_engine.proofs.FreeJobs.{jobs_rise}
use Rattle.ap_engine.proofs.FreeVerdicts.{free_row, free_job_verdict, free_job_row}
use Rattle.ap_engine.proofs.Steps.{one_job_or_two, job_put, job_put_beside, kept_by_all, reached_by_one}

module _ (builders : Meanings) (config : Config) (winners : List Winner) (quiet : AreQuiet builders config winners) (are_free : AreFree builders config winners) where
  pub ids_rise : IsStrictlySortedBy job_cmp (map id_of (all_jobs builders config winners))
  ids_rise = keys_rise job_cmp id_of (all_jobs builders config winners) (jobs_rise builders config winners)

  -- a job is found under its id
  pub found_under_id : (job : Job) → Contains (all_jobs builders config winners) job → job_at (all_jobs builders config winners) (id_of job) ≡ Some job
  found_under_id job has = is_row_at job_cmp job_total same_job same_job-Decides id_of (all_jobs builders config winners) job ids_rise has

  pub one_of_id : (a b : Job) → Contains (all_jobs builders config winners) a → Contains (all_jobs builders config winners) b → id_of a ≡ id_of b → a ≡ b
  one_of_id a b in_a in_b e = some_one a b (sym (found_under_id a in_a) ∙ ap (λ id. job_at (all_jobs builders config winners) id) e ∙ found_under_id b in_b)

  module _ (tables : PlainTables) where
    -- a job stands where its row records its input
    pub stands_by_input : (job : Job) → Contains (all_jobs builders config winners) job
        → job_stands builders config winners tables job ≡ records_input (input_thing (made_from builders config winners job [])) (job_row_at tables (id_of job))
    stands_by_input job has = ap (result_stands builders config winners tables (id_of job)) (free_job_verdict builders config winners are_free job has)

    abbrev is_open : Job → Bool
    is_open job = not (job_stands builders config winners tables job)

    abbrev put_of_job : Job → List Whole
    put_of_job job = put_of (job_row builders config winners job)

    abbrev open_jobs : List Job
    open_jobs = filter is_open (all_jobs builders config winners)

    -- the tables then
    abbrev ended_tables : PlainTables
    ended_tables = after_all tables (job_changes builders config winners tables)

    is_a_job : (job : Job) → Contains open_jobs job → Contains (all_jobs builders config winners) job
    is_a_job job has = (Contains-filtered is_open (all_jobs builders config winners) job has).0

    one_put : (job : Job) → Contains (all_jobs builders config winners) job → put_of_job job ≡ put_job (free_row builders config winners job) ∷ []
    one_put job has = ap put_of (free_job_row builders config winners are_free job has)

    -- what each put of a job's row keeps
    kept : (Q : PlainTables → Type 0) → ((job : Job) → Contains (all_jobs builders config winners) job → (t : PlainTables) → Q t → Q (after_all t (put_job (free_row builders config winners job) ∷ [])))
        → Q tables → Q ended_tables
    kept Q each q = kept_by_all put_of_job Q open_jobs (λ job has t now. subst (λ changes. Q (after_all t changes)) (sym (one_put job (is_a_job job has))) (each job (is_a_job job has) t now)) tables q

    pub folders_at_last : ended_tables.folders ≡ tables.folders
    folders_at_last = kept (λ t. t.folders ≡ tables.folders) (λ job has t e. e) refl

    pub sources_at_last : ended_tables.sources ≡ tables.sources
    sources_at_last = kept (λ t. t.sources ≡ tables.sources) (λ job has t e. e) refl

    pub creates_at_last : ended_tables.creates ≡ tables.creates
    creates_at_last = kept (λ t. t.creates ≡ tables.creates) (λ job has t e. e) refl

    -- each job has its row
    pub jobs_at_last : (job : Job) → Contains (all_jobs builders config winners) job
        → (job_stands builders config winners tables job ≡ true → job_row_at tables (id_of job) ≡ Some (free_row builders config winners job))
        → job_row_at ended_tables (id_of job) ≡ Some (free_row builders config winners job)
    jobs_at_last job has before = by_case (job_stands builders config winners tables job) refl
      where
        stays : (other : Job) → Contains (all_jobs builders config winners) other → (t : PlainTables) → job_row_at t (id_of job) ≡ Some (free_row builders config winners job)
            → job_row_at (after_all t (put_job (free_row builders config winners other) ∷ [])) (id_of job) ≡ Some (free_row builders config winners job)
        stays other on t e = ⊎_elim
            (λ same. job_put t (free_row builders config winners other) (id_of job) same ∙ ap (λ j. Some (free_row builders config winners j)) (one_of_id other job on has same))
            (λ differ. job_put_beside t (free_row builders config winners other) (id_of job) differ ∙ e)
            (one_job_or_two (id_of other) (id_of job))

        by_case : (b : Bool) → job_stands builders config winners tables job ≡ b → job_row_at ended_tables (id_of job) ≡ Some (free_row builders config winners job)
        by_case true e = kept (λ t. job_row_at t (id_of job) ≡ Some (free_row builders config winners job)) stays (before e)
        by_case false e = reached_by_one put_of_job (λ t. Unit {0}) (λ t. job_row_at t (id_of job) ≡ Some (free_row builders config winners job)) open_jobs job
            (Contains-filter is_open (all_jobs builders config winners) job (ap not e) has) (λ other on t u. tt)
            (λ other on t now. subst (λ changes. job_row_at (after_all t changes) (id_of job) ≡ Some (free_row builders config winners job)) (sym (one_put other (is_a_job other on))) (stays other (is_a_job other on) t now))
            (λ t u. subst (λ changes. job_row_at (after_all t changes) (id_of job) ≡ Some (free_row builders config winners job)) (sym (one_put job has)) (job_put t (free_row builders config winners job) (id_of job) refl))
            tables tt

    -- what is no job has none
    pub no_jobs_at_last : (id : JobId) → ((job : Job) → Contains (all_jobs builders config winners) job → id_of job ≢ id) → job_row_at tables id ≡ None → job_row_at ended_tables id ≡ None
    no_jobs_at_last id differ none = kept (λ t. job_row_at t id ≡ None) (λ job has t e. job_put_beside t (free_row builders config winners job) id (differ job has) ∙ e) none
