-- What the tables have at each key after each phase of a run, from sound tables that rise.
use Rattle.std.proofs.Common.{◌≡◌, ◌≢◌, ◌||◌, ℕ, Bool, true, false, not, List, Contains, Option, Some, None, refl, sym, ◌∙◌, ap, subst, ⊎_elim}
use Rattle.std.specs.Prelude.{bytes_eq, is_some, option_map, IsSome}
use Rattle.std.specs.Cmp.Lexicographic.{nat_list_cmp_total}
use Rattle.std.proofs.lemmas.Slice.Eq.{bytes_eq-Decides}
use Rattle.ap_text.specs.declared.job_id.JobId.{JobId}
use Rattle.ap_text.specs.Order.{bytes_cmp}
use Rattle.ap_text.specs.JobOrder.{job_cmp, job_total, same_job}
use Rattle.ap_config.specs.declared.config.Config.{Config}
use Rattle.ap_scan.specs.declared.results.Winner.{Winner}
use Rattle.ap_rows.specs.Jobs.{Job, id_of, jobs_of, job_at, is_job}
use Rattle.ap_builder.specs.Meanings.{Meanings}
use Rattle.ap_graph.proofs.IdOrder.{same_job-Decides, not_same_job}
use Rattle.ap_db.specs.Tables.{PlainCreate, PlainJob, PlainTables}
use Rattle.ap_db.specs.Changes.{created_ids, stays_beside, after_all, source_row_at, create_row_at, job_row_at}
use Rattle.ap_db.specs.States.{TablesRise}
use Rattle.ap_sources.specs.Sources.{sources}
use Rattle.ap_create.specs.Creation.{create_from, created, all_jobs}
use Rattle.ap_engine.specs.Settled.{create_row}
use Rattle.ap_engine.specs.Need.{creation_stands}
use Rattle.ap_engine.specs.Sound.{IsCreation, IsProcessing, AreSoundTables}
use Rattle.ap_engine.specs.Changes.{source_at, source_changes, create_changes, job_changes}
use Rattle.ap_engine.specs.Worlds.{AreQuiet, AreFree, AreCreateInputs, AreJobInputs}
use Rattle.ap_engine.proofs.LookUps.{some_one, none_some, passing_found, none_found, found_there, is_row_at}
use Rattle.ap_engine.proofs.Quiet.{paths_rise}
use Rattle.ap_engine.proofs.FreeJobs.{IsOfSource, jobs_at, job_of_source, source_is, job_is_there}
use Rattle.ap_engine.proofs.JobIds.{id_created, job_created, job_of_id}
use Rattle.ap_engine.proofs.FreeVerdicts.{free_row}
use Rattle.ap_engine.proofs.Steps.{one_or_two}
use Rattle.ap_engine.proofs.Standing.{standing_creation, standing_job}
use Rattle.ap_engine.proofs.SourcePhase.{source_is_of, creations_stay, creations_gone, jobs_then_stay, jobs_then_gone}
use Rattle.ap_engine.proofs.CreatePhase.{stays_beside_another, creations_then, no_creations_then, jobs_kept, jobs_gone, no_jobs_then}
use Rattle.ap_engine.proofs.JobPhase.{found_under_id, stands_by_input, jobs_at_last, no_jobs_at_last}

or_true : (b : Bool) → (b || true) ≡ true
or_true true = refl
or_true false = refl

none_there : {X : Type 0} (found : Option X) → found ≡ None → IsSome found → ⊥
none_there found e is = cc (sym is ∙ ap is_some e)

-- a row of one of its jobs stays beside a creation, and one of another job doesn't
beside_its_own : (create : PlainCreate) (id : JobId) → Contains (created_ids create.source create.created) id → (row : PlainJob) → row.id ≡ id → stays_beside create row ≡ true
beside_its_own create id its row e =
    ap (λ found. not (bytes_eq row.id.source create.source) || found)
    (passing_found (λ other. same_job other row.id) (created_ids create.source create.created) id its ((same_job-Decides id row.id).1 (sym e)))
    ∙ or_true (not (bytes_eq row.id.source create.source))

beside_no_other : (create : PlainCreate) (row : PlainJob) → row.id.source ≡ create.source → ((id : JobId) → Contains (created_ids create.source create.created) id → id ≢ row.id) → stays_beside create row ≡ false
beside_no_other create row of differ =
    ap (λ found. not (bytes_eq row.id.source create.source) || is_some found)
    (none_found (λ other. same_job other row.id) (created_ids create.source create.created) (λ id has. not_same_job id row.id (differ id has)))
    ∙ ap (λ b. not b || false) ((bytes_eq-Decides row.id.source create.source).1 of)

module _ (builders : Meanings) (config : Config) (winners : List Winner) (quiet : AreQuiet builders config winners) where
  pub found_at_path : (winner : Winner) → Contains (sources config winners) winner → source_at config winners winner.path ≡ Some winner
  found_at_path winner is = is_row_at bytes_cmp nat_list_cmp_total bytes_eq bytes_eq-Decides (λ (winner : Winner). winner.path) (sources config winners) winner (paths_rise builders config winners quiet) is

  pub none_at_path : (q : List ℕ) → source_at config winners q ≡ None → (winner : Winner) → Contains (sources config winners) winner → winner.path ≢ q
  none_at_path q none winner is e = none_some winner (sym none ∙ ap (source_at config winners) (sym e) ∙ found_at_path winner is)

  module _ (tables : PlainTables) (sound : AreSoundTables builders tables) where
    -- without a source there is no creation and no job
    lone_creation : (q : List ℕ) → source_row_at tables q ≡ None → create_row_at tables q ≡ None
    lone_creation q none = by_case (create_row_at tables q) refl
      where
        by_case : (found : Option PlainCreate) → create_row_at tables q ≡ found → create_row_at tables q ≡ None
        by_case None e = e
        by_case (Some row) e =
            let r = found_there bytes_cmp nat_list_cmp_total bytes_eq bytes_eq-Decides (λ (row : PlainCreate). row.source) tables.creates q row e in
            absurd (none_there (source_row_at tables row.source) (ap (source_row_at tables) r.1 ∙ none) (sound.sources row r.0))

    lone_job : (id : JobId) → source_row_at tables id.source ≡ None → job_row_at tables id ≡ None
    lone_job id none = by_case (job_row_at tables id) refl
      where
        by_case : (found : Option PlainJob) → job_row_at tables id ≡ found → job_row_at tables id ≡ None
        by_case None e = e
        by_case (Some row) e =
            let r = found_there job_cmp job_total same_job same_job-Decides (λ (row : PlainJob). row.id) tables.jobs id row e in
            let has = sound.jobs row r.0 in
            absurd (none_there (source_row_at tables has.create.source) (ap (source_row_at tables) (has.same ∙ ap (λ (w : JobId). w.source) r.1) ∙ none) (sound.sources has.create has.there))

    -- the tables with the sources, with the creations, and with the jobs
    abbrev pub sourced : PlainTables
    sourced = after_all tables (source_changes config winners tables)

    abbrev pub with_all_creations : PlainTables
    with_all_creations = after_all sourced (create_changes builders config winners sourced)

    abbrev pub with_all_jobs : PlainTables
    with_all_jobs = after_all with_all_creations (job_changes builders config winners with_all_creations)

    -- ---- creations

    pub creation_as_before : (winner : Winner) → Contains (sources config winners) winner → create_row_at sourced winner.path ≡ create_row_at tables winner.path
    creation_as_before winner is = creations_stay config winners tables winner.path winner (found_at_path winner is)

    recorded_creation : (winner : Winner) → Contains (sources config winners) winner → (row : PlainCreate) → create_row_at sourced winner.path ≡ Some row → IsCreation builders row × (row.source ≡ winner.path)
    recorded_creation winner is row e =
        let r = found_there bytes_cmp nat_list_cmp_total bytes_eq bytes_eq-Decides (λ (row : PlainCreate). row.source) tables.creates winner.path row (sym (creation_as_before winner is) ∙ e) in
        (sound.creations row r.0, r.1)

    module _ (inputs : AreCreateInputs builders config winners) where
      -- a creation that stands is the one that the source settles to
      standing : (winner : Winner) → Contains (sources config winners) winner → creation_stands builders config winners sourced winner.path ≡ true → create_row_at sourced winner.path ≡ Some (create_row builders config winners winner.path)
      standing winner is stands = standing_creation builders config winners winner.path (inputs winner is) (create_row_at sourced winner.path) (recorded_creation winner is) stands

      pub creation_of_source : (winner : Winner) → Contains (sources config winners) winner → create_row_at with_all_creations winner.path ≡ Some (create_row builders config winners winner.path)
      creation_of_source winner is = creations_then builders config winners sourced winner is (standing winner is)

      pub creation_at : (q : List ℕ) → create_row_at with_all_creations q ≡ option_map (λ winner. create_row builders config winners winner.path) (source_at config winners q)
      creation_at q = by_case (source_at config winners q) refl
        where
          by_case : (found : Option Winner) → source_at config winners q ≡ found → create_row_at with_all_creations q ≡ option_map (λ winner. create_row builders config winners winner.path) (source_at config winners q)
          by_case None e = no_creations_then builders config winners sourced q (none_at_path q e) (creations_gone config winners tables q e (lone_creation q)) ∙ ap (option_map (λ winner. create_row builders config winners winner.path)) (sym e)
          by_case (Some winner) e =
              let r = source_is_of config winners q winner e in
              ap (create_row_at with_all_creations) (sym r.1) ∙ creation_of_source winner r.0 ∙ ap (option_map (λ winner. create_row builders config winners winner.path)) (sym e)

      -- ---- jobs

      module _ (are_free : AreFree builders config winners) where
        source_of_job : (job : Job) (of : IsOfSource builders config winners job) → of.winner.path ≡ job.source
        source_of_job job of = sym (source_is builders config winners of.winner job of.among)

        -- a row at a job's id is as it was
        pub job_as_before : (job : Job) → Contains (all_jobs builders config winners) job → job_row_at with_all_creations (id_of job) ≡ job_row_at tables (id_of job)
        job_as_before job has =
            let of = job_of_source builders config winners job has in
            let here : source_at config winners job.source ≡ Some of.winner = ap (source_at config winners) (sym (source_of_job job of)) ∙ found_at_path of.winner of.is in
            jobs_kept builders config winners sourced (id_of job)
            (λ other on row e. ⊎_elim
            (λ same. beside_its_own (create_row builders config winners other.path) (id_of job)
            (subst (λ p. Contains (created_ids p (created builders (create_from builders config winners p))) (id_of job)) (source_of_job job of ∙ sym same)
            (id_created of.winner.path (created builders (create_from builders config winners of.winner.path)) job of.among)) row e)
            (λ differ. stays_beside_another (create_row builders config winners other.path) row (λ f. differ (sym f ∙ ap (λ (w : JobId). w.source) e)))
            (one_or_two other.path job.source))
            ∙ jobs_then_stay config winners tables (id_of job) of.winner here

        recorded_job : (job : Job) → Contains (all_jobs builders config winners) job → (row : PlainJob) → job_row_at with_all_creations (id_of job) ≡ Some row → IsProcessing builders row.result × (row.id ≡ id_of job)
        recorded_job job has row e =
            let r = found_there job_cmp job_total same_job same_job-Decides (λ (row : PlainJob). row.id) tables.jobs (id_of job) row (sym (job_as_before job has) ∙ e) in
            (sound.processings row r.0, r.1)

        pub job_of_source_at_last : AreJobInputs builders config winners → (job : Job) → Contains (all_jobs builders config winners) job → job_row_at with_all_jobs (id_of job) ≡ Some (free_row builders config winners job)
        job_of_source_at_last job_inputs job has = jobs_at_last builders config winners quiet are_free with_all_creations job has
            (λ stands. standing_job builders config winners job (job_inputs job has) (job_row_at with_all_creations (id_of job)) (recorded_job job has)
            (sym (stands_by_input builders config winners quiet are_free with_all_creations job has) ∙ stands))

        module _ (rise : TablesRise tables) where
          -- where the source's creation stood, no job but its own had a row
          no_other_row : (winner : Winner) (is : Contains (sources config winners) winner) (id : JobId) → winner.path ≡ id.source → ((job : Job) → Contains (jobs_at builders config winners winner) job → id_of job ≢ id)
              → create_row_at sourced winner.path ≡ Some (create_row builders config winners winner.path) → job_row_at tables id ≡ None
          no_other_row winner is id of differ stands = by_case (job_row_at tables id) refl
            where
              by_case : (found : Option PlainJob) → job_row_at tables id ≡ found → job_row_at tables id ≡ None
              by_case None e = e
              by_case (Some row) e =
                  let r = found_there job_cmp job_total same_job same_job-Decides (λ (row : PlainJob). row.id) tables.jobs id row e in
                  let has = sound.jobs row r.0 in
                  let path : has.create.source ≡ winner.path = has.same ∙ ap (λ (w : JobId). w.source) r.1 ∙ sym of in
                  let there : create_row_at tables has.create.source ≡ Some has.create = is_row_at bytes_cmp nat_list_cmp_total bytes_eq bytes_eq-Decides (λ (row : PlainCreate). row.source) tables.creates has.create rise.creates has.there in
                  let one : has.create ≡ create_row builders config winners winner.path = some_one has.create (create_row builders config winners winner.path)
                  (sym there ∙ ap (create_row_at tables) path ∙ sym (creation_as_before winner is) ∙ stands) in
                  let among : is_job (jobs_at builders config winners winner) row.id ≡ true = subst (λ (w : PlainCreate). is_job (jobs_of w.source w.created) row.id ≡ true) one has.among in
                  let its = job_of_id (jobs_at builders config winners winner) row.id among in
                  absurd (differ its.0 its.1 (its.2 ∙ r.1))

          no_job_then : (id : JobId) → ((job : Job) → Contains (all_jobs builders config winners) job → id_of job ≢ id) → job_row_at with_all_creations id ≡ None
          no_job_then id differ = by_case (source_at config winners id.source) refl
            where
              by_case : (found : Option Winner) → source_at config winners id.source ≡ found → job_row_at with_all_creations id ≡ None
              by_case None e = no_jobs_then builders config winners sourced id (jobs_then_gone config winners tables id e (lone_job id))
              by_case (Some winner) e =
                  let r = source_is_of config winners id.source winner e in
                  let other : (job : Job) → Contains (jobs_at builders config winners winner) job → id_of job ≢ id =
                  (λ job among same. let one = job_is_there builders config winners winner r.0 job among in differ one.0 one.1 (one.2 ∙ same)) in
                  jobs_gone builders config winners sourced id winner r.0
                  (λ row f. beside_no_other (create_row builders config winners winner.path) row (ap (λ (w : JobId). w.source) f ∙ sym r.1)
                  (λ one has same. let its = job_created winner.path (created builders (create_from builders config winners winner.path)) one has in other its.0 its.1 (its.2 ∙ same ∙ f)))
                  (λ stands. jobs_then_stay config winners tables id winner e ∙ no_other_row winner r.0 id r.1 other (standing winner r.0 stands))

          pub job_at_last : AreJobInputs builders config winners → (id : JobId) → job_row_at with_all_jobs id ≡ option_map (free_row builders config winners) (job_at (all_jobs builders config winners) id)
          job_at_last job_inputs id = by_case (job_at (all_jobs builders config winners) id) refl
            where
              by_case : (found : Option Job) → job_at (all_jobs builders config winners) id ≡ found → job_row_at with_all_jobs id ≡ option_map (free_row builders config winners) (job_at (all_jobs builders config winners) id)
              by_case None e =
                  let none : (job : Job) → Contains (all_jobs builders config winners) job → id_of job ≢ id =
                  (λ job has f. none_some job (sym e ∙ ap (λ w. job_at (all_jobs builders config winners) w) (sym f) ∙ found_under_id builders config winners quiet are_free job has)) in
                  no_jobs_at_last builders config winners quiet are_free with_all_creations id none (no_job_then id none) ∙ ap (option_map (free_row builders config winners)) (sym e)
              by_case (Some job) e =
                  let r = found_there job_cmp job_total same_job same_job-Decides id_of (all_jobs builders config winners) id job e in
                  ap (job_row_at with_all_jobs) (sym r.1) ∙ job_of_source_at_last job_inputs job r.0 ∙ ap (option_map (free_row builders config winners)) (sym e)
