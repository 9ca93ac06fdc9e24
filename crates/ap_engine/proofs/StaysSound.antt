-- Each front of a run's changes leaves sound tables sound, and rows that rise rising.
use Rattle.std.proofs.Common.{◌≡◌, ℕ, Bool, true, false, cond, not, List, [], ◌∷◌, ◌++◌, map, Contains, Option, Some, None, refl, sym, ◌∙◌, ap, subst, ⊎_elim}
use Rattle.std.specs.Prelude.{length, bytes_eq, is_some, find, option_map, take, IsSome}
use Rattle.std.specs.List.{filter}
use Rattle.std.specs.Cmp.Lexicographic.{nat_list_cmp_total}
use Rattle.std.proofs.Math.Seq.{take-length}
use Rattle.std.proofs.lemmas.List.Sums.{fold-append}
use Rattle.std.proofs.lemmas.Slice.Eq.{bytes_eq-Decides}
use Rattle.ap_content.proofs.Members.{Contains-filtered}
use Rattle.ap_text.specs.Order.{bytes_cmp, in_order}
use Rattle.ap_text.proofs.Members.{Contains-none, Contains-cons_cases, Contains-head, Contains-tail_of, Contains-map_cases}
use Rattle.ap_config.specs.declared.config.Config.{Config}
use Rattle.ap_scan.specs.declared.results.Winner.{Winner}
use Rattle.ap_rows.specs.Jobs.{Job}
use Rattle.ap_builder.specs.Meanings.{Meanings}
use Rattle.ap_graph.proofs.CycleTest.{Contains-flat_map_cases}
use Rattle.ap_db.specs.Tables.{PlainSource, PlainCreate, PlainTables}
use Rattle.ap_db.specs.Changes.{Whole, put_folders, put_source, remove_source, put_create, put_job, after, after_all, source_row_at}
use Rattle.ap_db.specs.States.{TablesRise}
use Rattle.ap_sources.specs.Sources.{sources}
use Rattle.ap_create.specs.Creation.{create_from, all_jobs}
use Rattle.ap_engine.specs.Verdict.{made_from}
use Rattle.ap_engine.specs.Rows.{same_folders, same_source}
use Rattle.ap_engine.specs.Settled.{folder_rows, source_row, create_row, job_row}
use Rattle.ap_engine.specs.Need.{creation_stands, job_stands}
use Rattle.ap_engine.specs.Sound.{HasCreation, AreSoundTables}
use Rattle.ap_engine.specs.Changes.{source_change, put_of, folder_changes, source_at, source_changes, create_changes, job_changes, with_folder_rows, with_source_rows, with_creations, front_changes, changes}
use Rattle.ap_engine.specs.Stops.{IsFrontOf}
use Rattle.ap_engine.specs.Worlds.{AreQuiet, AreFree, AreCreateInputs, AreJobInputs}
use Rattle.ap_engine.proofs.LookUps.{found_there}
use Rattle.ap_engine.proofs.FreeJobs.{jobs_at, job_of_source, source_is}
use Rattle.ap_engine.proofs.JobIds.{is_id_of}
use Rattle.ap_engine.proofs.FreeVerdicts.{free_row, free_job_row}
use Rattle.ap_engine.proofs.Steps.{kept_by_fronts, fronts_joined, fronts_of_front}
use Rattle.ap_engine.proofs.StayRising.{fronts_rise}
use Rattle.ap_engine.proofs.Standing.{is_creation, is_made}
use Rattle.ap_engine.proofs.SourcePhase.{sources_then}
use Rattle.ap_engine.proofs.Phases.{found_at_path, creation_of_source}
use Rattle.ap_engine.proofs.SoundSteps.{IsOfSources, sound_after_sources, sound_after_create, sound_after_job}

-- what each change keeps all keep
kept_by_changes : (Q : PlainTables → Type 0) (changes : List Whole) → ((change : Whole) → Contains changes change → (t : PlainTables) → Q t → Q (after t change)) → (t : PlainTables) → Q t → Q (after_all t changes)
kept_by_changes Q [] each t q = q
kept_by_changes Q (change ∷ changes) each t q = kept_by_changes Q changes (λ c has. each c (Contains-tail_of change changes c has)) (after t change) (each change (Contains-head change changes) t q)

only_one : {X : Type 0} (P : X → Type 0) (x q : X) → P x → Contains (x ∷ []) q → P q
only_one P x q p has = ⊎_elim (λ e. subst P e p) (λ none. absurd (Contains-none q none)) (Contains-cons_cases x [] q has)

-- ---- which changes there are

folders_of_sources : (config : Config) (winners : List Winner) (tables : PlainTables) (change : Whole) → Contains (folder_changes config winners tables) change → IsOfSources change
folders_of_sources config winners tables change has = by_case (same_folders tables.folders (folder_rows config)) has
  where
    by_case : (b : Bool) → Contains (cond b [] (put_folders (folder_rows config) ∷ [])) change → IsOfSources change
    by_case true h = absurd (Contains-none change h)
    by_case false h = only_one IsOfSources (put_folders (folder_rows config)) change tt h

one_of_sources : (p : List ℕ) (found : Option Winner) (old : Option PlainSource) (change : Whole) → Contains (source_change p found old) change → IsOfSources change
one_of_sources p None None change has = absurd (Contains-none change has)
one_of_sources p None (Some old) change has = only_one IsOfSources (remove_source p) change tt has
one_of_sources p (Some winner) None change has = only_one IsOfSources (put_source (source_row winner)) change tt has
one_of_sources p (Some winner) (Some old) change has = by_case (same_source old (source_row winner)) has
  where
    by_case : (b : Bool) → Contains (cond b [] (put_source (source_row winner) ∷ [])) change → IsOfSources change
    by_case true h = absurd (Contains-none change h)
    by_case false h = only_one IsOfSources (put_source (source_row winner)) change tt h

all_of_sources : (config : Config) (winners : List Winner) (tables : PlainTables) (change : Whole) → Contains (source_changes config winners tables) change → IsOfSources change
all_of_sources config winners tables change has =
    let r = Contains-flat_map_cases (λ path. source_change path (source_at config winners path) (source_row_at tables path))
    (in_order bytes_cmp (map (λ winner. winner.path) (sources config winners) ++ map (λ row. row.path) tables.sources)) change has in
    one_of_sources r.0 (source_at config winners r.0) (source_row_at tables r.0) change r.2

module _ (builders : Meanings) (config : Config) (winners : List Winner) (quiet : AreQuiet builders config winners) (inputs : AreCreateInputs builders config winners) where
  -- sound tables whose sources, or whose creations, are those of others
  record SoundBeside (u t : PlainTables) : Type 0 where
    sound : AreSoundTables builders t
    sources : t.sources ≡ u.sources

  record SoundUpon (u t : PlainTables) : Type 0 where
    sound : AreSoundTables builders t
    creates : t.creates ≡ u.creates

  module _ (tables : PlainTables) (sound : AreSoundTables builders tables) where
    folder_fronts : (k : ℕ) → AreSoundTables builders (after_all tables (take k (folder_changes config winners tables)))
    folder_fronts k = kept_by_fronts (AreSoundTables builders) (folder_changes config winners tables)
        (λ change has t now. sound_after_sources builders t now change (folders_of_sources config winners tables change has)) k tables sound

    sound_then : AreSoundTables builders (with_folder_rows builders config winners tables)
    sound_then = kept_by_changes (AreSoundTables builders) (folder_changes config winners tables)
        (λ change has t now. sound_after_sources builders t now change (folders_of_sources config winners tables change has)) tables sound

    source_fronts : (k : ℕ) → AreSoundTables builders (after_all (with_folder_rows builders config winners tables) (take k (source_changes config winners (with_folder_rows builders config winners tables))))
    source_fronts k = kept_by_fronts (AreSoundTables builders) (source_changes config winners (with_folder_rows builders config winners tables))
        (λ change has t now. sound_after_sources builders t now change (all_of_sources config winners (with_folder_rows builders config winners tables) change has))
        k (with_folder_rows builders config winners tables) sound_then

    sound_with_sources : AreSoundTables builders (with_source_rows builders config winners tables)
    sound_with_sources = kept_by_changes (AreSoundTables builders) (source_changes config winners (with_folder_rows builders config winners tables))
        (λ change has t now. sound_after_sources builders t now change (all_of_sources config winners (with_folder_rows builders config winners tables) change has))
        (with_folder_rows builders config winners tables) sound_then

    -- ---- creations

    source_is_there : (winner : Winner) → Contains (sources config winners) winner → (t : PlainTables) → t.sources ≡ (with_source_rows builders config winners tables).sources → IsSome (source_row_at t winner.path)
    source_is_there winner is t same =
        ap (λ (rows : List PlainSource). is_some (find (λ row. bytes_eq row.path winner.path) rows)) same
        ∙ ap is_some (sources_then config winners (with_folder_rows builders config winners tables) winner.path
        ∙ ap (option_map source_row) (found_at_path builders config winners quiet winner is))

    creation_step : (change : Whole) → Contains (create_changes builders config winners (with_source_rows builders config winners tables)) change
        → (t : PlainTables) → SoundBeside (with_source_rows builders config winners tables) t → SoundBeside (with_source_rows builders config winners tables) (after t change)
    creation_step change has t now =
        let r = Contains-map_cases (λ winner. put_create (create_row builders config winners winner.path))
        (filter (λ winner. not (creation_stands builders config winners (with_source_rows builders config winners tables) winner.path)) (sources config winners)) change has in
        let is = (Contains-filtered (λ winner. not (creation_stands builders config winners (with_source_rows builders config winners tables) winner.path)) (sources config winners) r.0 r.1).0 in
        subst (λ c. SoundBeside (with_source_rows builders config winners tables) (after t c)) r.2 (record {
          sound = sound_after_create builders t now.sound (create_row builders config winners r.0.path)
              (is_creation builders (create_from builders config winners r.0.path) (inputs r.0 is) r.0.path) (source_is_there r.0 is t now.sources);
          sources = now.sources;
        })

    creation_fronts : (k : ℕ) → AreSoundTables builders (after_all (with_source_rows builders config winners tables) (take k (create_changes builders config winners (with_source_rows builders config winners tables))))
    creation_fronts k = (kept_by_fronts (SoundBeside (with_source_rows builders config winners tables)) (create_changes builders config winners (with_source_rows builders config winners tables))
        creation_step k (with_source_rows builders config winners tables) (record { sound = sound_with_sources; sources = refl })).sound

    pub sound_with_creations : AreSoundTables builders (with_creations builders config winners tables)
    sound_with_creations = (kept_by_changes (SoundBeside (with_source_rows builders config winners tables)) (create_changes builders config winners (with_source_rows builders config winners tables))
        creation_step (with_source_rows builders config winners tables) (record { sound = sound_with_sources; sources = refl })).sound

    up_to_sources : after_all tables (folder_changes config winners tables ++ source_changes config winners (with_folder_rows builders config winners tables)) ≡ with_source_rows builders config winners tables
    up_to_sources = fold-append after tables (folder_changes config winners tables) (source_changes config winners (with_folder_rows builders config winners tables))

    up_to_creations : after_all tables (front_changes builders config winners tables) ≡ with_creations builders config winners tables
    up_to_creations =
        fold-append after tables (folder_changes config winners tables ++ source_changes config winners (with_folder_rows builders config winners tables))
        (create_changes builders config winners (with_source_rows builders config winners tables))
        ∙ ap (λ t. after_all t (create_changes builders config winners (with_source_rows builders config winners tables))) up_to_sources

    -- whatever its jobs, a front of them leaves sound tables
    pub sound_up_to_creations : (k : ℕ) → AreSoundTables builders (after_all tables (take k (front_changes builders config winners tables)))
    sound_up_to_creations = fronts_joined (AreSoundTables builders)
        (folder_changes config winners tables ++ source_changes config winners (with_folder_rows builders config winners tables))
        (create_changes builders config winners (with_source_rows builders config winners tables)) tables
        (fronts_joined (AreSoundTables builders) (folder_changes config winners tables) (source_changes config winners (with_folder_rows builders config winners tables)) tables folder_fronts source_fronts)
        (λ k. subst (λ t. AreSoundTables builders (after_all t (take k (create_changes builders config winners (with_source_rows builders config winners tables))))) (sym up_to_sources) (creation_fronts k))

    -- and so does each front of what was given of them
    pub given_front_stays_sound : (given : List Whole) → IsFrontOf given (front_changes builders config winners tables) → (k : ℕ) → AreSoundTables builders (after_all tables (take k given))
    given_front_stays_sound given front k = fronts_of_front (AreSoundTables builders) given front.rest tables
        (subst (λ all. (n : ℕ) → AreSoundTables builders (after_all tables (take n all))) (sym front.joined) sound_up_to_creations) k

    -- ---- jobs

    module _ (are_free : AreFree builders config winners) (job_inputs : AreJobInputs builders config winners) where
      its_creation : (job : Job) → Contains (all_jobs builders config winners) job → HasCreation (with_creations builders config winners tables) (free_row builders config winners job)
      its_creation job has =
          let of = job_of_source builders config winners job has in
          let there = found_there bytes_cmp nat_list_cmp_total bytes_eq bytes_eq-Decides (λ (row : PlainCreate). row.source) (with_creations builders config winners tables).creates of.winner.path
          (create_row builders config winners of.winner.path) (creation_of_source builders config winners quiet (with_folder_rows builders config winners tables) sound_then inputs of.winner of.is) in
          record {
            create = create_row builders config winners of.winner.path;
            there = there.0;
            same = sym (source_is builders config winners of.winner job of.among);
            among = is_id_of (jobs_at builders config winners of.winner) job of.among;
          }

      job_step : (change : Whole) → Contains (job_changes builders config winners (with_creations builders config winners tables)) change
          → (t : PlainTables) → SoundUpon (with_creations builders config winners tables) t → SoundUpon (with_creations builders config winners tables) (after t change)
      job_step change has t now =
          let r = Contains-flat_map_cases (λ job. put_of (job_row builders config winners job))
          (filter (λ job. not (job_stands builders config winners (with_creations builders config winners tables) job)) (all_jobs builders config winners)) change has in
          let is = (Contains-filtered (λ job. not (job_stands builders config winners (with_creations builders config winners tables) job)) (all_jobs builders config winners) r.0 r.1).0 in
          let of = its_creation r.0 is in
          let here : HasCreation t (free_row builders config winners r.0) = record { create = of.create; there = subst (λ rows. Contains rows of.create) (sym now.creates) of.there; same = of.same; among = of.among } in
          only_one (λ c. SoundUpon (with_creations builders config winners tables) (after t c)) (put_job (free_row builders config winners r.0)) change
          (record {
            sound = sound_after_job builders t now.sound (free_row builders config winners r.0) (is_made builders (made_from builders config winners r.0 []) (job_inputs r.0 is)) here;
            creates = now.creates;
          })
          (subst (λ changes. Contains changes change) (ap put_of (free_job_row builders config winners are_free r.0 is)) r.2)

      job_fronts : (k : ℕ) → AreSoundTables builders (after_all (with_creations builders config winners tables) (take k (job_changes builders config winners (with_creations builders config winners tables))))
      job_fronts k = (kept_by_fronts (SoundUpon (with_creations builders config winners tables)) (job_changes builders config winners (with_creations builders config winners tables))
          job_step k (with_creations builders config winners tables) (record { sound = sound_with_creations; creates = refl })).sound

      -- each front of a run's changes leaves sound tables
      pub stays_sound : (k : ℕ) → AreSoundTables builders (after_all tables (take k (changes builders config winners tables)))
      stays_sound = fronts_joined (AreSoundTables builders) (front_changes builders config winners tables) (job_changes builders config winners (with_creations builders config winners tables)) tables
          sound_up_to_creations
          (λ k. subst (λ t. AreSoundTables builders (after_all t (take k (job_changes builders config winners (with_creations builders config winners tables))))) (sym up_to_creations) (job_fronts k))

      -- and so does each front of what was given of them
      pub given_stays_sound : (given : List Whole) → IsFrontOf given (changes builders config winners tables) → (k : ℕ) → AreSoundTables builders (after_all tables (take k given))
      given_stays_sound given front k = fronts_of_front (AreSoundTables builders) given front.rest tables
          (subst (λ all. (n : ℕ) → AreSoundTables builders (after_all tables (take n all))) (sym front.joined) stays_sound) k

      -- and all of them
      pub sound_at_last : AreSoundTables builders (after_all tables (changes builders config winners tables))
      sound_at_last = subst (λ all. AreSoundTables builders (after_all tables all)) (take-length (changes builders config winners tables)) (stays_sound (length (changes builders config winners tables)))

-- and rows that rise
pub stays_rising : (builders : Meanings) (config : Config) (winners : List Winner) (tables : PlainTables) → TablesRise tables → (k : ℕ) → TablesRise (after_all tables (take k (changes builders config winners tables)))
stays_rising builders config winners tables rise k = fronts_rise (changes builders config winners tables) tables rise k
