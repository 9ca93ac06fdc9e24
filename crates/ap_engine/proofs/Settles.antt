-- The tables settle: after the changes of a run they are those that the configuration and its winners settle to, and what the run
-- asks for is what doesn't stand on its way there.
use Rattle.std.proofs.Common.{◌≡◌, false, not, ◌&&◌, List, [], ◌++◌, map, Contains, sym, ◌∙◌, ap, subst}
use Rattle.std.specs.Prelude.{bytes_eq}
use Rattle.std.specs.List.{filter, flat_map}
use Rattle.std.specs.List.Sorted.{IsStrictlySortedBy}
use Rattle.std.specs.Cmp.Lexicographic.{nat_list_cmp_total}
use Rattle.std.proofs.lemmas.List.Sums.{fold-append}
use Rattle.std.proofs.lemmas.Slice.Eq.{bytes_eq-Decides}
use Rattle.std.specs.Ordering.{on}
use Rattle.ap_text.specs.Order.{bytes_cmp, in_order}
use Rattle.ap_text.specs.JobOrder.{job_cmp, job_total, same_job}
use Rattle.ap_config.specs.declared.config.Config.{Config}
use Rattle.ap_scan.specs.declared.results.Winner.{Winner}
use Rattle.ap_rows.specs.declared.row.FolderRow.{FolderRow}
use Rattle.ap_rows.specs.Inputs.{input_thing}
use Rattle.ap_rows.specs.Jobs.{Job, id_of, jobs_of}
use Rattle.ap_builder.specs.declared.entry.Entry.TheVariants.{Process}
use Rattle.ap_builder.specs.Meanings.{Meanings}
use Rattle.ap_graph.proofs.IdOrder.{same_job-Decides}
use Rattle.ap_db.specs.Tables.{PlainSource, PlainCreate, PlainJob, PlainTables}
use Rattle.ap_db.specs.Changes.{Whole, with_folders, after, after_all, create_row_at, job_row_at}
use Rattle.ap_db.specs.States.{TablesRise}
use Rattle.ap_sources.specs.Sources.{sources}
use Rattle.ap_create.specs.Creation.{create_from, created, create_input_of, all_jobs}
use Rattle.ap_engine.specs.Verdict.{made_from}
use Rattle.ap_engine.specs.Settled.{folder_rows, source_row, create_row, job_row, settled}
use Rattle.ap_engine.specs.Need.{is_too_large, is_of_input, creation_stands, needs_creation, records_input, job_stands, creates_of, need}
use Rattle.ap_engine.specs.Sound.{AreSoundTables}
use Rattle.ap_engine.specs.Changes.{folder_changes, source_changes, create_changes, job_changes, jobs_recorded, recorded_jobs, with_folder_rows, with_source_rows, with_creations, changes}
use Rattle.ap_engine.specs.Worlds.{AreQuiet, AreFree, AreCreateInputs, IsTyped}
use Rattle.ap_content.proofs.Members.{Contains-filtered}
use Rattle.ap_sources.specs.Sources.{matching, is_some_item}
use Rattle.ap_engine.proofs.LookUps.{one_table}
use Rattle.ap_engine.proofs.MappedLists.{find_image, all_chosen, same_images_joined, same_choice, keys_of_images}
use Rattle.ap_engine.proofs.Quiet.{paths_rise}
use Rattle.ap_engine.proofs.FreeVerdicts.{free_row, free_job_row}
use Rattle.ap_engine.proofs.StayRising.{all_rise}
use Rattle.ap_engine.proofs.SourcePhase.{folders_then, folders_unchanged, sources_then}
use Rattle.ap_engine.proofs.CreatePhase.{folders_still, sources_still}
use Rattle.ap_engine.proofs.JobPhase.{ids_rise, stands_by_input, folders_at_last, sources_at_last, creates_at_last}
use Rattle.ap_engine.proofs.Phases.{sourced, with_all_creations, with_all_jobs, creation_as_before, creation_of_source, creation_at, job_as_before, job_at_last}

tables_path : (a b : PlainTables) → a.folders ≡ b.folders → a.sources ≡ b.sources → a.creates ≡ b.creates → a.jobs ≡ b.jobs → a ≡ b
tables_path a b p q r s = λ i. record { folders = p i; sources = q i; creates = r i; jobs = s i }

-- four lists of changes one after another
in_four : (t : PlainTables) (a b c d : List Whole) → after_all t (a ++ b ++ c ++ d) ≡ after_all (after_all (after_all (after_all t a) b) c) d
in_four t a b c d = fold-append after t (a ++ b ++ c) d
    ∙ ap (λ u. after_all u d) (fold-append after t (a ++ b) c ∙ ap (λ u. after_all u c) (fold-append after t a b))

-- other folder rows leave sound tables sound
pub sound_with_folders : (builders : Meanings) (tables : PlainTables) (rows : List FolderRow) → AreSoundTables builders tables → AreSoundTables builders (with_folders tables rows)
sound_with_folders builders tables rows sound = record {
  creations = sound.creations;
  processings = sound.processings;
  sources = sound.sources;
  jobs = λ row has. let of = sound.jobs row has in record { create = of.create; there = of.there; same = of.same; among = of.among };
}

pub sound_with_folder_rows : (builders : Meanings) (config : Config) (winners : List Winner) (tables : PlainTables) → AreSoundTables builders tables → AreSoundTables builders (with_folder_rows builders config winners tables)
sound_with_folder_rows builders config winners tables sound = subst (AreSoundTables builders) (sym (folders_then config winners tables)) (sound_with_folders builders tables (folder_rows config) sound)

module _ (builders : Meanings) (config : Config) (winners : List Winner) (quiet : AreQuiet builders config winners) (are_free : AreFree builders config winners) (typed : IsTyped builders config winners) where
  module _ (tables : PlainTables) (sound : AreSoundTables builders tables) (rise : TablesRise tables) where
    sources_settle : (sourced builders config winners quiet tables sound).sources ≡ map source_row (sources config winners)
    sources_settle = one_table bytes_cmp nat_list_cmp_total bytes_eq bytes_eq-Decides (λ (row : PlainSource). row.path)
        (sourced builders config winners quiet tables sound).sources (map source_row (sources config winners))
        (all_rise (source_changes config winners tables) tables rise).sources
        (subst (IsStrictlySortedBy bytes_cmp) (sym (keys_of_images (λ (row : PlainSource). row.path) source_row (sources config winners))) (paths_rise builders config winners quiet))
        (λ q. sources_then config winners tables q ∙ sym (find_image (λ (row : PlainSource). bytes_eq row.path q) source_row (sources config winners)))

    creates_settle : (with_all_creations builders config winners quiet tables sound).creates ≡ map (λ winner. create_row builders config winners winner.path) (sources config winners)
    creates_settle = one_table bytes_cmp nat_list_cmp_total bytes_eq bytes_eq-Decides (λ (row : PlainCreate). row.source)
        (with_all_creations builders config winners quiet tables sound).creates (map (λ winner. create_row builders config winners winner.path) (sources config winners))
        (all_rise (create_changes builders config winners (sourced builders config winners quiet tables sound)) (sourced builders config winners quiet tables sound)
        (all_rise (source_changes config winners tables) tables rise)).creates
        (subst (IsStrictlySortedBy bytes_cmp) (sym (keys_of_images (λ (row : PlainCreate). row.source) (λ winner. create_row builders config winners winner.path) (sources config winners))) (paths_rise builders config winners quiet))
        (λ q. creation_at builders config winners quiet tables sound typed.creations q
        ∙ sym (find_image (λ (row : PlainCreate). bytes_eq row.source q) (λ winner. create_row builders config winners winner.path) (sources config winners)))

    jobs_settle : (with_all_jobs builders config winners quiet tables sound).jobs ≡ map (free_row builders config winners) (all_jobs builders config winners)
    jobs_settle = one_table job_cmp job_total same_job same_job-Decides (λ (row : PlainJob). row.id)
        (with_all_jobs builders config winners quiet tables sound).jobs (map (free_row builders config winners) (all_jobs builders config winners))
        (all_rise (job_changes builders config winners (with_all_creations builders config winners quiet tables sound)) (with_all_creations builders config winners quiet tables sound)
        (all_rise (create_changes builders config winners (sourced builders config winners quiet tables sound)) (sourced builders config winners quiet tables sound)
        (all_rise (source_changes config winners tables) tables rise))).jobs
        (subst (IsStrictlySortedBy job_cmp) (sym (keys_of_images (λ (row : PlainJob). row.id) (free_row builders config winners) (all_jobs builders config winners))) (ids_rise builders config winners quiet are_free))
        (λ id. job_at_last builders config winners quiet tables sound typed.creations are_free rise typed.jobs id
        ∙ sym (find_image (λ (row : PlainJob). same_job row.id id) (free_row builders config winners) (all_jobs builders config winners)))

    all_settle : tables.folders ≡ folder_rows config → with_all_jobs builders config winners quiet tables sound ≡ settled builders config winners
    all_settle folders = tables_path (with_all_jobs builders config winners quiet tables sound) (settled builders config winners)
        (folders_at_last builders config winners quiet are_free (with_all_creations builders config winners quiet tables sound)
        ∙ folders_still builders config winners (sourced builders config winners quiet tables sound) ∙ folders_unchanged config winners tables ∙ folders)
        (sources_at_last builders config winners quiet are_free (with_all_creations builders config winners quiet tables sound)
        ∙ sources_still builders config winners (sourced builders config winners quiet tables sound) ∙ sources_settle)
        (creates_at_last builders config winners quiet are_free (with_all_creations builders config winners quiet tables sound) ∙ creates_settle)
        (jobs_settle ∙ sym (all_chosen (job_row builders config winners) (free_row builders config winners) (all_jobs builders config winners) (free_job_row builders config winners are_free)))

  -- ---- from the first change on

  module _ (tables : PlainTables) (sound : AreSoundTables builders tables) (rise : TablesRise tables) where
    rise_with_folder_rows : TablesRise (with_folder_rows builders config winners tables)
    rise_with_folder_rows = all_rise (folder_changes config winners tables) tables rise

    phase_by_phase : after_all tables (changes builders config winners tables) ≡ after_all (with_creations builders config winners tables) (job_changes builders config winners (with_creations builders config winners tables))
    phase_by_phase = in_four tables (folder_changes config winners tables) (source_changes config winners (with_folder_rows builders config winners tables))
        (create_changes builders config winners (with_source_rows builders config winners tables)) (job_changes builders config winners (with_creations builders config winners tables))

    -- after the changes of a run the tables are the settled ones
    pub tables_settle : after_all tables (changes builders config winners tables) ≡ settled builders config winners
    tables_settle = phase_by_phase
        ∙ all_settle (with_folder_rows builders config winners tables) (sound_with_folder_rows builders config winners tables sound) rise_with_folder_rows (ap (λ (t : PlainTables). t.folders) (folders_then config winners tables))

-- ---- what needn't be known of what jobs are made from

module _ (builders : Meanings) (config : Config) (winners : List Winner) (quiet : AreQuiet builders config winners) (are_free : AreFree builders config winners) (inputs : AreCreateInputs builders config winners) where
  module _ (tables : PlainTables) (sound : AreSoundTables builders tables) where
    -- the jobs of the recorded creations are then all jobs
    pub all_jobs_recorded : recorded_jobs (sources config winners) (with_creations builders config winners tables) ≡ all_jobs builders config winners
    all_jobs_recorded = ap (in_order (on id_of job_cmp)) (same_images_joined
        (λ winner. jobs_recorded winner.path (create_row_at (with_creations builders config winners tables) winner.path))
        (λ winner. jobs_of winner.path (created builders (create_from builders config winners winner.path))) (sources config winners)
        (λ winner is. ap (jobs_recorded winner.path) (creation_of_source builders config winners quiet (with_folder_rows builders config winners tables) (sound_with_folder_rows builders config winners tables sound) inputs winner is)))

    -- ---- what is asked for

    not_too_large : (winner : Winner) → Contains (sources config winners) winner → is_too_large winner.seen ≡ false
    not_too_large winner is =
        let read = quiet.read winner (Contains-filtered (λ winner. is_some_item (matching config winner.path)) winners winner is).0 in
        ap is_too_large read.seen

    stands_as_before : (winner : Winner) → Contains (sources config winners) winner
        → creation_stands builders config winners tables winner.path ≡ creation_stands builders config winners (with_source_rows builders config winners tables) winner.path
    stands_as_before winner is = ap (is_of_input (create_input_of builders config winners winner.path))
        (sym (creation_as_before builders config winners quiet (with_folder_rows builders config winners tables) (sound_with_folder_rows builders config winners tables sound) winner is
        ∙ ap (λ (t : PlainTables). create_row_at t winner.path) (folders_then config winners tables)))

    asked_as_before : (winner : Winner) → Contains (sources config winners) winner
        → needs_creation builders config winners tables winner ≡ not (creation_stands builders config winners (with_source_rows builders config winners tables) winner.path)
    asked_as_before winner is = ap (λ large. not large && not (creation_stands builders config winners tables winner.path)) (not_too_large winner is)
        ∙ ap not (stands_as_before winner is)

    job_stands_as_before : (job : Job) → Contains (all_jobs builders config winners) job
        → job_stands builders config winners tables job ≡ job_stands builders config winners (with_creations builders config winners tables) job
    job_stands_as_before job has = stands_by_input builders config winners quiet are_free tables job has
        ∙ ap (records_input (input_thing (made_from builders config winners job [])))
        (sym (job_as_before builders config winners quiet (with_folder_rows builders config winners tables) (sound_with_folder_rows builders config winners tables sound) inputs are_free job has
        ∙ ap (λ (t : PlainTables). job_row_at t (id_of job)) (folders_then config winners tables)))
        ∙ sym (stands_by_input builders config winners quiet are_free (with_creations builders config winners tables) job has)

    -- what is needed is what doesn't stand once the sources and then the creations are put
    pub need_by_phases : need builders config winners tables
        ≡ flat_map (λ winner. creates_of builders config winners winner.path)
        (filter (λ winner. not (creation_stands builders config winners (with_source_rows builders config winners tables) winner.path)) (sources config winners))
        ++ map (λ job. Process (id_of job))
        (filter (λ job. not (job_stands builders config winners (with_creations builders config winners tables) job)) (all_jobs builders config winners))
    need_by_phases =
        ap (λ asked. flat_map (λ winner. creates_of builders config winners winner.path) asked
        ++ map (λ job. Process (id_of job)) (filter (λ job. not (job_stands builders config winners tables job)) (all_jobs builders config winners)))
        (same_choice (needs_creation builders config winners tables) (λ winner. not (creation_stands builders config winners (with_source_rows builders config winners tables) winner.path)) (sources config winners) asked_as_before)
        ∙ ap (λ (asked : List Job). flat_map (λ winner. creates_of builders config winners winner.path)
        (filter (λ winner. not (creation_stands builders config winners (with_source_rows builders config winners tables) winner.path)) (sources config winners)) ++ map (λ job. Process (id_of job)) asked)
        (same_choice (λ job. not (job_stands builders config winners tables job)) (λ job. not (job_stands builders config winners (with_creations builders config winners tables) job)) (all_jobs builders config winners)
        (λ job has. ap not (job_stands_as_before job has)))
