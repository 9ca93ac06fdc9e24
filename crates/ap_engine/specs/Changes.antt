-- The whole changes of a run, phase by phase.
use Rattle.std.specs.Prelude.{ℕ, not, List, [], ◌∷◌, ◌++◌, map, filter, find, Option, Some, None, if◌then◌else◌, bytes_eq}
use Rattle.std.specs.List.{flat_map}
use Rattle.std.specs.Ordering.{on}
use Rattle.ap_text.specs.JobOrder.{job_cmp}
use Rattle.ap_text.specs.Order.{bytes_cmp, in_order}
use Rattle.ap_config.specs.declared.config.Config.{Config}
use Rattle.ap_scan.specs.declared.results.Winner.{Winner}
use Rattle.ap_rows.specs.Jobs.{Job, id_of, jobs_of}
use Rattle.ap_builder.specs.Meanings.{Meanings}
use Rattle.ap_db.specs.Tables.{PlainSource, PlainCreate, PlainJob, PlainTables}
use Rattle.ap_db.specs.Changes.{Whole, put_folders, put_source, remove_source, put_create, put_job, after_all, source_row_at, create_row_at}
use Rattle.ap_sources.specs.Sources.{sources}
use Rattle.ap_create.specs.Creation.{all_jobs}
use Rattle.ap_engine.specs.Rows.{same_folders, same_source}
use Rattle.ap_engine.specs.Settled.{folder_rows, source_row, create_row, job_row}
use Rattle.ap_engine.specs.Need.{creation_stands, job_stands}

-- a source of the tree is put where its row differs, and a gone one is removed
abbrev pub source_change : List ℕ → Option Winner → Option PlainSource → List Whole
source_change path None None = []
source_change path None (Some old) = remove_source path ∷ []
source_change path (Some winner) None = put_source (source_row winner) ∷ []
source_change path (Some winner) (Some old) = if same_source old (source_row winner) then [] else put_source (source_row winner) ∷ []

-- the put of a job's row, where it has one
abbrev pub put_of : Option PlainJob → List Whole
put_of None = []
put_of (Some row) = put_job row ∷ []

-- the jobs of a source's recorded creation, none where it has no row
abbrev pub jobs_recorded : List ℕ → Option PlainCreate → List Job
jobs_recorded path None = []
jobs_recorded path (Some row) = jobs_of path row.created

-- the jobs of the recorded creations of sources, by job id
abbrev pub recorded_jobs : List Winner → PlainTables → List Job
recorded_jobs sources tables = in_order (on id_of job_cmp) (flat_map (λ winner. jobs_recorded winner.path (create_row_at tables winner.path)) sources)

module _ (config : Config) (winners : List Winner) where
  -- the folder rows, where they differ
  abbrev pub folder_changes : PlainTables → List Whole
  folder_changes tables = if same_folders tables.folders (folder_rows config) then [] else put_folders (folder_rows config) ∷ []

  -- the source of a path
  abbrev pub source_at : List ℕ → Option Winner
  source_at path = find (λ winner. bytes_eq winner.path path) (sources config winners)

  -- the sources that are there or were, by path
  abbrev pub source_changes : PlainTables → List Whole
  source_changes tables = flat_map (λ path. source_change path (source_at path) (source_row_at tables path))
      (in_order bytes_cmp (map (λ winner. winner.path) (sources config winners) ++ map (λ row. row.path) tables.sources))

module _ (builders : Meanings) (config : Config) (winners : List Winner) where
  -- the creations that don't stand, by path
  abbrev pub create_changes : PlainTables → List Whole
  create_changes tables = map (λ winner. put_create (create_row builders config winners winner.path))
      (filter (λ winner. not (creation_stands builders config winners tables winner.path)) (sources config winners))

  -- the jobs whose results don't stand, by job id
  abbrev pub job_changes : PlainTables → List Whole
  job_changes tables = flat_map (λ job. put_of (job_row builders config winners job))
      (filter (λ job. not (job_stands builders config winners tables job)) (all_jobs builders config winners))

  -- the tables with the folder rows, with the rows of the sources, and with the creations
  abbrev pub with_folder_rows : PlainTables → PlainTables
  with_folder_rows tables = after_all tables (folder_changes config winners tables)

  abbrev pub with_source_rows : PlainTables → PlainTables
  with_source_rows tables = after_all (with_folder_rows tables) (source_changes config winners (with_folder_rows tables))

  abbrev pub with_creations : PlainTables → PlainTables
  with_creations tables = after_all (with_source_rows tables) (create_changes (with_source_rows tables))

  -- the changes of the folder rows, the sources and the creations, each as the tables are then
  abbrev pub front_changes : PlainTables → List Whole
  front_changes tables = folder_changes config winners tables ++ source_changes config winners (with_folder_rows tables) ++ create_changes (with_source_rows tables)

  -- the changes of a run: these, and then the jobs
  abbrev pub changes : PlainTables → List Whole
  changes tables = front_changes tables ++ job_changes (with_creations tables)
