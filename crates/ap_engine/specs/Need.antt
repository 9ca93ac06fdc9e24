-- The work that is still to be asked for, from what tables record.
use Rattle.std.specs.Prelude.{ℕ, Bool, true, false, not, ◌&&◌, List, ◌++◌, map, filter, Option, Some, None}
use Rattle.std.specs.List.{flat_map}
use Rattle.ap_text.specs.declared.job_id.JobId.{JobId}
use Rattle.ap_text.specs.declared.seen.Seen.{Seen}
use Rattle.ap_text.specs.declared.seen.Seen.TheVariants.{Bytes, Absent, TooLarge}
use Rattle.ap_content.specs.Things.{Thing}
use Rattle.ap_config.specs.declared.config.Config.{Config}
use Rattle.ap_scan.specs.declared.results.Winner.{Winner}
use Rattle.ap_rows.specs.Inputs.{input_thing}
use Rattle.ap_rows.specs.Jobs.{Job, id_of}
use Rattle.ap_builder.specs.declared.entry.Entry.{Entry}
use Rattle.ap_builder.specs.declared.entry.Entry.TheVariants.{Create, Process}
use Rattle.ap_builder.specs.Meanings.{Meanings}
use Rattle.ap_db.specs.Same.{same_thing}
use Rattle.ap_db.specs.Tables.{PlainCreate, PlainResult, processed, on_cycle, lacks, after_failure, PlainJob, PlainTables}
use Rattle.ap_db.specs.Changes.{create_row_at, job_row_at}
use Rattle.ap_sources.specs.Sources.{matching, sources}
use Rattle.ap_create.specs.Creation.{all_jobs, create_input_of}
use Rattle.ap_engine.specs.Verdict.{Verdict, cycle, missing, dep_failed, answered, verdict_of}

-- a file that is too large
abbrev pub is_too_large : Seen → Bool
is_too_large (Bytes bytes) = false
is_too_large Absent = false
is_too_large TooLarge = true

-- the row records this create input
abbrev pub is_of_input : Thing → Option PlainCreate → Bool
is_of_input input None = false
is_of_input input (Some row) = same_thing row.input input

-- the input of a processing
abbrev pub processed_input : PlainResult → Option Thing
processed_input (processed input outcome) = Some input
processed_input on_cycle = None
processed_input (lacks d) = None
processed_input (after_failure d) = None

-- a recorded input is this one
abbrev pub same_as : Thing → Option Thing → Bool
same_as input None = false
same_as input (Some recorded) = same_thing recorded input

-- the row is of a processing with this input
abbrev pub records_input : Thing → Option PlainJob → Bool
records_input input None = false
records_input input (Some row) = same_as input (processed_input row.result)

module _ (builders : Meanings) (config : Config) (winners : List Winner) where
  -- the creation of a source stands in the tables
  abbrev pub creation_stands : PlainTables → List ℕ → Bool
  creation_stands tables path = is_of_input (create_input_of builders config winners path) (create_row_at tables path)

  -- the source's builders are still to be asked for its jobs
  abbrev pub needs_creation : PlainTables → Winner → Bool
  needs_creation tables winner = not (is_too_large winner.seen) && not (creation_stands tables winner.path)

  -- the verdict isn't the builder's, or the row records the input
  abbrev pub result_stands : PlainTables → JobId → Option Verdict → Bool
  result_stands tables id None = true
  result_stands tables id (Some cycle) = true
  result_stands tables id (Some (missing d)) = true
  result_stands tables id (Some (dep_failed d)) = true
  result_stands tables id (Some (answered from outcome)) = records_input (input_thing from) (job_row_at tables id)

  -- the result of a job stands
  abbrev pub job_stands : PlainTables → Job → Bool
  job_stands tables job = result_stands tables (id_of job) (verdict_of builders config winners job)

  -- what is asked for a source: each matching builder, in configuration order
  abbrev pub creates_of : List ℕ → List Entry
  creates_of path = map (λ builder. Create path builder.name) (matching config path)

  -- the work that is needed from these tables on
  abbrev pub need : PlainTables → List Entry
  need tables = flat_map (λ winner. creates_of winner.path) (filter (needs_creation tables) (sources config winners))
      ++ map (λ job. Process (id_of job)) (filter (λ job. not (job_stands tables job)) (all_jobs builders config winners))
