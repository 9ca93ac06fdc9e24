-- The tables that a configuration and its winners settle to.
use Rattle.std.specs.Prelude.{ℕ, List, map, Option, Some, None}
use Rattle.std.specs.List.{filter_map}
use Rattle.std.specs.Ordering.{nat_cmp, on}
use Rattle.ap_text.specs.declared.job_id.JobId.{JobId}
use Rattle.ap_text.specs.Order.{in_order}
use Rattle.ap_text.specs.declared.seen.Seen.{Seen}
use Rattle.ap_text.specs.declared.seen.Seen.TheVariants.{Bytes, Absent, TooLarge}
use Rattle.ap_content.specs.Things.{Thing, bytes_thing}
use Rattle.ap_config.specs.declared.config.Config.{Config}
use Rattle.ap_scan.specs.declared.results.Winner.{Winner}
use Rattle.ap_rows.specs.declared.row.FolderRow.{FolderRow}
use Rattle.ap_rows.specs.Inputs.{products_thing, input_thing}
use Rattle.ap_rows.specs.Jobs.{Job, id_of}
use Rattle.ap_builder.specs.declared.work.Outcome.{Outcome}
use Rattle.ap_builder.specs.declared.work.Outcome.TheVariants.{Done, Failed}
use Rattle.ap_builder.specs.Meanings.{Meanings}
use Rattle.ap_builder.specs.Views.{plain_of}
use Rattle.ap_db.specs.Tables.{PlainSource, PlainCreate, PlainOutcome, done, failed, PlainResult, processed, on_cycle, lacks, after_failure, PlainJob, PlainTables}
use Rattle.ap_sources.specs.Sources.{sources}
use Rattle.ap_create.specs.Creation.{create_from, create_input_of, created, all_jobs}
use Rattle.ap_engine.specs.Verdict.{Verdict, cycle, missing, dep_failed, answered, verdict_of}

-- the folder rows of a configuration, by order
abbrev pub folder_rows : Config → List FolderRow
folder_rows config = in_order (on (λ row. row.order) nat_cmp) (map (λ folder. record { order = folder.order; path = folder.path }) config.folders)

-- the thing of what is seen
abbrev pub content_thing : Seen → Option Thing
content_thing (Bytes bytes) = Some (bytes_thing bytes)
content_thing Absent = None
content_thing TooLarge = None

-- the row of a source
abbrev pub source_row : Winner → PlainSource
source_row winner = record { path = winner.path; order = winner.order; name = winner.name; content = content_thing winner.seen }

-- an outcome with its products as a thing
abbrev pub plain_outcome : Outcome → PlainOutcome
plain_outcome (Done products) = done (products_thing (map plain_of products))
plain_outcome (Failed code) = failed code

-- a verdict as a row has it
abbrev pub plain_result : Verdict → PlainResult
plain_result cycle = on_cycle
plain_result (missing d) = lacks d
plain_result (dep_failed d) = after_failure d
plain_result (answered from outcome) = processed (input_thing from) (plain_outcome outcome)

-- the row of a job with a verdict
abbrev pub row_of_verdict : JobId → Option Verdict → Option PlainJob
row_of_verdict id None = None
row_of_verdict id (Some verdict) = Some (record { id = id; result = plain_result verdict })

module _ (builders : Meanings) (config : Config) (winners : List Winner) where
  -- the row that a source's creation settles to
  abbrev pub create_row : List ℕ → PlainCreate
  create_row path = record {
    source = path;
    input = create_input_of builders config winners path;
    created = created builders (create_from builders config winners path);
  }

  -- the row that a job settles to
  abbrev pub job_row : Job → Option PlainJob
  job_row job = row_of_verdict (id_of job) (verdict_of builders config winners job)

  -- the tables that all settles to
  abbrev pub settled : PlainTables
  settled = record {
    folders = folder_rows config;
    sources = map source_row (sources config winners);
    creates = map (λ winner. create_row winner.path) (sources config winners);
    jobs = filter_map job_row (all_jobs builders config winners);
  }
