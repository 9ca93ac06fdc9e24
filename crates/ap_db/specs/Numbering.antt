-- Rows and items with other numbers: those of the file in the place of those of the contents.
use Rattle.std.specs.Prelude.{List, Option, unwrap_or}
use Rattle.ap_content.specs.declared.node.Number.{Number}
use Rattle.ap_rows.specs.declared.row.SourceRow.{SourceRow}
use Rattle.ap_rows.specs.declared.row.CreateRow.{CreateRow}
use Rattle.ap_rows.specs.declared.row.JobRow.{JobRow}
use Rattle.ap_rows.specs.declared.row.SeenRow.{SeenRow}
use Rattle.ap_rows.specs.declared.row.SeenRow.TheVariants.{Bytes, TooLarge}
use Rattle.ap_rows.specs.declared.row.OutcomeRow.{OutcomeRow}
use Rattle.ap_rows.specs.declared.row.OutcomeRow.TheVariants.{Done, Failed}
use Rattle.ap_rows.specs.declared.row.JobResult.{JobResult}
use Rattle.ap_rows.specs.declared.row.JobResult.TheVariants.{Processed, Cycle, Missing, DepFailed}
use Rattle.ap_rows.specs.declared.change.Item.{Item}
use Rattle.ap_rows.specs.declared.change.Item.TheVariants.{Define, Drop, PutSource, RemoveSource, PutCreate, RemoveCreate, PutJob, RemoveJob, PutFolders}
use Rattle.ap_db.specs.declared.things.FileThing.{FileThing}
use Rattle.ap_db.specs.States.{file_number}

-- the file's number of the thing of a number; 0 is none
abbrev pub in_file : List (Option FileThing) → Number → Number
in_file things m = record { 0 = unwrap_or (file_number things m) 0 }

module _ (number : Number → Number) where
  abbrev pub seen_by : SeenRow → SeenRow
  seen_by (Bytes n) = Bytes (number n)
  seen_by TooLarge = TooLarge

  abbrev pub source_by : SourceRow → SourceRow
  source_by row = record row { seen = seen_by row.seen }

  abbrev pub create_by : CreateRow → CreateRow
  create_by row = record row { input = number row.input }

  abbrev pub outcome_by : OutcomeRow → OutcomeRow
  outcome_by (Done n) = Done (number n)
  outcome_by (Failed code) = Failed code

  abbrev pub result_by : JobResult → JobResult
  result_by (Processed n outcome) = Processed (number n) (outcome_by outcome)
  result_by Cycle = Cycle
  result_by (Missing d) = Missing d
  result_by (DepFailed d) = DepFailed d

  abbrev pub job_by : JobRow → JobRow
  job_by row = record row { result = result_by row.result }

  -- a Define and a Drop stay as they are
  abbrev pub item_by : Item → Item
  item_by (Define tag text kids) = Define tag text kids
  item_by (Drop n) = Drop n
  item_by (PutSource row) = PutSource (source_by row)
  item_by (RemoveSource path) = RemoveSource path
  item_by (PutCreate row) = PutCreate (create_by row)
  item_by (RemoveCreate path) = RemoveCreate path
  item_by (PutJob row) = PutJob (job_by row)
  item_by (RemoveJob id) = RemoveJob id
  item_by (PutFolders rows) = PutFolders rows
