-- The stores that runs leave.
use Rattle.std.specs.Prelude.{◌≡◌, ℕ, true, List, IsSome, Contains, Ok, Some}
use Rattle.ap_content.specs.Things.{Thing}
use Rattle.ap_rows.specs.Inputs.{CreateFrom, MadeFrom}
use Rattle.ap_rows.specs.Forms.{create_from_thing, made_from_thing}
use Rattle.ap_rows.specs.Jobs.{jobs_of, is_job}
use Rattle.ap_builder.specs.Meanings.{Meanings}
use Rattle.ap_builder.specs.Views.{job_view}
use Rattle.ap_create.specs.Creation.{created}
use Rattle.ap_db.specs.Tables.{PlainCreate, PlainOutcome, PlainResult, processed, on_cycle, lacks, after_failure, PlainJob, PlainTables}
use Rattle.ap_db.specs.Changes.{source_row_at}
use Rattle.ap_db.specs.Stored.{Stored, stored_in, values}
use Rattle.ap_db.specs.Members.{AreIn}
use Rattle.ap_db.specs.DropLaws.{reached}
use Rattle.ap_db.specs.WellStored.{IsWellStored}
use Rattle.ap_engine.specs.Settled.{plain_outcome}

-- a create row answers what is created from its recorded input
pub record IsCreation (builders : Meanings) (row : PlainCreate) : Type 0 where
  pub from : CreateFrom
  pub recorded : create_from_thing row.input ≡ Some from
  pub answered : created builders from ≡ row.created

-- an outcome is what is made from the recorded input
pub record IsMade (builders : Meanings) (input : Thing) (outcome : PlainOutcome) : Type 0 where
  pub from : MadeFrom
  pub recorded : made_from_thing input ≡ Some from
  pub answered : plain_outcome (builders.makes (job_view from)) ≡ outcome

-- a processed row has such an outcome, and nothing is said of the others
abbrev pub IsProcessing : Meanings → PlainResult → Type 0
IsProcessing builders (processed input outcome) = IsMade builders input outcome
IsProcessing builders on_cycle = Unit {0}
IsProcessing builders (lacks d) = Unit {0}
IsProcessing builders (after_failure d) = Unit {0}

-- the create row of the job's source has the job
pub record HasCreation (tables : PlainTables) (row : PlainJob) : Type 0 where
  pub create : PlainCreate
  pub there : Contains tables.creates create
  pub same : create.source ≡ row.id.source
  pub among : is_job (jobs_of create.source create.created) row.id ≡ true

-- rows answer what their recorded inputs say, each create row has its source and each job row its creation
pub record AreSoundTables (builders : Meanings) (tables : PlainTables) : Type 0 where
  pub creations : (row : PlainCreate) → Contains tables.creates row → IsCreation builders row
  pub processings : (row : PlainJob) → Contains tables.jobs row → IsProcessing builders row.result
  pub sources : (row : PlainCreate) → Contains tables.creates row → IsSome (source_row_at tables row.source)
  pub jobs : (row : PlainJob) → Contains tables.jobs row → HasCreation tables row

-- what is stored is of such rows, each live thing is reached from a row, and it is well stored
pub record IsSoundStored (builders : Meanings) (stored : Stored) : Type 0 where
  pub rows : AreSoundTables builders stored.tables
  pub reached : AreIn (values stored) (reached stored.tables)
  pub well : IsWellStored stored

-- the file is a store of such rows, and each live thing is reached from a row
pub record IsSound (builders : Meanings) (file : List ℕ) : Type 0 where
  pub stored : Stored
  pub lawful : stored_in file ≡ Ok stored
  pub rows : AreSoundTables builders stored.tables
  pub reached : AreIn (values stored) (reached stored.tables)

-- the file is a store of exactly these tables
pub record HasTables (wanted : PlainTables) (file : List ℕ) : Type 0 where
  pub stored : Stored
  pub lawful : stored_in file ≡ Ok stored
  pub tables : stored.tables ≡ wanted

-- each image that a crash may leave now is sound
abbrev pub IsLeft : Meanings → (List ℕ → Type 0) → Type 0
IsLeft builders IsImage = (file : List ℕ) → IsImage file → IsSound builders file
