-- The rows of the tables with things in the place of numbers.
use Rattle.std.specs.Prelude.{ℕ, List, [], Option}
use Rattle.ap_text.specs.declared.job_id.JobId.{JobId}
use Rattle.ap_content.specs.Things.{Thing}
use Rattle.ap_rows.specs.declared.job.Created.{Created}
use Rattle.ap_rows.specs.declared.row.FolderRow.{FolderRow}

-- a source's row: its content is a thing of bytes, and none where it is too large
pub record PlainSource : Type 0 where
  pub path : List ℕ
  pub order : ℕ
  pub name : List ℕ
  pub content : Option Thing

-- the row of a source's creation
pub record PlainCreate : Type 0 where
  pub source : List ℕ
  pub input : Thing
  pub created : Created

-- what processing came to, its products as a thing
pub data PlainOutcome : Type 0 where
  done : Thing → PlainOutcome
  failed : ℕ → PlainOutcome

-- what became of a job, with its input
pub data PlainResult : Type 0 where
  processed : Thing → PlainOutcome → PlainResult
  on_cycle : PlainResult
  lacks : JobId → PlainResult
  after_failure : JobId → PlainResult

-- the row of a job
pub record PlainJob : Type 0 where
  pub id : JobId
  pub result : PlainResult

pub record PlainTables : Type 0 where
  pub folders : List FolderRow
  pub sources : List PlainSource
  pub creates : List PlainCreate
  pub jobs : List PlainJob

-- tables without rows
abbrev pub no_tables : PlainTables
no_tables = record { folders = []; sources = []; creates = []; jobs = [] }
