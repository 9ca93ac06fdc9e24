-- The rows of a key, the whole changes of tables, and the tables after them.
use Rattle.std.specs.Prelude.{ℕ, Bool, not, List, [], filter, map, fold, find, Option, is_some, ◌||◌, bytes_eq}
use Rattle.std.specs.declared.cmp.Ordering.{Ordering}
use Rattle.std.specs.Ordering.{on}
use Rattle.ap_text.specs.Order.{bytes_cmp, put_in_order}
use Rattle.ap_text.specs.JobOrder.{job_cmp, same_job}
use Rattle.ap_text.specs.declared.job_id.JobId.{JobId}
use Rattle.ap_rows.specs.declared.job.JobDesc.{JobDesc}
use Rattle.ap_rows.specs.declared.job.Created.{Created}
use Rattle.ap_rows.specs.declared.job.Created.TheVariants.{Jobs, Builder, DuplicateKey, TooLarge}
use Rattle.ap_rows.specs.declared.row.FolderRow.{FolderRow}
use Rattle.ap_db.specs.Tables.{PlainSource, PlainCreate, PlainJob, PlainTables}

-- ---- rows by their keys

abbrev pub source_cmp : PlainSource → PlainSource → Ordering
source_cmp = on (λ row. row.path) bytes_cmp

abbrev pub create_cmp : PlainCreate → PlainCreate → Ordering
create_cmp = on (λ row. row.source) bytes_cmp

abbrev pub job_row_cmp : PlainJob → PlainJob → Ordering
job_row_cmp = on (λ row. row.id) job_cmp

-- the source row of a path
abbrev pub source_row_at : PlainTables → List ℕ → Option PlainSource
source_row_at tables path = find (λ row. bytes_eq row.path path) tables.sources

-- the create row of a source
abbrev pub create_row_at : PlainTables → List ℕ → Option PlainCreate
create_row_at tables path = find (λ row. bytes_eq row.source path) tables.creates

-- the row of a job
abbrev pub job_row_at : PlainTables → JobId → Option PlainJob
job_row_at tables id = find (λ row. same_job row.id id) tables.jobs

-- ---- one row more or less

abbrev pub with_folders : PlainTables → List FolderRow → PlainTables
with_folders tables rows = record tables { folders = rows }

abbrev pub with_source : PlainTables → PlainSource → PlainTables
with_source tables row = record tables { sources = put_in_order source_cmp row tables.sources }

abbrev pub without_source : PlainTables → List ℕ → PlainTables
without_source tables path = record tables { sources = filter (λ row. not (bytes_eq row.path path)) tables.sources }

abbrev pub with_create : PlainTables → PlainCreate → PlainTables
with_create tables row = record tables { creates = put_in_order create_cmp row tables.creates }

abbrev pub without_create : PlainTables → List ℕ → PlainTables
without_create tables path = record tables { creates = filter (λ row. not (bytes_eq row.source path)) tables.creates }

abbrev pub with_job : PlainTables → PlainJob → PlainTables
with_job tables row = record tables { jobs = put_in_order job_row_cmp row tables.jobs }

abbrev pub without_job : PlainTables → JobId → PlainTables
without_job tables id = record tables { jobs = filter (λ row. not (same_job row.id id)) tables.jobs }

-- ---- whole changes

-- one whole change: it leaves no job without its creation and no creation without its source
pub data Whole : Type 0 where
  put_folders : List FolderRow → Whole
  put_source : PlainSource → Whole
  remove_source : List ℕ → Whole
  put_create : PlainCreate → Whole
  put_job : PlainJob → Whole

-- the id of a source's job
abbrev pub id_of : List ℕ → JobDesc → JobId
id_of source desc = record { source = source; key = desc.key; platform = desc.platform }

-- the ids of the jobs that were created of a source
abbrev pub created_ids : List ℕ → Created → List JobId
created_ids source (Jobs jobs) = map (id_of source) jobs
created_ids source (Builder builder code) = []
created_ids source (DuplicateKey key platform) = []
created_ids source TooLarge = []

-- a job row stays beside a creation of its source where it is of one of the jobs created
abbrev pub stays_beside : PlainCreate → PlainJob → Bool
stays_beside create row = not (bytes_eq row.id.source create.source) || is_some (find (λ id. same_job id row.id) (created_ids create.source create.created))

-- the tables after a change
abbrev pub after : PlainTables → Whole → PlainTables
after tables (put_folders rows) = with_folders tables rows
after tables (put_source row) = with_source tables row
after tables (remove_source path) = record tables {
  sources = filter (λ row. not (bytes_eq row.path path)) tables.sources;
  creates = filter (λ row. not (bytes_eq row.source path)) tables.creates;
  jobs = filter (λ row. not (bytes_eq row.id.source path)) tables.jobs;
}
after tables (put_create row) = record (with_create tables row) { jobs = filter (stays_beside row) tables.jobs }
after tables (put_job row) = with_job tables row

-- the tables after changes in order
abbrev pub after_all : PlainTables → List Whole → PlainTables
after_all = fold after
