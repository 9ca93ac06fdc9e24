-- The state after a put or a removal, with what this gave.
use Rattle.std.specs.Prelude.{◌≡◌, ℕ, List, Option}
use Rattle.ap_text.specs.declared.job_id.JobId.{JobId}
use Rattle.ap_content.specs.Entries.{Entry}
use Rattle.ap_rows.specs.declared.row.SourceRow.{SourceRow}
use Rattle.ap_rows.specs.declared.row.CreateRow.{CreateRow}
use Rattle.ap_rows.specs.declared.row.JobRow.{JobRow}
use Rattle.ap_db.specs.declared.state.State.{State}
use Rattle.ap_db.specs.Tables.{PlainSource, PlainCreate, PlainJob}
use Rattle.ap_db.specs.Changes.{with_source, without_source, with_create, without_create, with_job, without_job, source_cmp, create_cmp, job_row_cmp, source_row_at, create_row_at, job_row_at}
use Rattle.ap_db.specs.Stored.{Stored, with_tables}
use Rattle.ap_db.specs.States.{StandsFor, Names, SourceIs, CreateIs, JobIs, TablesRise}
use Rattle.ap_db.specs.Listed.{AreBoth, replaced}

-- a row was put, and this is the one that it replaced
pub record HasPutSource (state : State) (contents : List (Option Entry)) (stored : Stored) (plain : PlainSource) (key : List ℕ) (old : Option SourceRow) : Type 0 where
  pub stands : StandsFor state contents (with_tables stored (with_source stored.tables plain))
  pub rise : TablesRise stored.tables
  pub same : key ≡ plain.path
  pub gave : AreBoth (SourceIs (Names state.things.items contents)) old (replaced source_cmp plain stored.tables.sources)

-- the row of a key was removed, where there was one, and this is it
pub record HasRemovedSource (state : State) (contents : List (Option Entry)) (stored : Stored) (key : List ℕ) (old : Option SourceRow) : Type 0 where
  pub stands : StandsFor state contents (with_tables stored (without_source stored.tables key))
  pub rise : TablesRise stored.tables
  pub gave : AreBoth (SourceIs (Names state.things.items contents)) old (source_row_at stored.tables key)

-- a row was put, and this is the one that it replaced
pub record HasPutCreate (state : State) (contents : List (Option Entry)) (stored : Stored) (plain : PlainCreate) (key : List ℕ) (old : Option CreateRow) : Type 0 where
  pub stands : StandsFor state contents (with_tables stored (with_create stored.tables plain))
  pub rise : TablesRise stored.tables
  pub same : key ≡ plain.source
  pub gave : AreBoth (CreateIs (Names state.things.items contents)) old (replaced create_cmp plain stored.tables.creates)

-- the row of a key was removed, where there was one, and this is it
pub record HasRemovedCreate (state : State) (contents : List (Option Entry)) (stored : Stored) (key : List ℕ) (old : Option CreateRow) : Type 0 where
  pub stands : StandsFor state contents (with_tables stored (without_create stored.tables key))
  pub rise : TablesRise stored.tables
  pub gave : AreBoth (CreateIs (Names state.things.items contents)) old (create_row_at stored.tables key)

-- a row was put, and this is the one that it replaced
pub record HasPutJob (state : State) (contents : List (Option Entry)) (stored : Stored) (plain : PlainJob) (key : JobId) (old : Option JobRow) : Type 0 where
  pub stands : StandsFor state contents (with_tables stored (with_job stored.tables plain))
  pub rise : TablesRise stored.tables
  pub same : key ≡ plain.id
  pub gave : AreBoth (JobIs (Names state.things.items contents)) old (replaced job_row_cmp plain stored.tables.jobs)

-- the row of a key was removed, where there was one, and this is it
pub record HasRemovedJob (state : State) (contents : List (Option Entry)) (stored : Stored) (key : JobId) (old : Option JobRow) : Type 0 where
  pub stands : StandsFor state contents (with_tables stored (without_job stored.tables key))
  pub rise : TablesRise stored.tables
  pub gave : AreBoth (JobIs (Names state.things.items contents)) old (job_row_at stored.tables key)
