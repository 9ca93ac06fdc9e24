-- The items of a whole change, in their order, and what is stored after the commits of whole changes.
use Rattle.std.specs.Prelude.{not, List, [], ◌∷◌, ◌++◌, map, filter, fold, Option, Some, None, bytes_eq}
use Rattle.ap_db.specs.Tables.{PlainCreate, PlainJob, PlainTables}
use Rattle.ap_db.specs.Changes.{Whole, put_folders, put_source, remove_source, put_create, put_job, stays_beside, create_row_at}
use Rattle.ap_db.specs.Stored.{Stored}
use Rattle.ap_db.specs.Commit.{PlainItem, puts_folders, puts_source, removes_source, puts_create, removes_create, puts_job, removes_job, after_commit}

-- the removal of a create row, where there is one
abbrev pub removal_of : Option PlainCreate → List PlainItem
removal_of None = []
removal_of (Some row) = removes_create row.source ∷ []

-- the removals of job rows
abbrev pub job_removals : List PlainJob → List PlainItem
job_removals rows = map (λ row. removes_job row.id) rows

-- a source goes with its create row and its job rows, and a put creation removes the rows of the jobs that are
-- gone, by job id
unfoldable pub items_of : PlainTables → Whole → List PlainItem
items_of tables (put_folders rows) = puts_folders rows ∷ []
items_of tables (put_source row) = puts_source row ∷ []
items_of tables (remove_source path) = removes_source path ∷ removal_of (create_row_at tables path)
    ++ job_removals (filter (λ row. bytes_eq row.id.source path) tables.jobs)
items_of tables (put_create row) = puts_create row ∷ job_removals (filter (λ job. not (stays_beside row job)) tables.jobs)
items_of tables (put_job row) = puts_job row ∷ []

-- what is stored after the commit of a whole change
unfoldable pub committed : Stored → Whole → Stored
committed stored change = after_commit stored (items_of stored.tables change)

-- and after the commits of several in order
unfoldable pub all_committed : Stored → List Whole → Stored
all_committed stored changes = fold committed stored changes
