-- Which changes a commit takes, item by item.
use Rattle.std.specs.Prelude.{ℕ, Bool, true, List, [], ◌∷◌, Option, Some, None, is_some, ◌==◌, ◌&&◌, ◌||◌}
use Rattle.std.specs.List.{list_all}
use Rattle.ap_content.specs.Things.{Thing}
use Rattle.ap_rows.specs.Readers.{is_folded}
use Rattle.ap_rows.specs.Folded.{is_folded_job, is_folded_created}
use Rattle.ap_rows.specs.Forms.{has_form}
use Rattle.ap_db.specs.Same.{tag_of, is_among}
use Rattle.ap_db.specs.Tables.{PlainOutcome, done, failed, PlainResult, processed, on_cycle, lacks, after_failure, PlainTables}
use Rattle.ap_db.specs.Changes.{source_row_at, create_row_at, job_row_at, with_folders, with_source, without_source, with_create, without_create, with_job, without_job}
use Rattle.ap_db.specs.Stored.{Stored, values, orders_rise}
use Rattle.ap_db.specs.Commit.{PlainItem, puts_folders, puts_source, removes_source, puts_create, removes_create, puts_job, removes_job, with_below}

-- a thing of this tag, of which each part that the file lacks has its tag's form
unfoldable pub is_good_thing : Stored → ℕ → Thing → Bool
is_good_thing stored tag x = tag_of x == tag && list_all (λ part. is_among (values stored) part || has_form part) (with_below x)

-- a source's content is a thing of bytes
abbrev pub is_good_content : Stored → Option Thing → Bool
is_good_content stored None = true
is_good_content stored (Some x) = is_good_thing stored 0 x

-- an outcome has a thing of products
abbrev pub is_good_outcome : Stored → PlainOutcome → Bool
is_good_outcome stored (done x) = is_good_thing stored 3 x
is_good_outcome stored (failed code) = true

-- a result has a job input and its outcome, or a folded job id
abbrev pub is_good_result : Stored → PlainResult → Bool
is_good_result stored (processed input outcome) = is_good_thing stored 2 input && is_good_outcome stored outcome
is_good_result stored on_cycle = true
is_good_result stored (lacks d) = is_folded_job d
is_good_result stored (after_failure d) = is_folded_job d

-- an item that may stand there: what it names has its form, a removed row is there, paths are folded, orders rise
unfoldable pub is_lawful_item : Stored → PlainTables → PlainItem → Bool
is_lawful_item stored tables (puts_folders rows) = orders_rise rows
is_lawful_item stored tables (puts_source row) = is_folded row.path && is_good_content stored row.content
is_lawful_item stored tables (removes_source path) = is_some (source_row_at tables path)
is_lawful_item stored tables (puts_create row) = is_folded row.source && is_good_thing stored 1 row.input && is_folded_created row.created
is_lawful_item stored tables (removes_create path) = is_some (create_row_at tables path)
is_lawful_item stored tables (puts_job row) = is_folded_job row.id && is_good_result stored row.result
is_lawful_item stored tables (removes_job id) = is_some (job_row_at tables id)

-- the tables after an item
abbrev pub after_plain : PlainTables → PlainItem → PlainTables
after_plain tables (puts_folders rows) = with_folders tables rows
after_plain tables (puts_source row) = with_source tables row
after_plain tables (removes_source path) = without_source tables path
after_plain tables (puts_create row) = with_create tables row
after_plain tables (removes_create path) = without_create tables path
after_plain tables (puts_job row) = with_job tables row
after_plain tables (removes_job id) = without_job tables id

-- each item is lawful after those before it
abbrev pub are_lawful : Stored → PlainTables → List PlainItem → Bool
are_lawful stored tables [] = true
are_lawful stored tables (item ∷ items) = is_lawful_item stored tables item && are_lawful stored (after_plain tables item) items

-- a change that a commit takes
unfoldable pub is_lawful : Stored → List PlainItem → Bool
is_lawful stored change = are_lawful stored stored.tables change
