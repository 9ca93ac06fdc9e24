-- What items of a change replaced or removed, with numbers, and the plain rows that these are.
use Rattle.std.specs.Prelude.{◌≡◌, ⊤, List, [], ◌∷◌, Option, Some, None}
use Rattle.ap_content.specs.Things.{Thing}
use Rattle.ap_content.specs.declared.node.Number.{Number}
use Rattle.ap_rows.specs.declared.row.FolderRow.{FolderRow}
use Rattle.ap_rows.specs.declared.row.SourceRow.{SourceRow}
use Rattle.ap_rows.specs.declared.row.CreateRow.{CreateRow}
use Rattle.ap_rows.specs.declared.row.JobRow.{JobRow}
use Rattle.ap_db.specs.declared.old.Old.{Old}
use Rattle.ap_db.specs.declared.old.Old.TheVariants.{Folders, Source, Create, Job, Nothing}
use Rattle.ap_db.specs.Tables.{PlainTables}
use Rattle.ap_db.specs.Changes.{source_cmp, create_cmp, job_row_cmp, source_row_at, create_row_at, job_row_at}
use Rattle.ap_db.specs.Commit.{PlainItem, puts_folders, puts_source, removes_source, puts_create, removes_create, puts_job, removes_job}
use Rattle.ap_db.specs.Lawful.{after_plain}
use Rattle.ap_db.specs.Listed.{AreBoth, replaced}
use Rattle.ap_db.specs.Naming.{named_by, source_numbers, create_numbers, job_numbers}
use Rattle.ap_db.specs.States.{SourceIs, CreateIs, JobIs}

-- the rows that it is
abbrev pub folders_in : Old → Option (List FolderRow)
folders_in (Folders rows) = Some rows
folders_in (Source row) = None
folders_in (Create row) = None
folders_in (Job row) = None
folders_in Nothing = None

abbrev pub source_in : Old → Option SourceRow
source_in (Folders rows) = None
source_in (Source row) = row
source_in (Create row) = None
source_in (Job row) = None
source_in Nothing = None

abbrev pub create_in : Old → Option CreateRow
create_in (Folders rows) = None
create_in (Source row) = None
create_in (Create row) = row
create_in (Job row) = None
create_in Nothing = None

abbrev pub job_in : Old → Option JobRow
job_in (Folders rows) = None
job_in (Source row) = None
job_in (Create row) = None
job_in (Job row) = row
job_in Nothing = None

-- the numbers that its row names
abbrev pub numbers_in : Old → List Number
numbers_in (Folders rows) = []
numbers_in (Source row) = named_by source_numbers row
numbers_in (Create row) = named_by create_numbers row
numbers_in (Job row) = named_by job_numbers row
numbers_in Nothing = []

-- what an item replaces or removes in these tables, where a number names a thing so
abbrev pub GivenIs : (Number → Thing → Type 0) → PlainTables → PlainItem → Old → Type 0
GivenIs N tables (puts_folders rows) old = (old ≡ Folders tables.folders)
GivenIs N tables (puts_source row) old = (found : Option SourceRow) × (old ≡ Source found) × AreBoth (SourceIs N) found (replaced source_cmp row tables.sources)
GivenIs N tables (removes_source path) old = (found : Option SourceRow) × (old ≡ Source found) × AreBoth (SourceIs N) found (source_row_at tables path)
GivenIs N tables (puts_create row) old = (found : Option CreateRow) × (old ≡ Create found) × AreBoth (CreateIs N) found (replaced create_cmp row tables.creates)
GivenIs N tables (removes_create path) old = (found : Option CreateRow) × (old ≡ Create found) × AreBoth (CreateIs N) found (create_row_at tables path)
GivenIs N tables (puts_job row) old = (found : Option JobRow) × (old ≡ Job found) × AreBoth (JobIs N) found (replaced job_row_cmp row tables.jobs)
GivenIs N tables (removes_job id) old = (found : Option JobRow) × (old ≡ Job found) × AreBoth (JobIs N) found (job_row_at tables id)

-- what each item of these replaces or removes, one after another
abbrev pub AreGiven : (Number → Thing → Type 0) → PlainTables → List PlainItem → List Old → Type 0
AreGiven N tables [] [] = ⊤
AreGiven N tables [] (old ∷ olds) = ⊥
AreGiven N tables (item ∷ items) [] = ⊥
AreGiven N tables (item ∷ items) (old ∷ olds) = GivenIs N tables item old × AreGiven N (after_plain tables item) items olds
