-- How a change is spelled in bytes: the one spelling of each item.
use Rattle.std.specs.Prelude.{ℕ, List, [], ◌∷◌, ◌++◌}
use Rattle.std.specs.List.{flat_map}
use Rattle.std.specs.Int.{w32, cast_unsigned}
use Rattle.ap_content.specs.declared.node.Number.{Number}
use Rattle.ap_rows.specs.Fields.{number_field, run_field, list_field, path_field, name_field, job_field}
use Rattle.ap_rows.specs.declared.job.DepKind.{DepKind}
use Rattle.ap_rows.specs.declared.job.DepKind.TheVariants.{Order, OrderOnce, Fingerprint}
use Rattle.ap_rows.specs.declared.job.DependencyRow.{DependencyRow}
use Rattle.ap_rows.specs.declared.job.JobDesc.{JobDesc}
use Rattle.ap_rows.specs.declared.job.Created.{Created}
use Rattle.ap_rows.specs.declared.job.Created.TheVariants.{Jobs, Builder, DuplicateKey, TooLarge}
use Rattle.ap_rows.specs.declared.row.FolderRow.{FolderRow}
use Rattle.ap_rows.specs.declared.row.SourceRow.{SourceRow}
use Rattle.ap_rows.specs.declared.row.CreateRow.{CreateRow}
use Rattle.ap_rows.specs.declared.row.JobRow.{JobRow}
use Rattle.ap_rows.specs.declared.row.SeenRow.{SeenRow}
use Rattle.ap_rows.specs.declared.row.SeenRow.TheVariants.{Bytes, TooLarge as SeenTooLarge}
use Rattle.ap_rows.specs.declared.row.OutcomeRow.{OutcomeRow}
use Rattle.ap_rows.specs.declared.row.OutcomeRow.TheVariants.{Done, Failed}
use Rattle.ap_rows.specs.declared.row.JobResult.{JobResult}
use Rattle.ap_rows.specs.declared.row.JobResult.TheVariants.{Processed, Cycle, Missing, DepFailed}
use Rattle.ap_rows.specs.declared.change.Item.{Item}
use Rattle.ap_rows.specs.declared.change.Item.TheVariants.{Define, Drop, PutSource, RemoveSource, PutCreate, RemoveCreate, PutJob, RemoveJob, PutFolders}

-- the number of a thing
abbrev pub thing_field : Number → List ℕ
thing_field n = number_field 8 n.0

-- the byte of a kind
abbrev pub kind_byte : DepKind → ℕ
kind_byte Order = 0
kind_byte OrderOnce = 1
kind_byte Fingerprint = 2

-- a dependency
abbrev pub dependency_field : DependencyRow → List ℕ
dependency_field dep = kind_byte dep.kind ∷ job_field dep.job

-- what stands of a job before its parameters
abbrev pub terms_field : JobDesc → List ℕ
terms_field job = name_field job.builder ++ number_field 4 job.version ++ name_field job.platform ++ name_field job.key ++ number_field 4 (cast_unsigned w32 job.priority)

-- a job that was created
abbrev pub desc_field : JobDesc → List ℕ
desc_field job = terms_field job ++ run_field 4 job.params ++ list_field 4 dependency_field job.deps

-- how a source was seen
abbrev pub seen_field : SeenRow → List ℕ
seen_field (Bytes n) = 0 ∷ thing_field n
seen_field SeenTooLarge = 2 ∷ []

-- what a creation came to
abbrev pub created_field : Created → List ℕ
created_field (Jobs jobs) = 0 ∷ list_field 4 desc_field jobs
created_field (Builder builder code) = 1 ∷ name_field builder ++ number_field 4 code
created_field (DuplicateKey key platform) = 2 ∷ name_field key ++ name_field platform
created_field TooLarge = 3 ∷ []

-- what processing came to
abbrev pub outcome_field : OutcomeRow → List ℕ
outcome_field (Done n) = 0 ∷ thing_field n
outcome_field (Failed code) = 1 ∷ number_field 4 code

-- what became of a job
abbrev pub result_field : JobResult → List ℕ
result_field (Processed n outcome) = 0 ∷ thing_field n ++ outcome_field outcome
result_field Cycle = 1 ∷ []
result_field (Missing d) = 2 ∷ job_field d
result_field (DepFailed d) = 3 ∷ job_field d

-- a folder's order and path
abbrev pub folder_field : FolderRow → List ℕ
folder_field row = number_field 4 row.order ++ path_field row.path

-- a source's row
abbrev pub source_field : SourceRow → List ℕ
source_field row = path_field row.path ++ number_field 4 row.order ++ path_field row.name ++ seen_field row.seen

-- the row of a source's creation
abbrev pub create_field : CreateRow → List ℕ
create_field row = path_field row.source ++ thing_field row.input ++ created_field row.created

-- a job's row
abbrev pub job_row_field : JobRow → List ℕ
job_row_field row = job_field row.id ++ result_field row.result

-- the bytes of an item
abbrev pub item_field : Item → List ℕ
item_field (Define tag text kids) = 1 ∷ tag ∷ run_field 4 text ++ list_field 4 thing_field kids
item_field (Drop n) = 2 ∷ thing_field n
item_field (PutSource row) = 3 ∷ source_field row
item_field (RemoveSource path) = 4 ∷ path_field path
item_field (PutCreate row) = 5 ∷ create_field row
item_field (RemoveCreate path) = 6 ∷ path_field path
item_field (PutJob row) = 7 ∷ job_row_field row
item_field (RemoveJob id) = 8 ∷ job_field id
item_field (PutFolders rows) = 9 ∷ list_field 4 folder_field rows

-- the bytes of a change
abbrev pub spelled : List Item → List ℕ
spelled items = flat_map item_field items
