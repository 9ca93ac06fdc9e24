-- The grammar of a change: which bytes are items, and which items.
use Rattle.std.specs.Prelude.{ℕ, zero, suc, ◌+◌, ◌-◌, List, [], ◌∷◌, length, Option, Some, None, Result, Ok, Err, ◌==◌, if◌then◌else◌}
use Rattle.std.specs.Int.{w32, cast_signed}
use Rattle.ap_content.specs.declared.node.Number.{Number}
use Rattle.ap_rows.specs.Readers.{Reader, ◌>>=◌, gives, refuses, number, run_of, list_of, raw_path, path, name, platform, job_id}
use Rattle.ap_rows.specs.declared.job.DepKind.{DepKind}
use Rattle.ap_rows.specs.declared.job.DepKind.TheVariants.{Order, OrderOnce, Fingerprint}
use Rattle.ap_rows.specs.declared.job.DependencyRow.{DependencyRow}
use Rattle.ap_rows.specs.declared.job.JobDesc.{JobDesc}
use Rattle.ap_rows.specs.declared.job.Created.{Created}
use Rattle.ap_rows.specs.declared.job.Created.TheVariants.{Jobs, Builder, DuplicateKey, TooLarge}
use Rattle.ap_rows.specs.declared.row.FolderRow.{FolderRow}
use Rattle.ap_rows.specs.declared.row.SourceRow.{SourceRow}
use Rattle.ap_rows.specs.declared.row.CreateRow.{CreateRow}
use Rattle.ap_rows.specs.declared.row.JobRow.{JobRow}
use Rattle.ap_rows.specs.declared.row.SeenRow.{SeenRow}
use Rattle.ap_rows.specs.declared.row.SeenRow.TheVariants.{Bytes, TooLarge as SeenTooLarge}
use Rattle.ap_rows.specs.declared.row.OutcomeRow.{OutcomeRow}
use Rattle.ap_rows.specs.declared.row.OutcomeRow.TheVariants.{Done, Failed}
use Rattle.ap_rows.specs.declared.row.JobResult.{JobResult}
use Rattle.ap_rows.specs.declared.row.JobResult.TheVariants.{Processed, Cycle, Missing, DepFailed}
use Rattle.ap_rows.specs.declared.change.Item.{Item}
use Rattle.ap_rows.specs.declared.change.Item.TheVariants.{Define, Drop, PutSource, RemoveSource, PutCreate, RemoveCreate, PutJob, RemoveJob, PutFolders}

-- the number of a thing
unfoldable pub thing_number : Reader Number
thing_number = number 8 >>= λ n. gives (record { 0 = n })

-- the kind of a dependency, by its byte
unfoldable pub kind_by : ℕ → Reader DepKind
kind_by n = if n == 0 then gives Order else if n == 1 then gives OrderOnce else if n == 2 then gives Fingerprint else refuses

unfoldable pub dep_kind : Reader DepKind
dep_kind = number 1 >>= kind_by

-- a dependency
unfoldable pub dependency : Reader DependencyRow
dependency = dep_kind >>= λ kind. job_id >>= λ job. gives (record { kind = kind; job = job })

-- a job that was created
unfoldable pub job_desc : Reader JobDesc
job_desc =
    name >>= λ builder. number 4 >>= λ version. platform >>= λ platform. name >>= λ key. number 4 >>= λ priority. run_of 4 >>= λ params. list_of 4 dependency >>= λ deps.
    gives (record { builder = builder; version = version; platform = platform; key = key; priority = cast_signed w32 priority; params = params; deps = deps })

-- how a source was seen, by its byte
unfoldable pub seen_by : ℕ → Reader SeenRow
seen_by n = if n == 0 then (thing_number >>= λ thing. gives (Bytes thing)) else if n == 2 then gives SeenTooLarge else refuses

unfoldable pub seen : Reader SeenRow
seen = number 1 >>= seen_by

-- what a creation came to, by its byte
unfoldable pub created_by : ℕ → Reader Created
created_by n =
    if n == 0 then (list_of 4 job_desc >>= λ jobs. gives (Jobs jobs))
    else if n == 1 then (name >>= λ builder. number 4 >>= λ code. gives (Builder builder code))
    else if n == 2 then (name >>= λ key. platform >>= λ platform. gives (DuplicateKey key platform))
    else if n == 3 then gives TooLarge
    else refuses

unfoldable pub created : Reader Created
created = number 1 >>= created_by

-- what processing came to, by its byte
unfoldable pub outcome_by : ℕ → Reader OutcomeRow
outcome_by n = if n == 0 then (thing_number >>= λ thing. gives (Done thing)) else if n == 1 then (number 4 >>= λ code. gives (Failed code)) else refuses

unfoldable pub outcome : Reader OutcomeRow
outcome = number 1 >>= outcome_by

-- what became of a job, by its byte
unfoldable pub result_by : ℕ → Reader JobResult
result_by n =
    if n == 0 then (thing_number >>= λ input. outcome >>= λ came. gives (Processed input came))
    else if n == 1 then gives Cycle
    else if n == 2 then (job_id >>= λ d. gives (Missing d))
    else if n == 3 then (job_id >>= λ d. gives (DepFailed d))
    else refuses

unfoldable pub job_result : Reader JobResult
job_result = number 1 >>= result_by

-- a folder's order and path
unfoldable pub folder_row : Reader FolderRow
folder_row = number 4 >>= λ order. raw_path >>= λ path. gives (record { order = order; path = path })

-- a source's row
unfoldable pub source_row : Reader SourceRow
source_row =
    path >>= λ path. number 4 >>= λ order. raw_path >>= λ name. seen >>= λ saw.
    gives (record { path = path; order = order; name = name; seen = saw })

-- the row of a source's creation
unfoldable pub create_row : Reader CreateRow
create_row = path >>= λ source. thing_number >>= λ input. created >>= λ came. gives (record { source = source; input = input; created = came })

-- a job's row
unfoldable pub job_row : Reader JobRow
job_row = job_id >>= λ id. job_result >>= λ result. gives (record { id = id; result = result })

-- the tag, the text and the kids of a new thing
unfoldable pub define : Reader Item
define = number 1 >>= λ tag. run_of 4 >>= λ text. list_of 4 thing_number >>= λ kids. gives (Define tag text kids)

-- the item that a first byte begins
unfoldable pub item_by : ℕ → Reader Item
item_by n =
    if n == 1 then define
    else if n == 2 then (thing_number >>= λ thing. gives (Drop thing))
    else if n == 3 then (source_row >>= λ row. gives (PutSource row))
    else if n == 4 then (path >>= λ path. gives (RemoveSource path))
    else if n == 5 then (create_row >>= λ row. gives (PutCreate row))
    else if n == 6 then (path >>= λ path. gives (RemoveCreate path))
    else if n == 7 then (job_row >>= λ row. gives (PutJob row))
    else if n == 8 then (job_id >>= λ id. gives (RemoveJob id))
    else if n == 9 then (list_of 4 folder_row >>= λ rows. gives (PutFolders rows))
    else refuses

-- an item
unfoldable pub item : Reader Item
item = number 1 >>= item_by

-- an item before the others
abbrev pub behind : Item → Result (List Item) ℕ → Result (List Item) ℕ
behind x (Ok items) = Ok (x ∷ items)
behind x (Err offset) = Err offset

-- all of the bytes, which stand at this offset and are at most n, are items, or the offset at which the
-- first that is none begins
unfoldable pub items_from : ℕ → ℕ → List ℕ → Result (List Item) ℕ
items_from zero offset bytes = Ok []
items_from (suc n) offset [] = Ok []
items_from (suc n) offset (b ∷ bytes) = and_then (item (b ∷ bytes)) (λ after. items_from n (offset + (length (b ∷ bytes) - length after)) after)
  where
    and_then : Option (Item × List ℕ) → (List ℕ → Result (List Item) ℕ) → Result (List Item) ℕ
    and_then None more = Err offset
    and_then (Some read) more = behind read.0 (more read.1)

-- the change that a payload spells: its items, or the offset at which the first that is outside the
-- grammar begins
unfoldable pub decoded : List ℕ → Result (List Item) ℕ
decoded payload = items_from (length payload) 0 payload
