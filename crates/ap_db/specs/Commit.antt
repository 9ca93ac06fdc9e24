-- The record that a commit writes: Defines, the change's items, Drops.
use Rattle.std.specs.Prelude.{ℕ, suc, not, List, [], ◌∷◌, ◌++◌, length, map, filter, find, drop, fold, Option, Some, None, option_map, unwrap_or, if◌then◌else◌}
use Rattle.std.specs.List.{flat_map}
use Rattle.ap_text.specs.declared.job_id.JobId.{JobId}
use Rattle.ap_content.specs.Things.{Thing, thing, Kids, no_kids, kid}
use Rattle.ap_content.specs.declared.node.Number.{Number}
use Rattle.ap_rows.specs.declared.row.FolderRow.{FolderRow}
use Rattle.ap_rows.specs.declared.row.SeenRow.{SeenRow}
use Rattle.ap_rows.specs.declared.row.SeenRow.TheVariants.{Bytes, TooLarge}
use Rattle.ap_rows.specs.declared.row.OutcomeRow.{OutcomeRow}
use Rattle.ap_rows.specs.declared.row.OutcomeRow.TheVariants.{Done, Failed}
use Rattle.ap_rows.specs.declared.row.JobResult.{JobResult}
use Rattle.ap_rows.specs.declared.row.JobResult.TheVariants.{Processed, Cycle, Missing, DepFailed}
use Rattle.ap_rows.specs.declared.change.Item.{Item}
use Rattle.ap_rows.specs.declared.change.Item.TheVariants.{Define, Drop, PutSource, RemoveSource, PutCreate, RemoveCreate, PutJob, RemoveJob, PutFolders}
use Rattle.ap_rows.specs.Forms.{kids_in}
use Rattle.ap_db.specs.Same.{same_thing, is_among}
use Rattle.ap_db.specs.Tables.{PlainSource, PlainCreate, PlainOutcome, done, failed, PlainResult, processed, on_cycle, lacks, after_failure, PlainJob, PlainTables}
use Rattle.ap_db.specs.Stored.{Live, Stored, nothing_stored, values, content_named, result_named, row_things, after_item}

-- an item of a change, with things where it has numbers
pub data PlainItem : Type 0 where
  puts_folders : List FolderRow → PlainItem
  puts_source : PlainSource → PlainItem
  removes_source : List ℕ → PlainItem
  puts_create : PlainCreate → PlainItem
  removes_create : List ℕ → PlainItem
  puts_job : PlainJob → PlainItem
  removes_job : JobId → PlainItem

-- the things that an item names, in the order of its fields
abbrev pub item_things : PlainItem → List Thing
item_things (puts_folders rows) = []
item_things (puts_source row) = content_named row
item_things (removes_source path) = []
item_things (puts_create row) = row.input ∷ []
item_things (removes_create path) = []
item_things (puts_job row) = result_named row.result
item_things (removes_job id) = []

-- the known things, and behind them those at and below a thing that are new: the kids' in order and then itself
abbrev mutual
  pub with_new : List Thing → Thing → List Thing
  with_new known (thing tag text kids) =
      if is_among known (thing tag text kids) then known else with_new_kids known kids ++ thing tag text kids ∷ []

  pub with_new_kids : List Thing → Kids → List Thing
  with_new_kids known no_kids = known
  with_new_kids known (kid x xs) = with_new_kids (with_new known x) xs

-- the things that a change needs and the file lacks, in the order in which they are first named
unfoldable pub new_things : Stored → List PlainItem → List Thing
new_things stored change = drop (length (values stored)) (fold with_new (values stored) (flat_map item_things change))

-- things under the numbers behind n, in order
abbrev pub numbered_from : ℕ → List Thing → List Live
numbered_from n [] = []
numbered_from n (x ∷ xs) = record { number = suc n; value = x } ∷ numbered_from (suc n) xs

-- the number of a thing among those that have one; 0 is none
abbrev pub number_of : List Live → Thing → Number
number_of numbers x = record { 0 = unwrap_or (option_map (λ live. live.number) (find (λ live. same_thing live.value x) numbers)) 0 }

-- the Define of a thing, its kids by number
abbrev pub define_item : List Live → Thing → Item
define_item numbers (thing tag text kids) = Define tag text (map (number_of numbers) (kids_in kids))

-- how a source is seen, by number
abbrev pub seen_item : List Live → Option Thing → SeenRow
seen_item numbers None = TooLarge
seen_item numbers (Some x) = Bytes (number_of numbers x)

-- an outcome, its products by number
abbrev pub outcome_item : List Live → PlainOutcome → OutcomeRow
outcome_item numbers (done x) = Done (number_of numbers x)
outcome_item numbers (failed code) = Failed code

-- a result, its things by number
abbrev pub result_item : List Live → PlainResult → JobResult
result_item numbers (processed input outcome) = Processed (number_of numbers input) (outcome_item numbers outcome)
result_item numbers on_cycle = Cycle
result_item numbers (lacks d) = Missing d
result_item numbers (after_failure d) = DepFailed d

-- an item with the numbers of its things
abbrev pub numbered : List Live → PlainItem → Item
numbered numbers (puts_folders rows) = PutFolders rows
numbered numbers (puts_source row) = PutSource (record { path = row.path; order = row.order; name = row.name; seen = seen_item numbers row.content })
numbered numbers (removes_source path) = RemoveSource path
numbered numbers (puts_create row) = PutCreate (record { source = row.source; input = number_of numbers row.input; created = row.created })
numbered numbers (removes_create path) = RemoveCreate path
numbered numbers (puts_job row) = PutJob (record { id = row.id; result = result_item numbers row.result })
numbered numbers (removes_job id) = RemoveJob id

-- a thing and all below it
abbrev mutual
  pub with_below : Thing → List Thing
  with_below (thing tag text kids) = thing tag text kids ∷ all_below kids

  pub all_below : Kids → List Thing
  all_below no_kids = []
  all_below (kid x xs) = with_below x ++ all_below xs

-- what is stored after items that are all lawful
abbrev pub after_lawful : Stored → List Item → Stored
after_lawful stored [] = stored
after_lawful stored (x ∷ items) = after_lawful (unwrap_or (after_item stored x) stored) items

-- a Drop for each live thing that no row reaches, by falling number
unfoldable pub drops : Stored → List Item
drops stored = map (λ live. Drop (record { 0 = live.number })) (filter (λ live. not (is_among (flat_map with_below (row_things stored.tables)) live.value)) stored.live)

-- the new things of a change under their numbers
unfoldable pub new_live : Stored → List PlainItem → List Live
new_live stored change = numbered_from stored.defined (new_things stored change)

-- the Defines and the change's items by number
unfoldable pub puts_of : Stored → List PlainItem → List Item
puts_of stored change =
    map (λ live. define_item (stored.live ++ new_live stored change) live.value) (new_live stored change)
    ++ map (numbered (stored.live ++ new_live stored change)) change

-- the items of the record that commits a change
unfoldable pub commit_items : Stored → List PlainItem → List Item
commit_items stored change = puts_of stored change ++ drops (after_lawful stored (puts_of stored change))

-- what is stored after the commit of a change
unfoldable pub after_commit : Stored → List PlainItem → Stored
after_commit stored change = after_lawful stored (commit_items stored change)

-- the puts of all rows of tables, the folder rows where there is one
abbrev pub folder_items : List FolderRow → List PlainItem
folder_items [] = []
folder_items (row ∷ rows) = puts_folders (row ∷ rows) ∷ []

-- the puts of all rows, table by table
unfoldable pub row_items : PlainTables → List PlainItem
row_items tables = folder_items tables.folders ++ map puts_source tables.sources ++ map puts_create tables.creates ++ map puts_job tables.jobs

-- the items of a checkpoint of tables
unfoldable pub checkpoint_items : PlainTables → List Item
checkpoint_items tables = commit_items nothing_stored (row_items tables)
