-- How often things of the file are named.
use Rattle.std.specs.Prelude.{◌≡◌, ℕ, ◌+◌, ◌-◌, ◌<◌, ◌==◌, List, [], ◌++◌, Option, Some, None, cond}
use Rattle.std.specs.Option.{option_to_list}
use Rattle.ap_content.specs.declared.node.Number.{Number}
use Rattle.ap_rows.specs.declared.row.SourceRow.{SourceRow}
use Rattle.ap_rows.specs.declared.row.CreateRow.{CreateRow}
use Rattle.ap_rows.specs.declared.row.JobRow.{JobRow}
use Rattle.ap_rows.specs.declared.row.SeenRow.{SeenRow}
use Rattle.ap_rows.specs.declared.row.SeenRow.TheVariants.{Bytes, TooLarge}
use Rattle.ap_rows.specs.declared.row.OutcomeRow.{OutcomeRow}
use Rattle.ap_rows.specs.declared.row.OutcomeRow.TheVariants.{Done, Failed}
use Rattle.ap_rows.specs.declared.row.JobResult.{JobResult}
use Rattle.ap_rows.specs.declared.row.JobResult.TheVariants.{Processed, Cycle, Missing, DepFailed}
use Rattle.ap_rows.specs.declared.change.Item.{Item}
use Rattle.ap_rows.specs.declared.change.Item.TheVariants.{Define, Drop, PutSource, RemoveSource, PutCreate, RemoveCreate, PutJob, RemoveJob, PutFolders}
use Rattle.ap_db.specs.declared.things.FileThing.{FileThing}
use Rattle.ap_db.specs.Listed.{total}
use Rattle.ap_db.specs.States.{file_thing}

-- a thing with so many names more, or fewer
abbrev pub raised : ℕ → Option FileThing → Option FileThing
raised n None = None
raised n (Some thing) = Some (record thing { named = thing.named + n })

abbrev pub lowered : ℕ → Option FileThing → Option FileThing
lowered n None = None
lowered n (Some thing) = Some (record thing { named = thing.named - n })

-- one where two numbers are the same
abbrev pub one_if : Number → Number → ℕ
one_if n m = cond (n.0 == m.0) 1 0

-- how often a number is among these
abbrev pub times_of : List Number → Number → ℕ
times_of ns m = total (λ n. one_if n m) ns

-- so many names can be added to any thing
abbrev pub HaveRoom : List (Option FileThing) → ℕ → Type 0
HaveRoom things count = (m : Number) (thing : FileThing) → file_thing things m ≡ Some thing → thing.named + count < 18446744073709551616

-- the numbers that are there
abbrev pub both_of : Option Number → Option Number → List Number
both_of a b = option_to_list a ++ option_to_list b

-- the number that a source's row names
abbrev pub seen_number : SeenRow → Option Number
seen_number (Bytes n) = Some n
seen_number TooLarge = None

abbrev pub content_number : SourceRow → Option Number
content_number row = seen_number row.seen

-- the number of the products that an outcome names
abbrev pub products_number : OutcomeRow → Option Number
products_number (Done n) = Some n
products_number (Failed code) = None

-- the numbers of the input and of the products that a job's row names
abbrev pub result_numbers : JobResult → Option Number × Option Number
result_numbers (Processed n outcome) = (Some n, products_number outcome)
result_numbers Cycle = (None, None)
result_numbers (Missing d) = (None, None)
result_numbers (DepFailed d) = (None, None)

-- what a row names that may be there
abbrev pub named_by : {X Y : Type 0} → (X → List Y) → Option X → List Y
named_by f None = []
named_by f (Some x) = f x

abbrev pub source_numbers : SourceRow → List Number
source_numbers row = both_of (content_number row) None

abbrev pub create_numbers : CreateRow → List Number
create_numbers row = both_of (Some row.input) None

abbrev pub job_numbers : JobRow → List Number
job_numbers row = both_of (result_numbers row.result).0 (result_numbers row.result).1

-- the numbers that an item of a change names
abbrev pub item_numbers : Item → List Number
item_numbers (Define tag text kids) = []
item_numbers (Drop n) = []
item_numbers (PutSource row) = source_numbers row
item_numbers (RemoveSource path) = []
item_numbers (PutCreate row) = create_numbers row
item_numbers (RemoveCreate path) = []
item_numbers (PutJob row) = job_numbers row
item_numbers (RemoveJob id) = []
item_numbers (PutFolders rows) = []
