-- What the records of a file stand for: things by number, and the tables, by a fold of their items.
use Rattle.std.specs.Prelude.{ℕ, zero, suc, ◌+◌, ◌-◌, Bool, true, not, List, [], ◌∷◌, ◌++◌, length, map, filter, find, Option, Some, None, Result, Ok, Err, ◌==◌, ◌&&◌, nat_lt, option_map, option_and_then, if◌then◌else◌}
use Rattle.std.specs.List.{flat_map}
use Rattle.std.specs.Option.{option_to_list}
use Rattle.ap_content.specs.Things.{Thing, thing, kids_of}
use Rattle.ap_content.specs.declared.node.Number.{Number}
use Rattle.ap_rows.specs.declared.row.FolderRow.{FolderRow}
use Rattle.ap_rows.specs.declared.row.SourceRow.{SourceRow}
use Rattle.ap_rows.specs.declared.row.CreateRow.{CreateRow}
use Rattle.ap_rows.specs.declared.row.JobRow.{JobRow}
use Rattle.ap_rows.specs.declared.row.SeenRow.{SeenRow}
use Rattle.ap_rows.specs.declared.row.SeenRow.TheVariants.{Bytes, TooLarge}
use Rattle.ap_rows.specs.declared.row.OutcomeRow.{OutcomeRow}
use Rattle.ap_rows.specs.declared.row.OutcomeRow.TheVariants.{Done, Failed}
use Rattle.ap_rows.specs.declared.row.JobResult.{JobResult}
use Rattle.ap_rows.specs.declared.row.JobResult.TheVariants.{Processed, Cycle, Missing, DepFailed}
use Rattle.ap_rows.specs.declared.change.Item.{Item}
use Rattle.ap_rows.specs.declared.change.Item.TheVariants.{Define, Drop, PutSource, RemoveSource, PutCreate, RemoveCreate, PutJob, RemoveJob, PutFolders}
use Rattle.ap_rows.specs.Forms.{kids_in, has_form}
use Rattle.ap_rows.specs.Grammar.{item}
use Rattle.ap_journal.specs.Records.{standing, has_bad_header}
use Rattle.ap_db.specs.Same.{tag_of, is_among}
use Rattle.ap_db.specs.Tables.{PlainSource, PlainCreate, PlainOutcome, done, failed, PlainResult, processed, on_cycle, lacks, after_failure, PlainJob, PlainTables, no_tables}
use Rattle.ap_db.specs.Changes.{source_row_at, create_row_at, job_row_at, with_folders, with_source, without_source, with_create, without_create, with_job, without_job}

-- a live thing under its number
pub record Live : Type 0 where
  pub number : ℕ
  pub value : Thing

-- what the records so far stand for: how many things they defined, those that live, the latest first, and the
-- tables
pub record Stored : Type 0 where
  pub defined : ℕ
  pub live : List Live
  pub tables : PlainTables

-- what no record stands for
abbrev pub nothing_stored : Stored
nothing_stored = record { defined = 0; live = []; tables = no_tables }

-- the live things
abbrev pub values : Stored → List Thing
values stored = map (λ live. live.value) stored.live

-- the thing of a number
abbrev pub thing_at : Stored → Number → Option Thing
thing_at stored n = option_map (λ live. live.value) (find (λ live. live.number == n.0) stored.live)

-- a thing, where it has this tag
abbrev pub if_tagged : ℕ → Thing → Option Thing
if_tagged tag x = if tag_of x == tag then Some x else None

-- the thing of a number, where it has this tag
abbrev pub tagged_at : ℕ → Stored → Number → Option Thing
tagged_at tag stored n = option_and_then (if_tagged tag) (thing_at stored n)

-- one thing more, where all are there
abbrev pub with_next : Option Thing → Option (List Thing) → Option (List Thing)
with_next None rest = None
with_next (Some x) None = None
with_next (Some x) (Some xs) = Some (x ∷ xs)

-- the things of all these numbers
abbrev pub things_at : Stored → List Number → Option (List Thing)
things_at stored [] = Some []
things_at stored (n ∷ ns) = with_next (thing_at stored n) (things_at stored ns)

-- ---- what names a thing

-- the thing that a source row names
abbrev pub content_named : PlainSource → List Thing
content_named row = option_to_list row.content

-- the thing that an outcome names
abbrev pub outcome_named : PlainOutcome → List Thing
outcome_named (done x) = x ∷ []
outcome_named (failed code) = []

-- the things that a result names
abbrev pub result_named : PlainResult → List Thing
result_named (processed input outcome) = input ∷ outcome_named outcome
result_named on_cycle = []
result_named (lacks d) = []
result_named (after_failure d) = []

-- the things that the rows name
abbrev pub row_things : PlainTables → List Thing
row_things tables = flat_map content_named tables.sources ++ map (λ row. row.input) tables.creates ++ flat_map (λ row. result_named row.result) tables.jobs

-- the kids of a thing
abbrev pub kids_of_thing : Thing → List Thing
kids_of_thing (thing tag text kids) = kids_in kids

-- the things that rows name, and the kids of live things
abbrev pub named_things : Stored → List Thing
named_things stored = row_things stored.tables ++ flat_map kids_of_thing (values stored)

-- something names a thing
abbrev pub is_named : Stored → Thing → Bool
is_named stored x = is_among (named_things stored) x

-- ---- the items, each where it is lawful

-- one thing more, of the next number
abbrev pub and_thing : Stored → Thing → Stored
and_thing stored x = record stored { defined = suc stored.defined; live = record { number = suc stored.defined; value = x } ∷ stored.live }

-- no thing of this number
abbrev pub and_no_thing : Stored → ℕ → Stored
and_no_thing stored n = record stored { live = filter (λ live. not (live.number == n)) stored.live }

-- a new thing of its tag's form that no live thing equals
abbrev pub with_thing : Stored → Thing → Option Stored
with_thing stored x =
    if has_form x && not (is_among (values stored) x)
    then Some (and_thing stored x)
    else None

-- a thing that nothing names goes
abbrev pub without_thing : Stored → ℕ → Thing → Option Stored
without_thing stored n x =
    if is_named stored x then None
    else Some (and_no_thing stored n)

-- the same things with other tables
abbrev pub with_tables : Stored → PlainTables → Stored
with_tables stored tables = record stored { tables = tables }

-- how a source is seen, with the thing of the number
abbrev pub seen_at : Stored → SeenRow → Option (Option Thing)
seen_at stored (Bytes n) = option_map Some (tagged_at 0 stored n)
seen_at stored TooLarge = Some None

-- an outcome, with the thing of its number
abbrev pub outcome_at : Stored → OutcomeRow → Option PlainOutcome
outcome_at stored (Done n) = option_map done (tagged_at 3 stored n)
outcome_at stored (Failed code) = Some (failed code)

-- a result, with the things of its numbers
abbrev pub result_at : Stored → JobResult → Option PlainResult
result_at stored (Processed n outcome) = option_and_then (λ input. option_map (processed input) (outcome_at stored outcome)) (tagged_at 2 stored n)
result_at stored Cycle = Some on_cycle
result_at stored (Missing d) = Some (lacks d)
result_at stored (DepFailed d) = Some (after_failure d)

-- a row with things in the place of its numbers, where they live and have the right tags
abbrev pub source_at : Stored → SourceRow → Option PlainSource
source_at stored row = option_map (λ content. record { path = row.path; order = row.order; name = row.name; content = content }) (seen_at stored row.seen)

abbrev pub create_at : Stored → CreateRow → Option PlainCreate
create_at stored row = option_map (λ input. record { source = row.source; input = input; created = row.created }) (tagged_at 1 stored row.input)

abbrev pub job_at : Stored → JobRow → Option PlainJob
job_at stored row = option_map (λ result. record { id = row.id; result = result }) (result_at stored row.result)

-- the orders rise strictly
abbrev pub orders_rise : List FolderRow → Bool
orders_rise [] = true
orders_rise (row ∷ []) = true
orders_rise (row ∷ next ∷ rows) = nat_lt row.order next.order && orders_rise (next ∷ rows)

-- what is stored after an item, where it is lawful
unfoldable pub after_item : Stored → Item → Option Stored
after_item stored (Define tag text kids) = option_and_then (λ things. with_thing stored (thing tag text (kids_of things))) (things_at stored kids)
after_item stored (Drop n) = option_and_then (without_thing stored n.0) (thing_at stored n)
after_item stored (PutSource row) = option_map (λ row. with_tables stored (with_source stored.tables row)) (source_at stored row)
after_item stored (RemoveSource path) = option_map (λ row. with_tables stored (without_source stored.tables path)) (source_row_at stored.tables path)
after_item stored (PutCreate row) = option_map (λ row. with_tables stored (with_create stored.tables row)) (create_at stored row)
after_item stored (RemoveCreate path) = option_map (λ row. with_tables stored (without_create stored.tables path)) (create_row_at stored.tables path)
after_item stored (PutJob row) = option_map (λ row. with_tables stored (with_job stored.tables row)) (job_at stored row)
after_item stored (RemoveJob id) = option_map (λ row. with_tables stored (without_job stored.tables id)) (job_row_at stored.tables id)
after_item stored (PutFolders rows) = if orders_rise rows then Some (with_tables stored (with_folders stored.tables rows)) else None

-- ---- records and files

-- what is stored after the item that begins the bytes, and the bytes behind it, where there is a lawful one
unfoldable pub first_step : Stored → List ℕ → Option (Stored × List ℕ)
first_step stored bytes = option_and_then (λ read. option_map (λ next. (next, read.1)) (after_item stored read.0)) (item bytes)

-- after a step of so many bytes' rest from an offset on the others are taken; without a step it ends there
abbrev pub on_step : ℕ → ℕ → (ℕ → Stored → List ℕ → Result Stored ℕ) → Option (Stored × List ℕ) → Result Stored ℕ
on_step offset long others None = Err offset
on_step offset long others (Some next) = others (offset + (long - length next.1)) next.0 next.1

-- what is stored after the items that these bytes, which stand at this offset and are at most so many, spell; or
-- the offset of the first that is outside the grammar or not lawful
unfoldable pub after_items : ℕ → ℕ → Stored → List ℕ → Result Stored ℕ
after_items zero offset stored bytes = Ok stored
after_items (suc n) offset stored [] = Ok stored
after_items (suc n) offset stored (b ∷ bytes) = on_step offset (length (b ∷ bytes)) (after_items n) (first_step stored (b ∷ bytes))

-- what is stored after the items of a payload
unfoldable pub after_payload : Stored → List ℕ → Result Stored ℕ
after_payload stored payload = after_items (length payload) 0 stored payload

-- where the first item stands that is outside the grammar or not lawful: the number of its record, and its
-- offset in the payload; both are 0 for a bad header
pub record Fault : Type 0 where
  pub place : ℕ
  pub offset : ℕ

-- what is stored after records from a place on
unfoldable pub after_payloads : ℕ → Stored → List (List ℕ) → Result Stored Fault
after_payloads place stored [] = Ok stored
after_payloads place stored (payload ∷ payloads) = and_then (after_payload stored payload) (λ next. after_payloads (suc place) next payloads)
  where
    and_then : Result Stored ℕ → (Stored → Result Stored Fault) → Result Stored Fault
    and_then (Err offset) more = Err (record { place = place; offset = offset })
    and_then (Ok next) more = more next

-- what a file's records stand for, or its first fault
unfoldable pub stored_in : List ℕ → Result Stored Fault
stored_in file = if has_bad_header file then Err (record { place = 0; offset = 0 }) else after_payloads 1 nothing_stored (standing file)
