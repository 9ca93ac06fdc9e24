-- The items of a change put into the tables, so far, and the room for them.
use Rattle.std.specs.Prelude.{◌≡◌, ◌≤◌, ◌<◌, ◌+◌, ◌*◌, ℕ, List, ◌++◌, length, fold, vec_capacity, Option}
use Rattle.ap_content.specs.Entries.{Entry, Stands}
use Rattle.ap_rows.specs.declared.change.Item.{Item}
use Rattle.ap_rows.specs.declared.change.Item.TheVariants.{PutSource, PutCreate, PutJob}
use Rattle.ap_db.specs.declared.old.Old.{Old}
use Rattle.ap_db.specs.declared.state.State.{State}
use Rattle.ap_db.specs.Commit.{PlainItem, puts_source, puts_create, puts_job}
use Rattle.ap_db.specs.Lawful.{after_plain}
use Rattle.ap_db.specs.Listed.{AreAll, total}
use Rattle.ap_db.specs.Olds.{GivenIs, AreGiven}
use Rattle.ap_db.specs.Said.{ItemIs}
use Rattle.ap_db.specs.States.{StandsFor, Names, TablesRise}
use Rattle.ap_db.specs.Stored.{Stored, named_things, with_tables}

-- ---- room

-- how many rows of sources an item puts, of creates and of jobs
abbrev pub puts_source_row : Item → ℕ
puts_source_row (PutSource row) = 1
puts_source_row item = 0

abbrev pub puts_create_row : Item → ℕ
puts_create_row (PutCreate row) = 1
puts_create_row item = 0

abbrev pub puts_job_row : Item → ℕ
puts_job_row (PutJob row) = 1
puts_job_row item = 0

abbrev pub source_put : PlainItem → ℕ
source_put (puts_source row) = 1
source_put item = 0

abbrev pub create_put : PlainItem → ℕ
create_put (puts_create row) = 1
create_put item = 0

abbrev pub job_put : PlainItem → ℕ
job_put (puts_job row) = 1
job_put item = 0

-- there are places for at least so many rows of each kind
pub record HasPlaces (for_sources for_creates for_jobs : ℕ) (state : State) : Type 0 where
  pub sources : for_sources ≤ vec_capacity state.tables.sources
  pub creates : for_creates ≤ vec_capacity state.tables.creates
  pub jobs : for_jobs ≤ vec_capacity state.tables.jobs

-- a step gives up no place
pub record KeepsPlaces (old new : State) : Type 0 where
  pub sources : vec_capacity old.tables.sources ≤ vec_capacity new.tables.sources
  pub creates : vec_capacity old.tables.creates ≤ vec_capacity new.tables.creates
  pub jobs : vec_capacity old.tables.jobs ≤ vec_capacity new.tables.jobs

-- there is room for the rows and the names that items add to what is stored, and for one row more of each kind
pub record HasRoomFor (stored : Stored) (items : List PlainItem) (state : State) : Type 0 where
  pub places : HasPlaces (length stored.tables.sources + total source_put items + 1) (length stored.tables.creates + total create_put items + 1) (length stored.tables.jobs + total job_put items + 1) state
  pub names : length (named_things stored) + 2 * length items + 2 < 18446744073709551614

-- ---- steps

-- an item was put, and this is what it replaced or removed
pub record HasPutItem (state : State) (contents : List (Option Entry)) (stored : Stored) (plain : PlainItem) (item : Item) (old : Old) : Type 0 where
  pub stands : StandsFor state contents (with_tables stored (after_plain stored.tables plain))
  pub rise : TablesRise stored.tables
  pub is : ItemIs (Stands contents) item plain
  pub gave : GivenIs (Names state.things.items contents) stored.tables plain old

-- the first of these items were put, and this is what they replaced or removed, one after another
pub record HasPut (state : State) (contents : List (Option Entry)) (stored : Stored) (items : List PlainItem) (olds : List Old) : Type 0 where
  pub first : List PlainItem
  pub others : List PlainItem
  pub are : items ≡ first ++ others
  pub stands : StandsFor state contents (with_tables stored (fold after_plain stored.tables first))
  pub rise : TablesRise stored.tables
  pub given : AreGiven (Names state.things.items contents) stored.tables first olds

-- so far, with the items by number, and room for all of them
pub record ArePut (state : State) (contents : List (Option Entry)) (stored : Stored) (plain : List PlainItem) (items : List Item) (olds : List Old) : Type 0 where
  pub has : HasPut state contents stored plain olds
  pub say : AreAll (ItemIs (Stands contents)) items plain
  pub room : HasRoomFor stored plain state

-- and the items that are left name things of the file
pub record ArePutBefore (state : State) (contents : List (Option Entry)) (stored : Stored) (plain : List PlainItem) (items : List Item) (olds : List Old) (rest : List Item) : Type 0 where
  pub put : ArePut state contents stored plain items olds
  pub left : AreAll (ItemIs (Names state.things.items contents)) rest put.has.others

-- all of these items were put, and this is what they replaced or removed
pub record AreAllPut (state : State) (contents : List (Option Entry)) (stored : Stored) (plain : List PlainItem) (items : List Item) (olds : List Old) : Type 0 where
  pub stands : StandsFor state contents (with_tables stored (fold after_plain stored.tables plain))
  pub rise : TablesRise stored.tables
  pub given : AreGiven (Names state.things.items contents) stored.tables plain olds
  pub say : AreAll (ItemIs (Stands contents)) items plain
  pub room : HasRoomFor stored plain state
