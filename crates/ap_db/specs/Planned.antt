-- What a commit has made of the state before its record is written, which can be undone, and the holds behind it.
use Rattle.std.specs.Prelude.{◌≡◌, ◌≤◌, ◌<◌, ◌+◌, ℕ, zero, suc, true, List, Option, None, IsSome, is_some, cond}
use Rattle.ap_content.specs.Entries.{Entry, Stands, holds_at, one_more, one_less}
use Rattle.ap_content.specs.declared.node.Number.{Number}
use Rattle.ap_rows.specs.declared.change.Item.{Item}
use Rattle.ap_db.specs.declared.drops.Dropped.{Dropped}
use Rattle.ap_db.specs.declared.old.Old.{Old}
use Rattle.ap_db.specs.declared.plan.Plan.{Plan}
use Rattle.ap_db.specs.declared.state.State.{State}
use Rattle.ap_db.specs.declared.things.FileThing.{FileThing}
use Rattle.ap_db.specs.Stored.{Stored}
use Rattle.ap_db.specs.Commit.{PlainItem, new_things, commit_items, after_commit}
use Rattle.ap_db.specs.CommitLaw.{after_defines, after_puts}
use Rattle.ap_db.specs.Listed.{AreAll}
use Rattle.ap_db.specs.States.{StandsFor, file_thing}
use Rattle.ap_db.specs.Defined.{CanBeCommitted}
use Rattle.ap_db.specs.Lawful.{is_lawful}
use Rattle.ap_db.specs.WellStored.{IsWellStored}
use Rattle.ap_db.specs.Putting.{AreAllPut}
use Rattle.ap_db.specs.TakenOut.{AreCandidates, HasTakenOut}

-- the items may be committed, these numbers are those of what they need and the file lacks, and these those of what
-- nothing names
pub record IsAsked (old : State) (contents : List (Option Entry)) (stored : Stored) (items : List Item) (plain : List PlainItem) (loose defined : List Number) : Type 0 where
  pub takes : CanBeCommitted contents old stored items plain
  pub unnamed : AreCandidates contents stored loose
  pub new : AreAll (Stands contents) defined (new_things stored plain)

-- what nothing reaches was taken out behind the items
pub record HasSwept (state : State) (contents : List (Option Entry)) (stored : Stored) (plain : List PlainItem) (dropped : List Dropped) : Type 0 where
  pub stands : StandsFor state contents (after_commit stored plain)
  pub out : HasTakenOut state contents (after_puts stored plain) dropped

-- all rows are put, with what they replaced or removed; the tables stayed so while things were taken out
pub record HasRowsPut (state : State) (contents : List (Option Entry)) (stored : Stored) (items : List Item) (plain : List PlainItem) (olds : List Old) : Type 0 where
  pub put : State
  pub rows : AreAllPut put contents (after_defines stored plain) plain items olds
  pub same : state.tables ≡ put.tables

-- the state stands for what is stored after the commit, and the plan has its record and what undoing takes
pub record IsPlanned (old new : State) (contents : List (Option Entry)) (stored : Stored) (items : List Item) (plain : List PlainItem) (plan : Plan) : Type 0 where
  pub takes : CanBeCommitted contents old stored items plain
  pub written : plan.written.items ≡ commit_items stored plain
  pub defined : AreAll (Stands contents) plan.defined.items (new_things stored plain)
  pub swept : HasSwept new contents stored plain plan.dropped.items
  pub rows : HasRowsPut new contents stored items plain plan.olds.items

-- the things of a commit were defined beside what was stored, and those that nothing reaches then were taken out
pub record IsSettled (old state : State) (contents : List (Option Entry)) (stored : Stored) (plain : List PlainItem) (defined : List Number) (dropped : List Dropped) : Type 0 where
  pub well : IsWellStored stored
  pub lawful : is_lawful stored plain ≡ true
  pub before : StandsFor old contents stored
  pub new : AreAll (Stands contents) defined (new_things stored plain)
  pub swept : HasSwept state contents stored plain dropped

-- beside these holds of others, the database has one on each thing of the file
abbrev pub AreHeldBeside : (Number → ℕ) → List (Option FileThing) → List (Option Entry) → Type 0
AreHeldBeside others things contents = (m : Number) → others m + cond (is_some (file_thing things m)) 1 0 ≤ holds_at contents m

-- so many holds more, and so many less
abbrev pub more_by : ℕ → ℕ → ℕ
more_by zero holds = holds
more_by (suc n) holds = more_by n (one_more holds)

abbrev pub fewer_by : ℕ → ℕ → ℕ
fewer_by zero holds = holds
fewer_by (suc n) holds = fewer_by n (one_less holds)

-- the holds follow the file: one less on what left it, one more on what came, as many on what stayed, and on what
-- never was in it, unless its count came to the last
pub record HoldsFollow (old new : List (Option FileThing)) (before after : List (Option Entry)) : Type 0 where
  pub released : (m : Number) → IsSome (file_thing old m) → file_thing new m ≡ None → holds_at after m ≡ one_less (holds_at before m)
  pub same : (m : Number) → IsSome (file_thing old m) → IsSome (file_thing new m) → holds_at after m ≡ holds_at before m
  pub gained : (m : Number) → file_thing old m ≡ None → IsSome (file_thing new m) → holds_at after m ≡ one_more (holds_at before m)
  pub beside : (m : Number) → file_thing old m ≡ None → file_thing new m ≡ None → holds_at before m < 18446744073709551614 → holds_at after m ≡ holds_at before m
