-- What a walk over things defines: those at and below them that the file lacks, kids first.
use Rattle.std.specs.Prelude.{◌≡◌, true, List, ◌++◌, Option, fold}
use Rattle.ap_content.specs.Things.{Thing}
use Rattle.ap_content.specs.Entries.{Entry, Stands}
use Rattle.ap_content.specs.declared.node.Number.{Number}
use Rattle.ap_rows.specs.declared.change.Item.{Item}
use Rattle.ap_db.specs.declared.state.State.{State}
use Rattle.ap_db.specs.Stored.{Stored, values, and_thing}
use Rattle.ap_db.specs.Commit.{PlainItem}
use Rattle.ap_db.specs.Lawful.{is_lawful}
use Rattle.ap_db.specs.Said.{ItemIs}
use Rattle.ap_db.specs.WellStored.{IsWellStored}
use Rattle.ap_db.specs.Listed.{AreAll}
use Rattle.ap_db.specs.States.{StandsFor}
use Rattle.ap_db.specs.Members.{AreIn}
use Rattle.ap_db.specs.NewThings.{AreGood, Adds}

-- the known things are those that live, and each of these parts is one of them or has the form of its tag
pub record CanBeAdded (contents : List (Option Entry)) (state : State) (stored : Stored) (known parts : List Thing) : Type 0 where
  pub stands : StandsFor state contents stored
  pub known_live : AreIn known (values stored)
  pub live_known : AreIn (values stored) known
  pub good : AreGood known parts

-- what the known things grew by is defined in the state, and its numbers come behind those that were there
pub record AreDefined (contents : List (Option Entry)) (stored : Stored) (known parts grown : List Thing) (before : List Number) (state : State) (now : List Number) : Type 0 where
  pub adds : Adds known parts grown
  pub stands : StandsFor state contents (fold and_thing stored adds.added)
  pub numbers : List Number
  pub are : now ≡ before ++ numbers
  pub each : AreAll (Stands contents) numbers adds.added

-- some things are defined
abbrev pub SomeDefined : List (Option Entry) → Stored → List Thing → List Number → State → List Number → Type 0
SomeDefined contents stored known before state now = (parts : List Thing) × (grown : List Thing) × AreDefined contents stored known parts grown before state now

-- the items stand for a change that may be committed to what the state stands for
pub record CanBeCommitted (contents : List (Option Entry)) (state : State) (stored : Stored) (items : List Item) (plain : List PlainItem) : Type 0 where
  pub well : IsWellStored stored
  pub stands : StandsFor state contents stored
  pub are : AreAll (ItemIs (Stands contents)) items plain
  pub lawful : is_lawful stored plain ≡ true
