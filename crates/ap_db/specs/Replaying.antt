-- The items of a file's records, taken one after another.
use Rattle.std.specs.Prelude.{◌≡◌, true, false, List, Option, Some, None}
use Rattle.ap_content.specs.Things.{Thing, thing, kids_of}
use Rattle.ap_content.specs.Entries.{Entry}
use Rattle.ap_content.specs.declared.node.Node.{Node}
use Rattle.ap_rows.specs.Forms.{has_form}
use Rattle.ap_rows.specs.declared.change.Item.{Item}
use Rattle.ap_db.specs.declared.replay.Replay.{Replay}
use Rattle.ap_db.specs.Stored.{Stored, after_item, values, and_thing}
use Rattle.ap_db.specs.Same.{is_among}
use Rattle.ap_db.specs.Listed.{AreAll}
use Rattle.ap_db.specs.States.{StandsFor, AreHeld, IsIndexOf, Names}

-- the state stands for what is stored, its things are held, and the index has their numbers
pub record Replays (replay : Replay) (contents : List (Option Entry)) (stored : Stored) : Type 0 where
  pub stands : StandsFor replay.state contents stored
  pub held : AreHeld replay.state.things.items contents
  pub index : IsIndexOf replay.index.items replay.state

abbrev pub IsReplay : Replay → List (Option Entry) → Type 0
IsReplay replay contents = (stored : Stored) × Replays replay contents stored

-- the item was lawful, and is taken
abbrev pub Applied : Replay → List (Option Entry) → Replay → List (Option Entry) → Item → Type 0
Applied old before new after item = (stored : Stored) → Replays old before stored → (next : Stored) × (after_item stored item ≡ Some next) × Replays new after next

-- the item isn't lawful
abbrev pub Refused : Replay → List (Option Entry) → Item → Type 0
Refused old before item = (stored : Stored) → Replays old before stored → after_item stored item ≡ None

-- the node's thing has its form, and its kids are numbers of things of the file
abbrev pub CanBeDefined : Replay → List (Option Entry) → Node → Type 0
CanBeDefined replay contents node = (stored : Stored) → Replays replay contents stored
    → (xs : List Thing) × AreAll (Names replay.state.things.items contents) node.kids xs × (has_form (thing node.tag node.text (kids_of xs)) ≡ true)

-- the node's thing wasn't in the file, and is its next one
abbrev pub Defined : Replay → List (Option Entry) → Replay → List (Option Entry) → Node → Type 0
Defined old before new after node = (stored : Stored) (xs : List Thing) → Replays old before stored → AreAll (Names old.state.things.items before) node.kids xs → has_form (thing node.tag node.text (kids_of xs)) ≡ true
    → (is_among (values stored) (thing node.tag node.text (kids_of xs)) ≡ false) × Replays new after (and_thing stored (thing node.tag node.text (kids_of xs)))

-- the node's thing is in the file
abbrev pub IsDefined : Replay → List (Option Entry) → Node → Type 0
IsDefined old before node = (stored : Stored) (xs : List Thing) → Replays old before stored → AreAll (Names old.state.things.items before) node.kids xs
    → is_among (values stored) (thing node.tag node.text (kids_of xs)) ≡ true
