-- Things that were taken out of the file one after another, and may be put back.
use Rattle.std.specs.Prelude.{◌≡◌, ⊤, ℕ, ◌<◌, false, List, [], ◌∷◌, length, Option, Some, Contains}
use Rattle.ap_content.specs.Things.{Thing}
use Rattle.ap_content.specs.Entries.{Entry, Stands}
use Rattle.ap_content.specs.declared.node.Number.{Number}
use Rattle.ap_rows.specs.declared.change.Item.{Item}
use Rattle.ap_rows.specs.declared.change.Item.TheVariants.{Drop}
use Rattle.ap_db.specs.declared.state.State.{State}
use Rattle.ap_db.specs.declared.drops.Dropped.{Dropped}
use Rattle.ap_db.specs.Stored.{Stored, values, thing_at, named_things, is_named, and_no_thing}
use Rattle.ap_db.specs.Members.{Has}
use Rattle.ap_db.specs.WellStored.{IsWellStored}
use Rattle.ap_db.specs.States.{StandsFor, times_in}

-- what is stored without the things of these
abbrev pub without_things : Stored → List Dropped → Stored
without_things stored [] = stored
without_things stored (d ∷ others) = without_things (and_no_thing stored d.thing.number) others

-- it is a live thing of the file that nothing names
pub record IsSpare (contents : List (Option Entry)) (stored : Stored) (d : Dropped) : Type 0 where
  pub value : Thing
  pub live : thing_at stored (record { 0 = d.thing.number }) ≡ Some value
  pub stands : Stands contents d.m value
  pub unnamed : is_named stored value ≡ false
  pub none : d.thing.named ≡ 0

-- each is such a thing where those before it are gone
abbrev pub AreSpare : List (Option Entry) → Stored → List Dropped → Type 0
AreSpare contents stored [] = ⊤
AreSpare contents stored (d ∷ others) = IsSpare contents stored d × AreSpare contents (and_no_thing stored d.thing.number) others

-- these were taken out of what was stored, and the state stands for what is left
pub record HasTakenOut (state : State) (contents : List (Option Entry)) (stored : Stored) (dropped : List Dropped) : Type 0 where
  pub well : IsWellStored stored
  pub room : length (named_things stored) < 18446744073709551616
  pub spare : AreSpare contents stored dropped
  pub fit : (d : Dropped) → Has dropped d → d.m.0 < length state.things.items
  pub stands : StandsFor state contents (without_things stored dropped)

-- the number of each live thing that nothing names is among these
abbrev pub AreCandidates : List (Option Entry) → Stored → List Number → Type 0
AreCandidates contents stored ns = (x : Thing) → Has (values stored) x → times_in (named_things stored) x ≡ 0 → (m : Number) × Contains ns m × Stands contents m x

-- these were taken out, and each further one that nothing names has its number among those that wait
pub record IsSwept (state : State) (contents : List (Option Entry)) (stored : Stored) (dropped : List Dropped) (awaited : List Number) : Type 0 where
  pub out : HasTakenOut state contents stored dropped
  pub waits : AreCandidates contents (without_things stored dropped) awaited

-- the number of a thing in the file
abbrev pub number_there : Dropped → ℕ
number_there d = d.thing.number

-- its number in the contents
abbrev pub number_here : Dropped → Number
number_here d = d.m

-- the Drop of a number
abbrev pub drop_of : ℕ → Item
drop_of n = Drop (record { 0 = n })
