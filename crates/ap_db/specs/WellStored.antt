-- What holds of all that the records of a file can stand for.
use Rattle.std.specs.Prelude.{◌≡◌, ⊤, suc, true, List, [], ◌∷◌, map}
use Rattle.ap_content.specs.Things.{Thing}
use Rattle.ap_rows.specs.Forms.{has_form}
use Rattle.ap_db.specs.Stored.{Live, Stored, values, row_things, kids_of_thing}
use Rattle.ap_db.specs.States.{Falls, TablesRise}
use Rattle.ap_db.specs.Members.{Has, AreIn}

-- a thing that isn't known, in its tag's form, whose kids are known
pub record IsBuiltOn (known : List Thing) (x : Thing) : Type 0 where
  pub formed : has_form x ≡ true
  pub fresh : Has known x → ⊥
  pub kids : AreIn (kids_of_thing x) known

-- the things of live ones
abbrev pub things_of : List Live → List Thing
things_of lives = map (λ live. live.value) lives

-- each live thing is built on those behind it
abbrev pub AreBuilt : List Live → Type 0
AreBuilt [] = ⊤
AreBuilt (live ∷ others) = IsBuiltOn (things_of others) live.value × AreBuilt others

-- the numbers of live things fall from the last that was given, each is built on those with lesser numbers, and
-- rows name live things and rise by their keys
pub record IsWellStored (stored : Stored) : Type 0 where
  pub falls : Falls (suc stored.defined) stored.live
  pub built : AreBuilt stored.live
  pub named : AreIn (row_things stored.tables) (values stored)
  pub rise : TablesRise stored.tables
