-- Lists that are read item by item. No public clause cites this module.
use Rattle.std.specs.Prelude.{ℕ, List, ◌++◌, Option, Some, None, Result, Ok, Err}
use Rattle.ap_rows.specs.declared.change.Item.{Item}

-- items before those that are still to be read
abbrev pub items_behind : {X : Type 0} → List X → Option (List X × List ℕ) → Option (List X × List ℕ)
items_behind front None = None
items_behind front (Some read) = Some (front ++ read.0, read.1)

-- the items of a change before those that are still to be read
abbrev pub change_behind : List Item → Result (List Item) ℕ → Result (List Item) ℕ
change_behind front (Ok items) = Ok (front ++ items)
change_behind front (Err offset) = Err offset
