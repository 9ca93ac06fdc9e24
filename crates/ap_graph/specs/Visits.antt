-- How a walk through all numbers enters and leaves them.
use Rattle.std.specs.Prelude.{◌<◌, ℕ, Bool, cond, true, List, [], ◌∷◌, ◌++◌, map, slice_index_or}
use Rattle.ap_graph.specs.declared.order.Visit.{Visit}
use Rattle.ap_graph.specs.declared.order.Visit.TheVariants.{Enter, Leave}
use Rattle.ap_graph.specs.Rows.{row_at}

-- what is still to be done once a number is entered: its targets are, and then it is left
abbrev pub entered : List (List ℕ) → List Bool → List Visit → ℕ → List Visit
entered rows seen stack node = cond (slice_index_or seen node true) stack (stack ++ Leave node ∷ [] ++ map Enter (row_at rows node))

-- a visit of a number below the count
abbrev pub IsWithin : ℕ → Visit → Type 0
IsWithin count (Enter node) = node < count
IsWithin count (Leave node) = node < count
