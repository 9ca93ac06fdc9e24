-- Numbers in groups: how a search moves some of them into a group of their own.
use Rattle.std.specs.Prelude.{◌≡◌, ◌<◌, ◌⊎◌, ◌↔◌, ◌==◌, ℕ, Bool, true, false, List, length, All, Contains, slice_index, slice_index_or}
use Rattle.std.specs.List.{list_any}
use Rattle.ap_text.specs.Chain.{Chain, Reaches}
use Rattle.ap_graph.specs.Rows.{row_at}

-- the search moved this number: it was in the group of the start, and the start leads to it
pub record IsMoved (rows : List (List ℕ)) (start to : ℕ) (old new : List ℕ) (x : ℕ) : Type 0 where
  pub was : slice_index old x ≡ slice_index old start
  pub now : slice_index new x ≡ to
  pub reached : Reaches (row_at rows) start x

-- the start is moved, with all that it leads to within its group, and nothing else
pub record MovesReached (rows : List (List ℕ)) (start to : ℕ) (old new : List ℕ) : Type 0 where
  pub places : length new ≡ length old
  pub each : (x : ℕ) → x < length old → (slice_index new x ≡ slice_index old x) ⊎ IsMoved rows start to old new x
  pub first : slice_index new start ≡ to
  pub closed : (x w : ℕ) → x < length old → slice_index new x ≡ to → Contains (row_at rows x) w → slice_index old w ≡ slice_index old start → slice_index new w ≡ to

-- numbers that lead to one another stand in one group
abbrev pub IsApart : List (List ℕ) → List ℕ → Type 0
IsApart rows group = (v w : ℕ) → Chain (row_at rows) v w → Chain (row_at rows) w v → slice_index group v ≡ slice_index group w

-- the group of a number is known to be whole
abbrev pub IsWhole : List ℕ → List Bool → ℕ → Type 0
IsWhole group whole v = slice_index_or whole (slice_index group v) false ≡ true

-- groups that are no finer than the cycles, and where they are whole no coarser
pub record AreParts (rows : List (List ℕ)) (group : List ℕ) (whole : List Bool) : Type 0 where
  pub places : length group ≡ length rows
  pub known : All (λ g. g < length whole) group
  pub apart : IsApart rows group
  pub strong : (v w : ℕ) → v < length rows → w < length rows → slice_index group v ≡ slice_index group w → IsWhole group whole v → Reaches (row_at rows) v w

-- whether one of the targets is in the group
abbrev pub leads_into_lem : List ℕ → List ℕ → ℕ → Bool
leads_into_lem targets group own = list_any (λ target. slice_index group target == own) targets

-- for each number, whether one of its targets is in its group
pub record TellsInside (rows : List (List ℕ)) (group : List ℕ) (inside : List Bool) : Type 0 where
  pub places : length inside ≡ length rows
  pub each : (v : ℕ) → v < length rows → slice_index_or inside v false ≡ leads_into_lem (row_at rows v) group (slice_index group v)

-- for each number, whether a chain leads from it back to it
pub record TellsCycles (rows : List (List ℕ)) (cyclic : List Bool) : Type 0 where
  pub places : length cyclic ≡ length rows
  pub each : (v : ℕ) → v < length rows → (slice_index_or cyclic v false ≡ true) ↔ Chain (row_at rows) v v
