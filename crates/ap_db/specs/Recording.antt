-- A file with one record more.
use Rattle.std.specs.Prelude.{◌≡◌, ℕ, List, [], ◌∷◌, ◌++◌, Ok, IsTrue}
use Rattle.ap_journal.specs.Records.{standing, IsStoreOf}
use Rattle.ap_rows.specs.declared.change.Item.{Item}
use Rattle.ap_rows.specs.Spelling.{spelled}
use Rattle.ap_rows.specs.Grammar.{decoded}
use Rattle.ap_rows.specs.Folded.{are_folded}

-- it has the record of these items behind the records of the other, and where their paths are folded this reads back
pub record HasRecord (items : List Item) (old new : List ℕ) : Type 0 where
  pub stands : IsStoreOf (standing old ++ spelled items ∷ []) new
  pub reads : IsTrue (are_folded items) → decoded (spelled items) ≡ Ok items
