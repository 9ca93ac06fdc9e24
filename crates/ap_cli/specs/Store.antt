-- What a run does to its store.
use Rattle.std.specs.Prelude.{◌≡◌, ◌^◌, min, ℕ, List, Option, Ok, IfSome}
use Rattle.ap_db.specs.Stored.{Stored, stored_in}
use Rattle.ap_db.specs.Tables.{PlainTables}
use Rattle.ap_engine.specs.Sound.{HasTables}

-- how many bytes a store may have whose disks have these rooms
abbrev pub limit_of : ℕ → ℕ → ℕ
limit_of a b = min (2 ^ 32) (min a b)

-- each record of the file is one of a database
abbrev pub IsGood : List ℕ → Type 0
IsGood file = (stored : Stored) × (stored_in file ≡ Ok stored)

-- the store has just these tables, as it reads and in each image that a crash may leave
pub record HasNow {D : Type 0} (seen : D → Option (List ℕ)) (may_leave : D → List ℕ → Type 0) (store : D × D) (tables : PlainTables) : Type 0 where
  pub read : IfSome (seen store.0) (HasTables tables)
  pub left : (c : List ℕ) → may_leave store.0 c → IfSome (seen store.0) (λ _. HasTables tables c)
