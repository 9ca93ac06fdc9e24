-- A database beside its contents, over its store, and the whole changes that are committed on it.
use Rattle.std.specs.Prelude.{◌≡◌, ◌≤◌, ◌<◌, ◌⊎◌, ◌+◌, ◌^◌, ℕ, suc, true, false, List, [], ◌∷◌, length, take, Option, Ok, IfSome, is_some, cond}
use Rattle.ap_content.specs.Things.{Thing}
use Rattle.ap_content.specs.Entries.{Entry, Stands, holds_at}
use Rattle.ap_content.specs.declared.node.Number.{Number}
use Rattle.ap_disk.specs.Calls.{TellsAs}
use Rattle.ap_disk.specs.Crashes.{Only}
use Rattle.ap_journal.specs.Commits.{Committed, Started}
use Rattle.ap_journal.specs.Moments.{BetweenClocks, Rests}
use Rattle.ap_journal.specs.State.{IsOf}
use Rattle.ap_db.specs.declared.db.Db.{Db}
use Rattle.ap_db.specs.Stored.{Stored, stored_in}
use Rattle.ap_db.specs.States.{StandsFor, AreHeld, file_thing}
use Rattle.ap_db.specs.WellStored.{IsWellStored}
use Rattle.ap_db.specs.TakenOut.{AreCandidates}
use Rattle.ap_db.specs.Lawful.{is_lawful}
use Rattle.ap_db.specs.Changes.{Whole}
use Rattle.ap_engine.specs.Stops.{IsFrontOf}
use Rattle.ap_db.specs.WholeItems.{items_of, committed, all_committed}

-- the database and the contents stand for what is stored
pub record IsBeside (db : Db) (contents : List (Option Entry)) (stored : Stored) : Type 0 where
  pub stands : StandsFor db.state contents stored
  pub held : AreHeld db.state.things.items contents
  pub well : IsWellStored stored
  pub loose : AreCandidates contents stored db.loose.items

-- a number stands for a thing, with a hold on it beside the database's own
pub record IsHeld (db : Db) (contents : List (Option Entry)) (n : Number) (x : Thing) : Type 0 where
  pub stands : Stands contents n x
  pub hold : 1 + cond (is_some (file_thing db.state.things.items n)) 1 0 ≤ holds_at contents n

-- what was held is held
abbrev pub StayHeld : Db → List (Option Entry) → Db → List (Option Entry) → Type 0
StayHeld db contents db' contents' = (n : Number) (x : Thing) → IsHeld db contents n x → IsHeld db' contents' n x

-- each of the changes is lawful behind those before it
abbrev pub AreLawful : Stored → List Whole → Type 0
AreLawful stored [] = Unit {0}
AreLawful stored (change ∷ changes) = (is_lawful stored (items_of stored.tables change) ≡ true) × AreLawful (committed stored change) changes

-- a file that stands for what is stored after the first so many of these changes
abbrev pub IsAfter : Stored → List Whole → ℕ → List ℕ → Type 0
IsAfter stored changes count file = stored_in file ≡ Ok (all_committed stored (take count changes))

-- or after one more of them
abbrev pub IsAbout : Stored → List Whole → ℕ → List ℕ → Type 0
IsAbout stored changes count file = IsAfter stored changes count file ⊎ IsAfter stored changes (count + 1) file

-- the ledger stands for what is stored, and so does its store, as it reads and in each image
pub record IsReady {D : Type 0} (seen : D → Option (List ℕ)) (may_leave : D → List ℕ → Type 0) (room : D → ℕ) (db : Db) (contents : List (Option Entry)) (store : D × D) (stored : Stored) : Type 0 where
  pub beside : IsBeside db contents stored
  pub journal : IsOf seen may_leave room db.journal store
  pub bounded : db.journal.limit ≤ 2 ^ 32
  pub unspent : db.journal.spent ≡ false
  pub file : IfSome (seen store.0) (λ file. stored_in file ≡ Ok stored)
  pub durable : Only (seen store.0) (may_leave store.0)

module _ {D : Type 0} (seen : D → Option (List ℕ)) (may_leave : D → List ℕ → Type 0) (clock : D → Option ℕ) (left_at : D → ℕ → List ℕ → Type 0) (room faults : D → ℕ) where
  -- commits of these changes on the first disk of a pair, so many of which answered Ok: all, or all but the last
  pub record Commits (old new : D × D) (stored : Stored) (given : List Whole) (answered : ℕ) : Type 0 where
    pub lawful : AreLawful stored given
    pub counted : (length given ≡ answered) ⊎ (length given ≡ suc answered)
    pub moments : BetweenClocks (clock old.0) (clock new.0)
        (Committed (left_at old.0) (left_at new.0) (λ count c. IfSome (seen old.0) (λ _. IsAbout stored given count c)) answered)
    pub crash : (c : List ℕ) → may_leave new.0 c → IfSome (seen old.0) (λ _. IsAbout stored given answered c)
    pub same_room : room new.0 ≡ room old.0
    pub later : faults old.0 ≤ faults new.0
    pub other : Rests seen may_leave clock left_at room faults old.1 new.1

  -- all of them answered Ok, and the ledger is ready for more
  pub record HasCommitted (db : Db) (contents : List (Option Entry)) (db' : Db) (contents' : List (Option Entry)) (old new : D × D) (stored : Stored) (given : List Whole) : Type 0 where
    pub commits : Commits old new stored given (length given)
    pub told : TellsAs (seen old.0) (seen new.0) (λ _ _. Unit {0})
    pub ready : IsReady seen may_leave room db' contents' new (all_committed stored given)
    pub stay : StayHeld db contents db' contents'
    pub limit : db'.journal.limit ≡ db.journal.limit

  -- some first ones of these changes were given, and the last perhaps not acknowledged
  pub record HasStopped (old new : D × D) (stored : Stored) (all : List Whole) : Type 0 where
    pub given : List Whole
    pub front : IsFrontOf given all
    pub answered : ℕ
    pub commits : Commits old new stored given answered

  -- an opening, in whose first call's images nothing has changed, and then such commits
  pub record RunsOn (old new : D × D) (stored : Stored) (given : List Whole) (answered : ℕ) : Type 0 where
    pub lawful : AreLawful stored given
    pub counted : (length given ≡ answered) ⊎ (length given ≡ suc answered)
    pub moments : BetweenClocks (clock old.0) (clock new.0)
        (Started (left_at old.0) (left_at new.0) (may_leave old.0) (λ count c. IfSome (seen old.0) (λ _. IsAbout stored given count c)) answered)
    pub crash : (c : List ℕ) → may_leave new.0 c → may_leave old.0 c ⊎ IfSome (seen old.0) (λ _. IsAbout stored given answered c)
    pub same_room : room new.0 ≡ room old.0
    pub later : faults old.0 ≤ faults new.0
    pub other : Rests seen may_leave clock left_at room faults old.1 new.1

  -- each image since, of a moment or of a crash at the end, is one of those of before or has P
  pub record LeavesOnly (old new : D × D) (P : List ℕ → Type 0) : Type 0 where
    pub crash : (c : List ℕ) → may_leave new.0 c → may_leave old.0 c ⊎ P c
    pub moments : BetweenClocks (clock old.0) (clock new.0) (λ was now. (t : ℕ) (c : List ℕ) → was < t → t ≤ now → left_at new.0 t c → may_leave old.0 c ⊎ P c)
