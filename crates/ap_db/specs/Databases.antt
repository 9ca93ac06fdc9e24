-- A database between its calls, and the store and the contents that it stands for.
use Rattle.std.specs.Prelude.{◌≡◌, ◌≤◌, ◌^◌, ◌⊎◌, ℕ, true, false, List, Option, Ok, IfSome}
use Rattle.ap_content.specs.Entries.{Entry, Stands, Lives}
use Rattle.ap_content.specs.declared.node.Number.{Number}
use Rattle.ap_journal.specs.State.{IsOf}
use Rattle.ap_rows.specs.declared.change.Item.{Item}
use Rattle.ap_db.specs.declared.db.Db.{Db}
use Rattle.ap_db.specs.Stored.{Stored, stored_in}
use Rattle.ap_db.specs.States.{StandsFor, AreHeld}
use Rattle.ap_db.specs.Commit.{PlainItem, after_commit}
use Rattle.ap_db.specs.Lawful.{is_lawful}
use Rattle.ap_db.specs.Listed.{AreAll}
use Rattle.ap_db.specs.Said.{ItemIs}
use Rattle.ap_db.specs.WellStored.{IsWellStored}
use Rattle.ap_db.specs.TakenOut.{AreCandidates}

-- nothing lives
abbrev pub AreEmpty : List (Option Entry) → Type 0
AreEmpty contents = (n : Number) → Lives contents n → ⊥

-- the pair is as the journal's last call left it, the state stands beside the contents for what is stored, with a
-- hold on each thing and the numbers of those that nothing names, and unless a disk has failed, this is what the
-- file stands for
pub record IsDbOf {D : Type 0} (seen : D → Option (List ℕ)) (may_leave : D → List ℕ → Type 0) (room : D → ℕ) (db : Db) (contents : List (Option Entry)) (store : D × D) : Type 0 where
  pub stored : Stored
  pub journal : IsOf seen may_leave room db.journal store
  pub stands : StandsFor db.state contents stored
  pub held : AreHeld db.state.things.items contents
  pub well : IsWellStored stored
  pub loose : AreCandidates contents stored db.loose.items
  pub bounded : db.journal.limit ≤ 2 ^ 32
  pub file : db.journal.spent ≡ false → IfSome (seen store.0) (λ file. stored_in file ≡ Ok stored)

-- the state stands for what some records left, and its things are held
abbrev pub IsDb : Db → Type 0
IsDb db = (contents : List (Option Entry)) × (stored : Stored) × StandsFor db.state contents stored × AreHeld db.state.things.items contents

-- the state stands, beside these contents, for what some records left
abbrev pub IsDbBeside : Db → List (Option Entry) → Type 0
IsDbBeside db contents = (stored : Stored) × StandsFor db.state contents stored

-- the items say a lawful change of what is stored
abbrev pub IsChangeOf : List (Option Entry) → Stored → List Item → List PlainItem → Type 0
IsChangeOf contents stored items plain = AreAll (ItemIs (Stands contents)) items plain × (is_lawful stored plain ≡ true)

-- a file that stands for what was stored before a change or after it
abbrev pub IsBeforeOrAfter : Stored → List PlainItem → List ℕ → Type 0
IsBeforeOrAfter stored plain file = (stored_in file ≡ Ok stored) ⊎ (stored_in file ≡ Ok (after_commit stored plain))
