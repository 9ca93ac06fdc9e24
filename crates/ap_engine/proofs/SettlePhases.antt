-- What the jobs of a run are asked for on: the creations before them are recorded.
use Rattle.std.proofs.Common.{ℕ, List, [], Option, refl, subst}
use Rattle.std.proofs.lemmas.List.{append-nil}
use Rattle.ap_config.specs.declared.config.Config.{Config}
use Rattle.ap_scan.specs.declared.results.Winner.{Winner}
use Rattle.ap_builder.specs.Meanings.{Meanings}
use Rattle.ap_content.specs.Entries.{Entry}
use Rattle.ap_db.specs.declared.db.Db.{Db}
use Rattle.ap_db.specs.Changes.{Whole}
use Rattle.ap_db.specs.Stored.{Stored}
use Rattle.ap_db.specs.Tables.{PlainTables}
use Rattle.ap_db.specs.WholeItems.{all_committed}
use Rattle.ap_engine.specs.Changes.{with_folder_rows, with_creations, front_changes}
use Rattle.ap_engine.specs.Ledgers.{HasCommitted, HasStopped}
use Rattle.ap_engine.specs.Recorded.{AreRecorded}
use Rattle.ap_engine.specs.Settled.{create_row}
use Rattle.ap_engine.specs.Sound.{AreSoundTables}
use Rattle.ap_engine.specs.Worlds.{AreQuiet, AreCreateInputs}
use Rattle.ap_engine.proofs.Following.{stopped_behind}
use Rattle.ap_engine.proofs.Phases.{creation_of_source}
use Rattle.ap_engine.proofs.Settles.{sound_with_folder_rows}

module _ (builders : Meanings) (config : Config) (winners : List Winner) (quiet : AreQuiet builders config winners) (inputs : AreCreateInputs builders config winners) where
  -- the creations of the sources are recorded once they are put
  pub creations_recorded : (tables : PlainTables) → AreSoundTables builders tables → AreRecorded builders config winners (with_creations builders config winners tables)
  creations_recorded tables sound winner is = record {
    row = create_row builders config winners winner.path;
    there = creation_of_source builders config winners quiet (with_folder_rows builders config winners tables) (sound_with_folder_rows builders config winners tables sound) inputs winner is;
    same = refl;
  }

module _ (builders : Meanings) (config : Config) (winners : List Winner) {D : Type 0} (seen : D → Option (List ℕ)) (may_leave : D → List ℕ → Type 0) (clock : D → Option ℕ) (left_at : D → ℕ → List ℕ → Type 0) (room faults : D → ℕ)
    (db : Db) (contents : List (Option Entry)) (db' : Db) (contents' : List (Option Entry)) (old mid new : D × D) (stored : Stored) where
  -- a stop of the jobs that gave none of them
  pub stopped_between : HasCommitted seen may_leave clock left_at room faults db contents db' contents' old mid stored (front_changes builders config winners stored.tables)
      → HasStopped seen may_leave clock left_at room faults mid new (all_committed stored (front_changes builders config winners stored.tables)) []
      → HasStopped seen may_leave clock left_at room faults old new stored (front_changes builders config winners stored.tables)
  stopped_between one two = subst (λ (given : List Whole). HasStopped seen may_leave clock left_at room faults old new stored given) (append-nil (front_changes builders config winners stored.tables))
      (stopped_behind seen may_leave clock left_at room faults db contents db' contents' old mid new stored (front_changes builders config winners stored.tables) [] one two)
