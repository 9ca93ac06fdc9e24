-- The phases of a run, each committed as the tables are then, are the run's changes in their order.
use Rattle.std.proofs.Common.{◌≡◌, ℕ, List, ◌++◌, Option, refl, ◌∙◌, ap, subst}
use Rattle.std.proofs.lemmas.List.Sums.{fold-append}
use Rattle.ap_config.specs.declared.config.Config.{Config}
use Rattle.ap_scan.specs.declared.results.Winner.{Winner}
use Rattle.ap_builder.specs.Meanings.{Meanings}
use Rattle.ap_content.specs.Entries.{Entry}
use Rattle.ap_db.specs.declared.db.Db.{Db}
use Rattle.ap_db.specs.Changes.{Whole, after, after_all}
use Rattle.ap_db.specs.Stored.{Stored}
use Rattle.ap_db.specs.Tables.{PlainTables}
use Rattle.ap_db.specs.WellStored.{IsWellStored}
use Rattle.ap_db.specs.WholeItems.{all_committed}
use Rattle.ap_engine.specs.Changes.{folder_changes, source_changes, create_changes, job_changes, with_folder_rows, with_source_rows, with_creations, front_changes, changes}
use Rattle.ap_engine.specs.Ledgers.{HasCommitted, HasStopped}
use Rattle.ap_engine.proofs.Following.{all_follow, stopped_behind, stopped_before}
use Rattle.ap_engine.proofs.WholeTables.{tables_after_all}

-- the tables behind the folder rows and the sources, and behind the creations
module _ (builders : Meanings) (config : Config) (winners : List Winner) (t : PlainTables) where
  behind_sources : after_all t (folder_changes config winners t ++ source_changes config winners (with_folder_rows builders config winners t)) ≡ with_source_rows builders config winners t
  behind_sources = fold-append after t (folder_changes config winners t) (source_changes config winners (with_folder_rows builders config winners t))

  behind_creations : after_all t (front_changes builders config winners t) ≡ with_creations builders config winners t
  behind_creations = fold-append after t (folder_changes config winners t ++ source_changes config winners (with_folder_rows builders config winners t)) (create_changes builders config winners (with_source_rows builders config winners t))
      ∙ ap (λ u. after_all u (create_changes builders config winners (with_source_rows builders config winners t))) behind_sources

module _ {D : Type 0} (seen : D → Option (List ℕ)) (may_leave : D → List ℕ → Type 0) (clock : D → Option ℕ) (left_at : D → ℕ → List ℕ → Type 0) (room faults : D → ℕ)
    (db db' : Db) (contents contents' : List (Option Entry)) (old mid new : D × D) (stored : Stored) (well : IsWellStored stored) where
  -- a phase, whose changes are those of the tables then, behind others
  module _ (first : List Whole) (next : PlainTables → List Whole) (t : PlainTables) (are : after_all stored.tables first ≡ t)
      (one : HasCommitted seen may_leave clock left_at room faults db contents db' contents' old mid stored first) where
    tables_then : (all_committed stored first).tables ≡ t
    tables_then = tables_after_all first stored well one.commits.lawful ∙ are

    pub phase_follows : (db'' : Db) (contents'' : List (Option Entry)) → HasCommitted seen may_leave clock left_at room faults db' contents' db'' contents'' mid new (all_committed stored first) (next (all_committed stored first).tables)
        → HasCommitted seen may_leave clock left_at room faults db contents db'' contents'' old new stored (first ++ next t)
    phase_follows db'' contents'' two = subst (λ (u : PlainTables). HasCommitted seen may_leave clock left_at room faults db contents db'' contents'' old new stored (first ++ next u)) tables_then
        (all_follow seen may_leave clock left_at room faults db contents db' contents' db'' contents'' old mid new stored first (next (all_committed stored first).tables) one two)

    pub phase_stops : HasStopped seen may_leave clock left_at room faults mid new (all_committed stored first) (next (all_committed stored first).tables) → HasStopped seen may_leave clock left_at room faults old new stored (first ++ next t)
    phase_stops two = subst (λ (u : PlainTables). HasStopped seen may_leave clock left_at room faults old new stored (first ++ next u)) tables_then
        (stopped_behind seen may_leave clock left_at room faults db contents db' contents' old mid new stored first (next (all_committed stored first).tables) one two)

  module _ (builders : Meanings) (config : Config) (winners : List Winner) where
    abbrev sources_too : List Whole
    sources_too = folder_changes config winners stored.tables ++ source_changes config winners (with_folder_rows builders config winners stored.tables)

    abbrev Follow : List Whole → (PlainTables → List Whole) → List Whole → Type 0
    Follow first next all = HasCommitted seen may_leave clock left_at room faults db contents db' contents' old mid stored first → (db'' : Db) (contents'' : List (Option Entry))
        → HasCommitted seen may_leave clock left_at room faults db' contents' db'' contents'' mid new (all_committed stored first) (next (all_committed stored first).tables)
        → HasCommitted seen may_leave clock left_at room faults db contents db'' contents'' old new stored all

    abbrev Stop : List Whole → (PlainTables → List Whole) → List Whole → Type 0
    Stop first next all = HasCommitted seen may_leave clock left_at room faults db contents db' contents' old mid stored first
        → HasStopped seen may_leave clock left_at room faults mid new (all_committed stored first) (next (all_committed stored first).tables)
        → HasStopped seen may_leave clock left_at room faults old new stored all

    -- the sources behind the folder rows, the creations behind both, and the jobs at last
    pub sources_follow : Follow (folder_changes config winners stored.tables) (source_changes config winners) sources_too
    sources_follow one = phase_follows (folder_changes config winners stored.tables) (source_changes config winners) (with_folder_rows builders config winners stored.tables) refl one

    pub creations_follow : Follow sources_too (create_changes builders config winners) (front_changes builders config winners stored.tables)
    creations_follow one = phase_follows sources_too (create_changes builders config winners) (with_source_rows builders config winners stored.tables) (behind_sources builders config winners stored.tables) one

    pub jobs_follow : Follow (front_changes builders config winners stored.tables) (job_changes builders config winners) (changes builders config winners stored.tables)
    jobs_follow one = phase_follows (front_changes builders config winners stored.tables) (job_changes builders config winners) (with_creations builders config winners stored.tables) (behind_creations builders config winners stored.tables) one

    -- the tables behind the sources, and behind the creations
    pub tables_behind_sources : HasCommitted seen may_leave clock left_at room faults db contents db' contents' old mid stored sources_too → (all_committed stored sources_too).tables ≡ with_source_rows builders config winners stored.tables
    tables_behind_sources one = tables_then sources_too (create_changes builders config winners) (with_source_rows builders config winners stored.tables) (behind_sources builders config winners stored.tables) one

    pub tables_behind_creations : HasCommitted seen may_leave clock left_at room faults db contents db' contents' old mid stored (front_changes builders config winners stored.tables)
        → (all_committed stored (front_changes builders config winners stored.tables)).tables ≡ with_creations builders config winners stored.tables
    tables_behind_creations one = tables_then (front_changes builders config winners stored.tables) (job_changes builders config winners) (with_creations builders config winners stored.tables) (behind_creations builders config winners stored.tables) one

    -- a phase that stops behind those that didn't
    pub sources_stop : Stop (folder_changes config winners stored.tables) (source_changes config winners) (front_changes builders config winners stored.tables)
    sources_stop one two = stopped_before seen may_leave clock left_at room faults old new stored sources_too (create_changes builders config winners (with_source_rows builders config winners stored.tables))
        (phase_stops (folder_changes config winners stored.tables) (source_changes config winners) (with_folder_rows builders config winners stored.tables) refl one two)

    pub creations_stop : Stop sources_too (create_changes builders config winners) (front_changes builders config winners stored.tables)
    creations_stop one two = phase_stops sources_too (create_changes builders config winners) (with_source_rows builders config winners stored.tables) (behind_sources builders config winners stored.tables) one two

    pub jobs_stop : Stop (front_changes builders config winners stored.tables) (job_changes builders config winners) (changes builders config winners stored.tables)
    jobs_stop one two = phase_stops (front_changes builders config winners stored.tables) (job_changes builders config winners) (with_creations builders config winners stored.tables) (behind_creations builders config winners stored.tables) one two

module _ {D : Type 0} (seen : D → Option (List ℕ)) (may_leave : D → List ℕ → Type 0) (clock : D → Option ℕ) (left_at : D → ℕ → List ℕ → Type 0) (room faults : D → ℕ)
    (old new : D × D) (stored : Stored) (builders : Meanings) (config : Config) (winners : List Winner) where
  -- what stopped at the folder rows stopped before the jobs
  pub folders_stop : HasStopped seen may_leave clock left_at room faults old new stored (folder_changes config winners stored.tables) → HasStopped seen may_leave clock left_at room faults old new stored (front_changes builders config winners stored.tables)
  folders_stop stop = stopped_before seen may_leave clock left_at room faults old new stored
      (folder_changes config winners stored.tables ++ source_changes config winners (with_folder_rows builders config winners stored.tables)) (create_changes builders config winners (with_source_rows builders config winners stored.tables))
      (stopped_before seen may_leave clock left_at room faults old new stored (folder_changes config winners stored.tables) (source_changes config winners (with_folder_rows builders config winners stored.tables)) stop)

  -- and what stopped before the jobs stopped on the way to all
  pub early_stop : HasStopped seen may_leave clock left_at room faults old new stored (front_changes builders config winners stored.tables) → HasStopped seen may_leave clock left_at room faults old new stored (changes builders config winners stored.tables)
  early_stop stop = stopped_before seen may_leave clock left_at room faults old new stored (front_changes builders config winners stored.tables) (job_changes builders config winners (with_creations builders config winners stored.tables)) stop
