-- The folder rows and the source rows, one behind the other.
use Rattle.std.proofs.Common.{◌≡◌, ℕ, List, ◌++◌, Option, Result, Ok, Err, sym, subst}
use Rattle.std.specs.Prelude.{IfErr}
use Rattle.std.specs.Result.{IsErr, IsErrAnd}
use Rattle.ap_config.specs.declared.config.Config.{Config}
use Rattle.ap_scan.specs.declared.results.Winner.{Winner}
use Rattle.ap_builder.specs.Meanings.{Meanings}
use Rattle.ap_content.specs.Entries.{Entry}
use Rattle.ap_db.specs.declared.db.Db.{Db}
use Rattle.ap_db.specs.Changes.{Whole}
use Rattle.ap_db.specs.Stored.{Stored}
use Rattle.ap_db.specs.Tables.{PlainTables}
use Rattle.ap_db.specs.WholeItems.{all_committed}
use Rattle.ap_sources.specs.Sources.{sources}
use Rattle.ap_engine.specs.declared.source.Source.{Source}
use Rattle.ap_engine.specs.Changes.{folder_changes, source_changes, with_folder_rows}
use Rattle.ap_engine.specs.Interned.{AreSourcesOf}
use Rattle.ap_engine.specs.Ledgers.{IsReady, HasCommitted}
use Rattle.ap_engine.specs.SourceSteps.{AreRead}
use Rattle.ap_engine.specs.Worlds.{AreQuiet}
use Rattle.ap_engine.proofs.NeededSources.{stay_sources}
use Rattle.ap_engine.proofs.RunPhases.{sources_follow}

-- what holds of the fault that a refusal has
pub of_fault : {X E : Type 0} (result : Result X E) (fault : E) (P : E → Type 0) → IsErr result × IsErrAnd result (λ e. e ≡ fault) → P fault → IfErr result P
of_fault (Ok x) fault P are p = tt
of_fault (Err e) fault P are p = subst P (sym are.1) p

module _ (builders : Meanings) (config : Config) (winners : List Winner) where
  pub are_read : AreQuiet builders config winners → AreRead winners
  are_read quiet = record { rise = quiet.rise; read = quiet.read; folded = quiet.folded }

  -- the changes of the folder rows and of the sources
  abbrev pub row_changes : PlainTables → List Whole
  row_changes tables = folder_changes config winners tables ++ source_changes config winners (with_folder_rows builders config winners tables)

module _ {D : Type 0} (seen : D → Option (List ℕ)) (may_leave : D → List ℕ → Type 0) (clock : D → Option ℕ) (left_at : D → ℕ → List ℕ → Type 0) (room faults : D → ℕ)
    (builders : Meanings) (config : Config) (winners : List Winner) (db db' : Db) (contents contents' : List (Option Entry)) (old mid new : D × D) (stored : Stored)
    (ready : IsReady seen may_leave room db contents old stored) (quiet : AreQuiet builders config winners) (all : List Source) (are : AreSourcesOf db contents all (sources config winners))
    (one : HasCommitted seen may_leave clock left_at room faults db contents db' contents' old mid stored (folder_changes config winners stored.tables)) where
  pub sources_then : AreSourcesOf db' contents' all (sources config winners)
  sources_then = stay_sources builders config winners db contents db' contents' one.stay all (sources config winners) are

  pub rows_committed : (db'' : Db) (contents'' : List (Option Entry))
      → ((config : Config) (winners : List Winner) (stored : Stored) → IsReady seen may_leave room db' contents' mid stored → AreRead winners → AreSourcesOf db' contents' all (sources config winners)
      → HasCommitted seen may_leave clock left_at room faults db' contents' db'' contents'' mid new stored (source_changes config winners stored.tables))
      → HasCommitted seen may_leave clock left_at room faults db contents db'' contents'' old new stored (row_changes builders config winners stored.tables)
  rows_committed db'' contents'' two = sources_follow seen may_leave clock left_at room faults db db' contents contents' old mid new stored ready.beside.well builders config winners one db'' contents''
      (two config winners (all_committed stored (folder_changes config winners stored.tables)) one.ready (are_read builders config winners quiet) sources_then)
