-- A run between its parts: the project that was found, the tables that it settled, and what was delivered of them.
use Rattle.std.specs.Prelude.{◌≡◌, ◌⊎◌, ℕ, List, [], ◌++◌, true, false, Option, Ok, IfSome}
use Rattle.ap_builder.specs.Meanings.{Meanings}
use Rattle.ap_builder.specs.declared.entry.Entry.{Entry}
use Rattle.ap_config.specs.declared.config.Config.{Config}
use Rattle.ap_config.specs.declared.offer.Offer.{Offer}
use Rattle.ap_scan.specs.declared.results.Scan.{Scan}
use Rattle.ap_content.specs.Entries.{Entry as ContentEntry}
use Rattle.ap_rows.specs.declared.row.Tables.{Tables}
use Rattle.ap_db.specs.declared.db.Db.{Db}
use Rattle.ap_db.specs.declared.things.FileThing.{FileThing}
use Rattle.ap_db.specs.States.{Names, TablesAre}
use Rattle.ap_db.specs.Stored.{Stored}
use Rattle.ap_db.specs.Tables.{PlainTables}
use Rattle.ap_engine.specs.Changes.{front_changes, changes}
use Rattle.ap_engine.specs.Ledgers.{HasCommitted, HasStopped}
use Rattle.ap_engine.specs.Need.{need}
use Rattle.ap_engine.specs.Worlds.{AreQuiet, AreFree, AreCreateInputs, IsTyped}
use Rattle.ap_cli.specs.declared.other_files.OtherFiles.{OtherFiles}
use Rattle.ap_cli.specs.declared.report.Counts.{Counts}
use Rattle.ap_scan.specs.Winners.{Files}
use Rattle.ap_cli.specs.Project.{config_at, IsProject, others_of}
use Rattle.ap_cli.specs.Layout.{AreApart, files_of, have_one_product}
use Rattle.ap_cli.specs.ProductIds.{AreDistinct, ids_of}
use Rattle.ap_cli.specs.Unbuilt.{IsTargeted}
use Rattle.ap_cli.specs.Run.{counts_of}

-- rows whose numbers name the things of these plain rows
abbrev pub AreRowsOf : Tables → List (Option ContentEntry) → PlainTables → Type 0
AreRowsOf tables contents plain = (things : List (Option FileThing)) × TablesAre (Names things contents) tables plain

-- why products aren't delivered: some job has other than one, some are in each other's way, or some have one id
abbrev pub IsUndeliverable : PlainTables → Type 0
IsUndeliverable tables = (have_one_product tables ≡ false) ⊎ (¬ AreApart (files_of tables)) ⊎ (¬ AreDistinct (ids_of tables))

-- the products of these tables, one of each job, none in the way of another and none with another's id, with what holds
-- of the cache by them and of the sink by the counts
pub record Delivered (Laid : Files → Type 0) (Told : Counts → Type 0) (tables : PlainTables) : Type 0 where
  pub made : have_one_product tables ≡ true
  pub apart : AreApart (files_of tables)
  pub distinct : AreDistinct (ids_of tables)
  pub laid : Laid (files_of tables)
  pub told : Told (counts_of tables)

-- what the path's file says, where the tree tells its files, is this configuration
abbrev pub Configures : List Offer → List ℕ → Option Files → Config → Type 0
Configures offers path tree config = IfSome tree (λ files. config_at offers path files ≡ Ok config)

module _ (builders : Meanings) (offers : List Offer) (path : List ℕ) (tree : Option Files) where
  -- the project of a configuration's path, where the tree tells its files, in which no file is too large and no target
  -- is declared
  pub record IsFound (config : Config) (scan : Scan) : Type 0 where
    pub told : IfSome tree (λ files. IsProject offers path files config scan)
    pub quiet : AreQuiet builders config scan.winners
    pub untargeted : ¬ IsTargeted builders config scan.winners

  module _ {D : Type 0} (seen : D → Option (List ℕ)) (may_leave : D → List ℕ → Type 0) (clock : D → Option ℕ) (left_at : D → ℕ → List ℕ → Type 0) (room faults : D → ℕ) where
    -- all changes of the project's run were committed, just what was needed was asked for, and these files were passed over
    pub record Settled (db db' : Db) (contents contents' : List (Option ContentEntry)) (old new : D × D) (stored : Stored) (bench bench' : List Entry) (others : OtherFiles) : Type 0 where
      pub config : Config
      pub scan : Scan
      pub found : IsFound config scan
      pub free : AreFree builders config scan.winners
      pub typed : IsTyped builders config scan.winners
      pub committed : HasCommitted seen may_leave clock left_at room faults db contents db' contents' old new stored (changes builders config scan.winners stored.tables)
      pub asked : bench' ≡ bench ++ need builders config scan.winners stored.tables
      pub passed : others ≡ others_of scan

    -- it stopped before its first change, before those of its jobs, or anywhere
    pub data Halted (old new : D × D) (stored : Stored) : Type 0 where
      at_once : HasStopped seen may_leave clock left_at room faults old new stored [] → Halted old new stored
      early : (config : Config) (scan : Scan) → IsFound config scan → AreCreateInputs builders config scan.winners
          → HasStopped seen may_leave clock left_at room faults old new stored (front_changes builders config scan.winners stored.tables) → Halted old new stored
      late : (config : Config) (scan : Scan) → IsFound config scan → AreFree builders config scan.winners → IsTyped builders config scan.winners
          → HasStopped seen may_leave clock left_at room faults old new stored (changes builders config scan.winners stored.tables) → Halted old new stored
