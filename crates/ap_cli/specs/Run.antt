-- What a run of `batch` does.
use Rattle.std.specs.Prelude.{◌≡◌, ◌⊎◌, ℕ, List, [], ◌++◌, length, Option, Ok, IfSome}
use Rattle.ap_builder.specs.Meanings.{Meanings}
use Rattle.ap_builder.specs.declared.entry.Entry.{Entry}
use Rattle.ap_config.specs.declared.config.Config.{Config}
use Rattle.ap_config.specs.declared.offer.Offer.{Offer}
use Rattle.ap_scan.specs.declared.results.Scan.{Scan}
use Rattle.ap_db.specs.Changes.{Whole}
use Rattle.ap_db.specs.Stored.{Stored, stored_in}
use Rattle.ap_db.specs.Tables.{PlainTables}
use Rattle.ap_engine.specs.Changes.{changes}
use Rattle.ap_engine.specs.Ledgers.{RunsOn}
use Rattle.ap_engine.specs.Need.{need}
use Rattle.ap_engine.specs.Settled.{settled}
use Rattle.ap_engine.specs.Stops.{IsFrontOf}
use Rattle.ap_cli.specs.declared.other_files.OtherFiles.{OtherFiles}
use Rattle.ap_cli.specs.declared.report.Counts.{Counts}
use Rattle.ap_scan.specs.Winners.{Files}
use Rattle.ap_cli.specs.Project.{IsProject, others_of}
use Rattle.ap_cli.specs.Layout.{AreApart, files_of}
use Rattle.ap_cli.specs.ProductIds.{AreDistinct, ids_of}
use Rattle.ap_cli.specs.Store.{HasNow}

-- what a run counts over its tables: each job is done, and each product is published
abbrev pub counts_of : PlainTables → Counts
counts_of tables = record {
  sources = length tables.sources;
  jobs = length tables.jobs;
  done = length tables.jobs;
  published = length (files_of tables);
  shadowed = 0;
  wrote = length (files_of tables);
  removed = 0;
}

-- changes that are the first of those that a run over these tables commits
pub record AreFirst (builders : Meanings) (offers : List Offer) (path : List ℕ) (tables : PlainTables) (given : List Whole) (files : Files) : Type 0 where
  pub config : Config
  pub scan : Scan
  pub on : IsProject offers path files config scan
  pub front : IsFrontOf given (changes builders config scan.winners tables)

module _ {D : Type 0} (seen : D → Option (List ℕ)) (may_leave : D → List ℕ → Type 0) (clock : D → Option ℕ) (left_at : D → ℕ → List ℕ → Type 0) (room faults : D → ℕ) (old new : D × D)
    (builders : Meanings) (offers : List Offer) (path : List ℕ) where
  -- a run to its end over a store's file: what it asked for, and its whole changes, after which the tables are the
  -- settled ones; what holds of the cache by their products, and of the sink by the entries, the files passed over and the counts
  pub record Ran (bench bench' : List Entry) (Laid : Files → Type 0) (Told : List Entry → OtherFiles → Counts → Type 0) (files : Files) (file : List ℕ) : Type 0 where
    pub config : Config
    pub scan : Scan
    pub on : IsProject offers path files config scan
    pub stored : Stored
    pub lawful : stored_in file ≡ Ok stored
    pub asked : bench' ≡ bench ++ need builders config scan.winners stored.tables
    pub runs : RunsOn seen may_leave clock left_at room faults old new stored (changes builders config scan.winners stored.tables) (length (changes builders config scan.winners stored.tables))
    pub settles : HasNow seen may_leave new (settled builders config scan.winners)
    pub apart : AreApart (files_of (settled builders config scan.winners))
    pub distinct : AreDistinct (ids_of (settled builders config scan.winners))
    pub laid : Laid (files_of (settled builders config scan.winners))
    pub told : Told (need builders config scan.winners stored.tables) (others_of scan) (counts_of (settled builders config scan.winners))

  -- a run, stopped anywhere, has given the first of its whole changes to the store, so many of which answered Ok
  pub record Stopped (tree : Option Files) (file : List ℕ) : Type 0 where
    pub stored : Stored
    pub lawful : stored_in file ≡ Ok stored
    pub given : List Whole
    pub answered : ℕ
    pub runs : RunsOn seen may_leave clock left_at room faults old new stored given answered
    pub first : (given ≡ []) ⊎ IfSome tree (AreFirst builders offers path stored.tables given)
