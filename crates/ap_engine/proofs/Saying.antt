-- The items that say a whole change.
use Rattle.std.proofs.Common.{List, [], ◌∷◌, refl}
use Rattle.ap_content.specs.Things.{Thing}
use Rattle.ap_content.specs.declared.node.Number.{Number}
use Rattle.ap_rows.specs.declared.change.Item.TheVariants.{PutSource, PutJob, PutFolders}
use Rattle.ap_rows.specs.declared.row.FolderRow.{FolderRow}
use Rattle.ap_rows.specs.declared.row.SourceRow.{SourceRow}
use Rattle.ap_rows.specs.declared.row.JobRow.{JobRow}
use Rattle.ap_db.specs.Changes.{put_folders, put_source, put_job}
use Rattle.ap_db.specs.Listed.{AreAll}
use Rattle.ap_db.specs.Said.{ItemIs}
use Rattle.ap_db.specs.States.{SourceIs, JobIs}
use Rattle.ap_db.specs.Tables.{PlainSource, PlainJob, PlainTables}
use Rattle.ap_db.specs.WholeItems.{items_of}

module _ (N : Number → Thing → Type 0) (tables : PlainTables) where
  pub says_folders : (rows : List FolderRow) → AreAll (ItemIs N) (PutFolders rows ∷ []) (items_of tables (put_folders rows))
  unfolding items_of
  says_folders rows = (refl, tt)

  pub says_source : (row : SourceRow) (plain : PlainSource) → SourceIs N row plain → AreAll (ItemIs N) (PutSource row ∷ []) (items_of tables (put_source plain))
  unfolding items_of
  says_source row plain is = (is, tt)

  pub says_job : (row : JobRow) (plain : PlainJob) → JobIs N row plain → AreAll (ItemIs N) (PutJob row ∷ []) (items_of tables (put_job plain))
  unfolding items_of
  says_job row plain is = (is, tt)
