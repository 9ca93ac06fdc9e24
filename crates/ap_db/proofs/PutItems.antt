-- One item put into the tables, and taken back.
use Rattle.std.proofs.Common.{◌≡◌, ◌∙◌, List, Option, Some, refl, sym, ap, subst}
use Rattle.ap_content.specs.Things.{Thing}
use Rattle.ap_content.specs.Entries.{Entry}
use Rattle.ap_content.specs.declared.node.Number.{Number}
use Rattle.ap_rows.specs.declared.row.FolderRow.{FolderRow}
use Rattle.ap_rows.specs.declared.row.SourceRow.{SourceRow}
use Rattle.ap_rows.specs.declared.row.CreateRow.{CreateRow}
use Rattle.ap_rows.specs.declared.row.JobRow.{JobRow}
use Rattle.ap_rows.specs.declared.change.Item.{Item}
use Rattle.ap_rows.specs.declared.change.Item.TheVariants.{PutSource, PutCreate, PutJob, PutFolders}
use Rattle.ap_db.specs.declared.old.Old.{Old}
use Rattle.ap_db.specs.declared.state.State.{State}
use Rattle.ap_db.specs.Tables.{PlainSource, PlainCreate, PlainJob}
use Rattle.ap_db.specs.Changes.{with_folders, job_row_cmp}
use Rattle.ap_db.specs.Commit.{PlainItem, puts_folders, puts_source, removes_source, puts_create, removes_create, puts_job, removes_job}
use Rattle.ap_db.specs.Listed.{AreBoth, replaced}
use Rattle.ap_db.specs.Olds.{job_in, folders_in}
use Rattle.ap_db.specs.Putting.{HasPutItem}
use Rattle.ap_db.specs.Said.{ItemIs}
use Rattle.ap_db.specs.States.{StandsFor, Names, SourceIs, CreateIs, JobIs}
use Rattle.ap_db.specs.Stored.{Stored, with_tables}
use Rattle.ap_db.specs.Undone.{HasPutJob}

-- ---- the plain item that an item says

module _ (N : Number → Thing → Type 0) where
  pub says_source : (row : SourceRow) (plain : PlainItem) → ItemIs N (PutSource row) plain → (p : PlainSource) × (puts_source p ≡ plain) × SourceIs N row p
  says_source row (puts_folders rows) is = absurd is
  says_source row (puts_source p) is = (p, refl, is)
  says_source row (removes_source path) is = absurd is
  says_source row (puts_create p) is = absurd is
  says_source row (removes_create path) is = absurd is
  says_source row (puts_job p) is = absurd is
  says_source row (removes_job id) is = absurd is

  pub says_create : (row : CreateRow) (plain : PlainItem) → ItemIs N (PutCreate row) plain → (p : PlainCreate) × (puts_create p ≡ plain) × CreateIs N row p
  says_create row (puts_folders rows) is = absurd is
  says_create row (puts_source p) is = absurd is
  says_create row (removes_source path) is = absurd is
  says_create row (puts_create p) is = (p, refl, is)
  says_create row (removes_create path) is = absurd is
  says_create row (puts_job p) is = absurd is
  says_create row (removes_job id) is = absurd is

  pub says_job : (row : JobRow) (plain : PlainItem) → ItemIs N (PutJob row) plain → (p : PlainJob) × (puts_job p ≡ plain) × JobIs N row p
  says_job row (puts_folders rows) is = absurd is
  says_job row (puts_source p) is = absurd is
  says_job row (removes_source path) is = absurd is
  says_job row (puts_create p) is = absurd is
  says_job row (removes_create path) is = absurd is
  says_job row (puts_job p) is = (p, refl, is)
  says_job row (removes_job id) is = absurd is

-- ---- what is taken back

module _ (state : State) (contents : List (Option Entry)) (stored : Stored) where
  job_put : (row : JobRow) (plain : PlainItem) (old : Old) → HasPutItem state contents stored plain (PutJob row) old → (p : PlainJob) × HasPutJob state contents stored p row.id (job_in old)
  job_put row (puts_folders rows) old has = absurd has.is
  job_put row (puts_source p) old has = absurd has.is
  job_put row (removes_source path) old has = absurd has.is
  job_put row (puts_create p) old has = absurd has.is
  job_put row (removes_create path) old has = absurd has.is
  job_put row (puts_job p) old has = (
    p,
    record {
      stands = has.stands;
      rise = has.rise;
      same = has.is.id;
      gave = subst (λ (o : Old). AreBoth (JobIs (Names state.things.items contents)) (job_in o) (replaced job_row_cmp p stored.tables.jobs)) (sym has.gave.1) has.gave.2;
    },
  )
  job_put row (removes_job id) old has = absurd has.is

  pub job_was_put : (item : Item) (row : JobRow) (plain : PlainItem) (old : Old) (found : Option JobRow) → item ≡ PutJob row → found ≡ job_in old → HasPutItem state contents stored plain item old
      → (p : PlainJob) × HasPutJob state contents stored p row.id found
  job_was_put item row plain old found is same has =
      let was = job_put row plain old (subst (λ (i : Item). HasPutItem state contents stored plain i old) is has) in
      (was.0, subst (λ (o : Option JobRow). HasPutJob state contents stored was.0 row.id o) (sym same) was.1)

  folders_put : (rows : List FolderRow) (plain : PlainItem) (old : Old) (back : List FolderRow) → Some back ≡ folders_in old → HasPutItem state contents stored plain (PutFolders rows) old
      → (new : State) → ((s : Stored) → StandsFor state contents s → StandsFor new contents (with_tables s (with_folders s.tables back))) → StandsFor new contents stored
  folders_put rows (puts_folders p) old back same has new step =
      let found : Some back ≡ Some stored.tables.folders = same ∙ ap folders_in has.gave in
      let is : back ≡ stored.tables.folders = cc found in
      subst (λ (rows : List FolderRow). StandsFor new contents (with_tables stored (with_folders stored.tables rows))) is (step (with_tables stored (with_folders stored.tables p)) has.stands)
  folders_put rows (puts_source p) old back same has new step = absurd has.is
  folders_put rows (removes_source path) old back same has new step = absurd has.is
  folders_put rows (puts_create p) old back same has new step = absurd has.is
  folders_put rows (removes_create path) old back same has new step = absurd has.is
  folders_put rows (puts_job p) old back same has new step = absurd has.is
  folders_put rows (removes_job id) old back same has new step = absurd has.is

  pub folders_were_put : (item : Item) (rows : List FolderRow) (plain : PlainItem) (old : Old) (back : List FolderRow) → item ≡ PutFolders rows → Some back ≡ folders_in old → HasPutItem state contents stored plain item old
      → (new : State) → ((s : Stored) → StandsFor state contents s → StandsFor new contents (with_tables s (with_folders s.tables back))) → StandsFor new contents stored
  folders_were_put item rows plain old back is same has = folders_put rows plain old back same (subst (λ (i : Item). HasPutItem state contents stored plain i old) is has)
