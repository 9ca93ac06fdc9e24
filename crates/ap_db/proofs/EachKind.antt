-- Items beside the plain items that they say, kind by kind.
use Rattle.std.proofs.Common.{◌≡◌, ◌+◌, ℕ, List, [], ◌∷◌, refl}
use Rattle.ap_text.specs.declared.job_id.JobId.{JobId}
use Rattle.ap_content.specs.Things.{Thing}
use Rattle.ap_content.specs.declared.node.Number.{Number}
use Rattle.ap_rows.specs.declared.row.FolderRow.{FolderRow}
use Rattle.ap_rows.specs.declared.row.SourceRow.{SourceRow}
use Rattle.ap_rows.specs.declared.row.CreateRow.{CreateRow}
use Rattle.ap_rows.specs.declared.row.JobRow.{JobRow}
use Rattle.ap_rows.specs.declared.change.Item.{Item}
use Rattle.ap_rows.specs.declared.change.Item.TheVariants.{PutSource, RemoveSource, PutCreate, RemoveCreate, PutJob, RemoveJob, PutFolders}
use Rattle.ap_db.specs.Tables.{PlainSource, PlainCreate, PlainJob}
use Rattle.ap_db.specs.Commit.{PlainItem, puts_folders, puts_source, removes_source, puts_create, removes_create, puts_job, removes_job}
use Rattle.ap_db.specs.Listed.{AreAll, total}
use Rattle.ap_db.specs.Putting.{puts_source_row, puts_create_row, puts_job_row, source_put, create_put, job_put}
use Rattle.ap_db.specs.Said.{ItemIs}
use Rattle.ap_db.specs.States.{SourceIs, CreateIs, JobIs}
use Rattle.ap_db.proofs.Alike.{alike_follows}
use Rattle.ap_db.proofs.Renaming.{source_follows, create_follows, job_follows}

-- what is true of each kind of item is true of all
pub record EachKind (N : Number → Thing → Type 0) (P : Item → PlainItem → Type 0) : Type 0 where
  pub put_source : (row : SourceRow) (p : PlainSource) → SourceIs N row p → P (PutSource row) (puts_source p)
  pub remove_source : (path q : List ℕ) → path ≡ q → P (RemoveSource path) (removes_source q)
  pub put_create : (row : CreateRow) (p : PlainCreate) → CreateIs N row p → P (PutCreate row) (puts_create p)
  pub remove_create : (path q : List ℕ) → path ≡ q → P (RemoveCreate path) (removes_create q)
  pub put_job : (row : JobRow) (p : PlainJob) → JobIs N row p → P (PutJob row) (puts_job p)
  pub remove_job : (id q : JobId) → id ≡ q → P (RemoveJob id) (removes_job q)
  pub put_folders : (rows q : List FolderRow) → rows ≡ q → P (PutFolders rows) (puts_folders q)

module _ (N : Number → Thing → Type 0) (P : Item → PlainItem → Type 0) (each : EachKind N P) where
  pub by_kind : (item : Item) (plain : PlainItem) → ItemIs N item plain → P item plain
  by_kind (PutSource row) (puts_source p) is = each.put_source row p is
  by_kind (RemoveSource path) (removes_source q) is = each.remove_source path q is
  by_kind (PutCreate row) (puts_create p) is = each.put_create row p is
  by_kind (RemoveCreate path) (removes_create q) is = each.remove_create path q is
  by_kind (PutJob row) (puts_job p) is = each.put_job row p is
  by_kind (RemoveJob id) (removes_job q) is = each.remove_job id q is
  by_kind (PutFolders rows) (puts_folders q) is = each.put_folders rows q is
  by_kind item plain is = absurd is

module _ (N M : Number → Thing → Type 0) (follows : (n : Number) (x : Thing) → N n x → M n x) where
  pub item_follows : (item : Item) (plain : PlainItem) → ItemIs N item plain → ItemIs M item plain
  item_follows = by_kind N (ItemIs M) (record {
    put_source = source_follows N M follows;
    remove_source = λ path q e. e;
    put_create = create_follows N M follows;
    remove_create = λ path q e. e;
    put_job = job_follows N M follows;
    remove_job = λ id q e. e;
    put_folders = λ rows q e. e;
  })

  pub items_follow : (items : List Item) (plain : List PlainItem) → AreAll (ItemIs N) items plain → AreAll (ItemIs M) items plain
  items_follow = alike_follows (ItemIs N) (ItemIs M) item_follows

-- ---- how many rows items put

module _ (N : Number → Thing → Type 0) where
  totals_alike : (f : Item → ℕ) (g : PlainItem → ℕ) → ((item : Item) (plain : PlainItem) → ItemIs N item plain → f item ≡ g plain) → (items : List Item) (plain : List PlainItem) → AreAll (ItemIs N) items plain → total f items ≡ total g plain
  totals_alike f g same [] [] are = refl
  totals_alike f g same [] (p ∷ ps) are = absurd are
  totals_alike f g same (x ∷ xs) [] are = absurd are
  totals_alike f g same (x ∷ xs) (p ∷ ps) are = λ i. same x p are.0 i + totals_alike f g same xs ps are.1 i

  all_same : (f : Item → ℕ) (g : PlainItem → ℕ) → EachKind N (λ item plain. f item ≡ g plain) → (items : List Item) (plain : List PlainItem) → AreAll (ItemIs N) items plain → total f items ≡ total g plain
  all_same f g each = totals_alike f g (by_kind N (λ item plain. f item ≡ g plain) each)

  pub sources_counted : (items : List Item) (plain : List PlainItem) → AreAll (ItemIs N) items plain → total puts_source_row items ≡ total source_put plain
  sources_counted = all_same puts_source_row source_put (record { put_source = λ row p is. refl; remove_source = λ path q e. refl; put_create = λ row p is. refl; remove_create = λ path q e. refl; put_job = λ row p is. refl; remove_job = λ id q e. refl; put_folders = λ rows q e. refl })

  pub creates_counted : (items : List Item) (plain : List PlainItem) → AreAll (ItemIs N) items plain → total puts_create_row items ≡ total create_put plain
  creates_counted = all_same puts_create_row create_put (record { put_source = λ row p is. refl; remove_source = λ path q e. refl; put_create = λ row p is. refl; remove_create = λ path q e. refl; put_job = λ row p is. refl; remove_job = λ id q e. refl; put_folders = λ rows q e. refl })

  pub jobs_counted : (items : List Item) (plain : List PlainItem) → AreAll (ItemIs N) items plain → total puts_job_row items ≡ total job_put plain
  jobs_counted = all_same puts_job_row job_put (record { put_source = λ row p is. refl; remove_source = λ path q e. refl; put_create = λ row p is. refl; remove_create = λ path q e. refl; put_job = λ row p is. refl; remove_job = λ id q e. refl; put_folders = λ rows q e. refl })
