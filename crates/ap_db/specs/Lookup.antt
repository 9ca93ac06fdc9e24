-- Whether a row is there after items of a change.
use Rattle.std.proofs.Common.{◌≡◌, ◌&&◌, ◌||◌, ℕ, Bool, true, false, not, cond, List, [], ◌∷◌, Option, Some, None, is_some, refl, sym, ◌∙◌, ap, fold, filter, find, bytes_eq}
use Rattle.std.specs.Cmp.{IsTotalOrder}
use Rattle.std.specs.Cmp.Lexicographic.{nat_list_cmp_total}
use Rattle.std.proofs.lemmas.Map.Text.{is_eq-slice_cmp}
use Rattle.std.specs.declared.cmp.Ordering.{Ordering}
use Rattle.std.specs.declared.cmp.Ordering.TheVariants.{Less, Equal, Greater}
use Rattle.std.specs.Ordering.{on, is_eq, ordering_reverse, match_ordering}
use Rattle.ap_text.specs.Order.{bytes_cmp, put_in_order}
use Rattle.ap_text.specs.JobOrder.{job_cmp, job_total, same_job}
use Rattle.ap_text.specs.declared.job_id.JobId.{JobId}
use Rattle.ap_content.specs.Things.{Thing}
use Rattle.ap_content.specs.declared.node.Number.{Number}
use Rattle.ap_rows.specs.declared.change.Item.{Item}
use Rattle.ap_rows.specs.declared.change.Item.TheVariants.{PutSource, RemoveSource, PutCreate, RemoveCreate, PutJob, RemoveJob, PutFolders}
use Rattle.ap_db.specs.Tables.{PlainSource, PlainCreate, PlainJob, PlainTables}
use Rattle.ap_db.specs.Changes.{source_row_at, create_row_at, job_row_at}
use Rattle.ap_db.specs.Commit.{PlainItem, puts_folders, puts_source, removes_source, puts_create, removes_create, puts_job, removes_job}
use Rattle.ap_db.specs.Lawful.{after_plain}
use Rattle.ap_db.specs.Listed.{AreAll}
use Rattle.ap_db.specs.Said.{ItemIs}

-- whether the row of a key is there after an item, by whether it was
abbrev pub source_left : Item → List ℕ → Bool → Bool
source_left (PutSource row) path there = there || bytes_eq row.path path
source_left (RemoveSource other) path there = there && not (bytes_eq other path)
source_left item path there = there

abbrev pub create_left : Item → List ℕ → Bool → Bool
create_left (PutCreate row) path there = there || bytes_eq row.source path
create_left (RemoveCreate other) path there = there && not (bytes_eq other path)
create_left item path there = there

abbrev pub job_left : Item → JobId → Bool → Bool
job_left (PutJob row) id there = there || same_job row.id id
job_left (RemoveJob other) id there = there && not (same_job other id)
job_left item id there = there

-- and after several
abbrev pub left_after : {K : Type 0} → (Item → K → Bool → Bool) → List Item → K → Bool → Bool
left_after left [] key there = there
left_after left (item ∷ items) key there = left_after left items key (left item key there)

is_equal : (o : Ordering) → is_eq o ≡ true → o ≡ Equal
is_equal Less e = absurd (cc e)
is_equal Equal e = refl
is_equal Greater e = absurd (cc e)

module _ {X K : Type 0} (cmp : K → K → Ordering) (total : IsTotalOrder cmp) (key : X → K) (k : K) (test : X → Bool) (tests : (x : X) → test x ≡ is_eq (cmp (key x) k)) where
  put_found : (x : X) (ys : List X) → is_some (find test (put_in_order (on key cmp) x ys)) ≡ (is_some (find test ys) || test x)
  put_found x [] = case_of (test x)
    where
      case_of : (b : Bool) → is_some (cond b (Some x) None) ≡ (false || b)
      case_of true = refl
      case_of false = refl
  put_found x (y ∷ ys) = step (cmp (key x) (key y)) refl (put_found x ys)
    where
      front : (a b : Bool) (o : Option X) → is_some (cond a (Some x) o) ≡ (is_some o || a)
      front true b None = refl
      front true b (Some z) = refl
      front false b None = refl
      front false b (Some z) = refl

      same : (a b : Bool) → a ≡ b → (o : Option X) → is_some (cond a (Some x) o) ≡ (is_some (cond b (Some y) o) || a)
      same true true e o = refl
      same true false e o = absurd (cc e)
      same false true e o = absurd (cc e)
      same false false e None = refl
      same false false e (Some z) = refl

      later : (b : Bool) (o p : Option X) → is_some o ≡ (is_some p || test x) → is_some (cond b (Some y) o) ≡ (is_some (cond b (Some y) p) || test x)
      later true o p e = refl
      later false o p e = e

      step : (o : Ordering) → cmp (key x) (key y) ≡ o → is_some (find test (put_in_order (on key cmp) x ys)) ≡ (is_some (find test ys) || test x)
          → is_some (find test (match_ordering o (x ∷ y ∷ ys) (x ∷ ys) (y ∷ put_in_order (on key cmp) x ys))) ≡ (is_some (find test (y ∷ ys)) || test x)
      step Less e rest = front (test x) true (find test (y ∷ ys))
      step Equal e rest = same (test x) (test y) (tests x ∙ ap is_eq (total.congr (key x) (key y) k e) ∙ sym (tests y)) (find test ys)
      step Greater e rest = later (test y) (find test (put_in_order (on key cmp) x ys)) (find test ys) rest

  module _ (other : K) (gone : X → Bool) (goes : (x : X) → gone x ≡ is_eq (cmp (key x) other)) where
    is_same : (x : X) → gone x ≡ true → test x ≡ is_eq (cmp other k)
    is_same x e = tests x ∙ ap is_eq (total.congr (key x) other k (is_equal (cmp (key x) other) (sym (goes x) ∙ e)))

    same_goes : is_eq (cmp other k) ≡ true → (x : X) → test x ≡ true → gone x ≡ true
    same_goes c x e =
        let here : cmp (key x) k ≡ Equal = is_equal (cmp (key x) k) (sym (tests x) ∙ e) in
        let there : cmp other (key x) ≡ Equal = total.congr other k (key x) (is_equal (cmp other k) c) ∙ total.antisymm k (key x) ∙ ap ordering_reverse here in
        goes x ∙ ap is_eq (total.antisymm (key x) other ∙ ap ordering_reverse there)

    removed_found : (c : Bool) → is_eq (cmp other k) ≡ c → (ys : List X) → is_some (find test (filter (λ y. not (gone y)) ys)) ≡ (is_some (find test ys) && not c)
    removed_found c is [] = refl
    removed_found c is (y ∷ ys) = step (gone y) (test y) c refl refl is (removed_found c is ys)
      where
        both_false : (a b : Bool) → (a && false) ≡ (b && false)
        both_false true true = refl
        both_false true false = refl
        both_false false true = refl
        both_false false false = refl

        step : (g t d : Bool) → gone y ≡ g → test y ≡ t → is_eq (cmp other k) ≡ d → is_some (find test (filter (λ y. not (gone y)) ys)) ≡ (is_some (find test ys) && not d)
            → is_some (find test (cond (not g) (y ∷ filter (λ y. not (gone y)) ys) (filter (λ y. not (gone y)) ys))) ≡ (is_some (cond t (Some y) (find test ys)) && not d)
        step true true true eg et ed rest = rest ∙ both_false (is_some (find test ys)) true
        step true true false eg et ed rest = let clash = sym et ∙ is_same y eg ∙ ed in absurd (cc clash)
        step true false true eg et ed rest = rest
        step true false false eg et ed rest = rest
        step false true true eg et ed rest = let clash = sym eg ∙ same_goes ed y et in absurd (cc clash)
        step false true false eg et ed rest = ap (λ b. is_some (cond b (Some y) (find test (filter (λ y. not (gone y)) ys)))) et
        step false false d eg et ed rest = ap (λ b. is_some (cond b (Some y) (find test (filter (λ y. not (gone y)) ys)))) et ∙ rest

eq_bytes : (a b : List ℕ) → bytes_eq a b ≡ is_eq (bytes_cmp a b)
eq_bytes a b = sym (is_eq-slice_cmp a b)

module _ (N : Number → Thing → Type 0) where
  pub source_after_item : (tables : PlainTables) (item : Item) (plain : PlainItem) (path : List ℕ) → ItemIs N item plain
      → is_some (source_row_at (after_plain tables plain) path) ≡ source_left item path (is_some (source_row_at tables path))
  source_after_item tables (PutSource row) (puts_source plain) path is =
      put_found bytes_cmp nat_list_cmp_total (λ (r : PlainSource). r.path) path (λ r. bytes_eq r.path path) (λ r. eq_bytes r.path path) plain tables.sources
      ∙ ap (λ p. is_some (source_row_at tables path) || bytes_eq p path) (sym is.path)
  source_after_item tables (RemoveSource other) (removes_source plain) path is =
      removed_found bytes_cmp nat_list_cmp_total (λ (r : PlainSource). r.path) path (λ r. bytes_eq r.path path) (λ r. eq_bytes r.path path) plain (λ r. bytes_eq r.path plain) (λ r. eq_bytes r.path plain) (bytes_eq plain path) (sym (eq_bytes plain path)) tables.sources
      ∙ ap (λ p. is_some (source_row_at tables path) && not (bytes_eq p path)) (sym is)
  source_after_item tables (PutCreate row) (puts_create plain) path is = refl
  source_after_item tables (RemoveCreate other) (removes_create plain) path is = refl
  source_after_item tables (PutJob row) (puts_job plain) path is = refl
  source_after_item tables (RemoveJob other) (removes_job plain) path is = refl
  source_after_item tables (PutFolders rows) (puts_folders plain) path is = refl
  source_after_item tables item plain path is = absurd is

  pub create_after_item : (tables : PlainTables) (item : Item) (plain : PlainItem) (path : List ℕ) → ItemIs N item plain
      → is_some (create_row_at (after_plain tables plain) path) ≡ create_left item path (is_some (create_row_at tables path))
  create_after_item tables (PutCreate row) (puts_create plain) path is =
      put_found bytes_cmp nat_list_cmp_total (λ (r : PlainCreate). r.source) path (λ r. bytes_eq r.source path) (λ r. eq_bytes r.source path) plain tables.creates
      ∙ ap (λ p. is_some (create_row_at tables path) || bytes_eq p path) (sym is.source)
  create_after_item tables (RemoveCreate other) (removes_create plain) path is =
      removed_found bytes_cmp nat_list_cmp_total (λ (r : PlainCreate). r.source) path (λ r. bytes_eq r.source path) (λ r. eq_bytes r.source path) plain (λ r. bytes_eq r.source plain) (λ r. eq_bytes r.source plain) (bytes_eq plain path) (sym (eq_bytes plain path)) tables.creates
      ∙ ap (λ p. is_some (create_row_at tables path) && not (bytes_eq p path)) (sym is)
  create_after_item tables (PutSource row) (puts_source plain) path is = refl
  create_after_item tables (RemoveSource other) (removes_source plain) path is = refl
  create_after_item tables (PutJob row) (puts_job plain) path is = refl
  create_after_item tables (RemoveJob other) (removes_job plain) path is = refl
  create_after_item tables (PutFolders rows) (puts_folders plain) path is = refl
  create_after_item tables item plain path is = absurd is

  pub job_after_item : (tables : PlainTables) (item : Item) (plain : PlainItem) (id : JobId) → ItemIs N item plain
      → is_some (job_row_at (after_plain tables plain) id) ≡ job_left item id (is_some (job_row_at tables id))
  job_after_item tables (PutJob row) (puts_job plain) id is =
      put_found job_cmp job_total (λ (r : PlainJob). r.id) id (λ r. same_job r.id id) (λ r. refl) plain tables.jobs
      ∙ ap (λ p. is_some (job_row_at tables id) || same_job p id) (sym is.id)
  job_after_item tables (RemoveJob other) (removes_job plain) id is =
      removed_found job_cmp job_total (λ (r : PlainJob). r.id) id (λ r. same_job r.id id) (λ r. refl) plain (λ r. same_job r.id plain) (λ r. refl) (same_job plain id) refl tables.jobs
      ∙ ap (λ p. is_some (job_row_at tables id) && not (same_job p id)) (sym is)
  job_after_item tables (PutSource row) (puts_source plain) id is = refl
  job_after_item tables (RemoveSource other) (removes_source plain) id is = refl
  job_after_item tables (PutCreate row) (puts_create plain) id is = refl
  job_after_item tables (RemoveCreate other) (removes_create plain) id is = refl
  job_after_item tables (PutFolders rows) (puts_folders plain) id is = refl
  job_after_item tables item plain id is = absurd is

  -- and so after several
  pub left_after_all : {K : Type 0} (left : Item → K → Bool → Bool) (is_there : PlainTables → K → Bool)
      → ((tables : PlainTables) (item : Item) (plain : PlainItem) (key : K) → ItemIs N item plain → is_there (after_plain tables plain) key ≡ left item key (is_there tables key))
      → (items : List Item) (plains : List PlainItem) (tables : PlainTables) (key : K) → AreAll (ItemIs N) items plains → is_there (fold after_plain tables plains) key ≡ left_after left items key (is_there tables key)
  left_after_all left is_there each [] [] tables key are = refl
  left_after_all left is_there each [] (plain ∷ plains) tables key are = absurd are
  left_after_all left is_there each (item ∷ items) [] tables key are = absurd are
  left_after_all left is_there each (item ∷ items) (plain ∷ plains) tables key are =
      left_after_all left is_there each items plains (after_plain tables plain) key are.1
      ∙ ap (left_after left items key) (each tables item plain key are.0)
