-- The keys of rows are folded paths, in all that a file stands for and after each commit; so the record of a commit reads
-- back.
use Rattle.std.proofs.Common.{◌≡◌, ◌&&◌, ℕ, true, false, not, List, [], ◌∷◌, ◌++◌, map, Option, Some, None, is_some, Ok, refl, sym, ◌∙◌, subst, ⊎_elim, filter, fold, bytes_eq}
use Rattle.std.specs.List.{list_all, flat_map}
use Rattle.std.proofs.lemmas.List.Folds.{list_all-append}
use Rattle.std.proofs.lemmas.Slice.Eq.{bytes_eq-Decides}
use Rattle.std.proofs.lemmas.Map.Text.{is_eq-slice_cmp}
use Rattle.std.specs.declared.cmp.Ordering.{Ordering}
use Rattle.std.specs.declared.cmp.Ordering.TheVariants.{Less, Equal, Greater}
use Rattle.std.specs.Ordering.{is_eq, ordering_then}
use Rattle.ap_text.specs.Order.{bytes_cmp}
use Rattle.ap_text.specs.JobOrder.{same_job}
use Rattle.ap_text.specs.declared.job_id.JobId.{JobId}
use Rattle.ap_content.specs.Things.{Thing, thing, kids_of}
use Rattle.ap_rows.specs.declared.row.FolderRow.{FolderRow}
use Rattle.ap_rows.specs.declared.change.Item.{Item}
use Rattle.ap_rows.specs.declared.change.Item.TheVariants.{Define, Drop, PutSource, RemoveSource, PutCreate, RemoveCreate, PutJob, RemoveJob, PutFolders}
use Rattle.ap_rows.specs.Readers.{is_folded}
use Rattle.ap_rows.specs.Folded.{is_folded_job, is_folded_created, is_folded_result, is_folded_item, are_folded}
use Rattle.ap_rows.specs.Forms.{has_form}
use Rattle.ap_rows.specs.Grammar.{decoded}
use Rattle.ap_journal.specs.Records.{standing, has_bad_header}
use Rattle.ap_db.specs.Same.{is_among}
use Rattle.ap_db.specs.Tables.{PlainSource, PlainCreate, PlainResult, processed, on_cycle, lacks, after_failure, PlainJob, PlainTables}
use Rattle.ap_db.specs.Changes.{source_cmp, create_cmp, job_row_cmp, source_row_at, create_row_at, job_row_at, with_folders, with_source, without_source, with_create, without_create, with_job, without_job}
use Rattle.ap_db.specs.Stored.{Live, Stored, values, things_at, thing_at, row_things, is_named, and_thing, and_no_thing, with_thing, without_thing, with_tables, seen_at, result_at, source_at, tagged_at, create_at, job_at, orders_rise, after_item, stored_in}
use Rattle.ap_db.specs.Commit.{PlainItem, puts_folders, puts_source, removes_source, puts_create, removes_create, puts_job, removes_job, with_below, define_item, result_item, numbered, new_live, puts_of, drops, commit_items, after_lawful, after_commit}
use Rattle.ap_db.specs.Lawful.{is_good_thing, is_good_content, is_good_result, is_lawful_item, after_plain, are_lawful, is_lawful}
use Rattle.ap_db.specs.Members.{Has, from_filter, found_in}
use Rattle.ap_db.specs.SameThings.{both_true, both_parts}
use Rattle.ap_db.specs.Options.{from_map_some, from_then_some, where_some, where_none}
use Rattle.ap_db.specs.Rising.{from_put}
use Rattle.ap_db.specs.WellStored.{IsWellStored}
use Rattle.ap_db.specs.FoldedItems.{item_is_folded}
use Rattle.ap_db.specs.PayloadLaws.{file_holds, payload_spelled, file_with_one_more, file_is_well_stored}
use Rattle.ap_db.specs.CommitLaw.{commit_law}

-- the paths of rows' keys are folded
pub record HaveFoldedKeys (tables : PlainTables) : Type 0 where
  pub sources : (row : PlainSource) → Has tables.sources row → is_folded row.path ≡ true
  pub creates : (row : PlainCreate) → Has tables.creates row → is_folded row.source ≡ true
  pub jobs : (row : PlainJob) → Has tables.jobs row → is_folded_job row.id ≡ true

module _ (tables : PlainTables) (keys : HaveFoldedKeys tables) where
  keys_put_source : (row : PlainSource) → is_folded row.path ≡ true → HaveFoldedKeys (with_source tables row)
  keys_put_source row is = record {
    sources = λ r h. ⊎_elim (λ e. subst (λ (q : PlainSource). is_folded q.path ≡ true) e is) (λ was. keys.sources r was) (from_put source_cmp row tables.sources r h);
    creates = keys.creates;
    jobs = keys.jobs;
  }

  keys_put_create : (row : PlainCreate) → is_folded row.source ≡ true → HaveFoldedKeys (with_create tables row)
  keys_put_create row is = record {
    sources = keys.sources;
    creates = λ r h. ⊎_elim (λ e. subst (λ (q : PlainCreate). is_folded q.source ≡ true) e is) (λ was. keys.creates r was) (from_put create_cmp row tables.creates r h);
    jobs = keys.jobs;
  }

  keys_put_job : (row : PlainJob) → is_folded_job row.id ≡ true → HaveFoldedKeys (with_job tables row)
  keys_put_job row is = record {
    sources = keys.sources;
    creates = keys.creates;
    jobs = λ r h. ⊎_elim (λ e. subst (λ (q : PlainJob). is_folded_job q.id ≡ true) e is) (λ was. keys.jobs r was) (from_put job_row_cmp row tables.jobs r h);
  }

  keys_remove_source : (path : List ℕ) → HaveFoldedKeys (without_source tables path)
  keys_remove_source path = record {
    sources = λ r h. keys.sources r (from_filter (λ (row : PlainSource). not (bytes_eq row.path path)) tables.sources r h).0;
    creates = keys.creates;
    jobs = keys.jobs;
  }

  keys_remove_create : (path : List ℕ) → HaveFoldedKeys (without_create tables path)
  keys_remove_create path = record {
    sources = keys.sources;
    creates = λ r h. keys.creates r (from_filter (λ (row : PlainCreate). not (bytes_eq row.source path)) tables.creates r h).0;
    jobs = keys.jobs;
  }

  keys_remove_job : (id : JobId) → HaveFoldedKeys (without_job tables id)
  keys_remove_job id = record {
    sources = keys.sources;
    creates = keys.creates;
    jobs = λ r h. keys.jobs r (from_filter (λ (row : PlainJob). not (same_job row.id id)) tables.jobs r h).0;
  }

  keys_put_folders : (rows : List FolderRow) → HaveFoldedKeys (with_folders tables rows)
  keys_put_folders rows = record { sources = keys.sources; creates = keys.creates; jobs = keys.jobs }

-- ---- in all that a file stands for

abbrev pub StoredKeys : Stored → Type 0
StoredKeys stored = HaveFoldedKeys stored.tables

keys_item : (stored next : Stored) (x : Item) → is_folded_item x ≡ true → StoredKeys stored → after_item stored x ≡ Some next → StoredKeys next
unfolding after_item
keys_item stored next (Define tag text kids) folded keys e =
    let found = from_then_some (λ things. with_thing stored (thing tag text (kids_of things))) (things_at stored kids) next e in
    let x = thing tag text (kids_of found.0) in
    let is = where_some (has_form x && not (is_among (values stored) x)) (Some (and_thing stored x)) next found.2 in
    let same : and_thing stored x ≡ next = cc is.1 in
    subst StoredKeys same (record { sources = keys.sources; creates = keys.creates; jobs = keys.jobs })
keys_item stored next (Drop n) folded keys e =
    let found = from_then_some (without_thing stored n.0) (thing_at stored n) next e in
    let is = where_none (is_named stored found.0) (Some (and_no_thing stored n.0)) next found.2 in
    let same : and_no_thing stored n.0 ≡ next = cc is.1 in
    subst StoredKeys same (record { sources = keys.sources; creates = keys.creates; jobs = keys.jobs })
keys_item stored next (PutSource row) folded keys e =
    let found = from_map_some (λ row. with_tables stored (with_source stored.tables row)) (source_at stored row) next e in
    let plain = from_map_some (λ (content : Option Thing). record { path = row.path; order = row.order; name = row.name; content = content }) (seen_at stored row.seen) found.0 found.1 in
    subst StoredKeys found.2 (keys_put_source stored.tables keys found.0 (subst (λ (p : PlainSource). is_folded p.path ≡ true) plain.2 folded))
keys_item stored next (RemoveSource path) folded keys e =
    let found = from_map_some (λ (row : PlainSource). with_tables stored (without_source stored.tables path)) (source_row_at stored.tables path) next e in
    subst StoredKeys found.2 (keys_remove_source stored.tables keys path)
keys_item stored next (PutCreate row) folded keys e =
    let found = from_map_some (λ row. with_tables stored (with_create stored.tables row)) (create_at stored row) next e in
    let plain = from_map_some (λ (input : Thing). record { source = row.source; input = input; created = row.created }) (tagged_at 1 stored row.input) found.0 found.1 in
    subst StoredKeys found.2 (keys_put_create stored.tables keys found.0 (subst (λ (p : PlainCreate). is_folded p.source ≡ true) plain.2 (both_parts (is_folded row.source) (is_folded_created row.created) folded).0))
keys_item stored next (RemoveCreate path) folded keys e =
    let found = from_map_some (λ (row : PlainCreate). with_tables stored (without_create stored.tables path)) (create_row_at stored.tables path) next e in
    subst StoredKeys found.2 (keys_remove_create stored.tables keys path)
keys_item stored next (PutJob row) folded keys e =
    let found = from_map_some (λ row. with_tables stored (with_job stored.tables row)) (job_at stored row) next e in
    let plain = from_map_some (λ (result : PlainResult). record { id = row.id; result = result }) (result_at stored row.result) found.0 found.1 in
    subst StoredKeys found.2 (keys_put_job stored.tables keys found.0 (subst (λ (p : PlainJob). is_folded_job p.id ≡ true) plain.2 (both_parts (is_folded_job row.id) (is_folded_result row.result) folded).0))
keys_item stored next (RemoveJob id) folded keys e =
    let found = from_map_some (λ (row : PlainJob). with_tables stored (without_job stored.tables id)) (job_row_at stored.tables id) next e in
    subst StoredKeys found.2 (keys_remove_job stored.tables keys id)
keys_item stored next (PutFolders rows) folded keys e =
    let is = where_some (orders_rise rows) (Some (with_tables stored (with_folders stored.tables rows))) next e in
    let same : with_tables stored (with_folders stored.tables rows) ≡ next = cc is.1 in
    subst StoredKeys same (keys_put_folders stored.tables keys rows)

-- what a file stands for has folded keys
pub file_has_folded_keys : (file : List ℕ) (stored : Stored) → stored_in file ≡ Ok stored → HaveFoldedKeys stored.tables
file_has_folded_keys file stored e =
    file_holds StoredKeys (λ bytes rest s next x is keys lawful. keys_item s next x (item_is_folded bytes rest x is) keys lawful) file stored
    (record { sources = λ row h. absurd h; creates = λ row h. absurd h; jobs = λ row h. absurd h }) e

-- ---- in a commit

some_is : {X : Type 0} (o : Option X) → is_some o ≡ true → (x : X) × (o ≡ Some x)
some_is None e = absurd (cc e)
some_is (Some x) e = (x, refl)

first_equal : (o r : Ordering) → is_eq (ordering_then o r) ≡ true → is_eq o ≡ true
first_equal Less r e = absurd (cc e)
first_equal Equal r e = refl
first_equal Greater r e = absurd (cc e)

same_source : (a b : JobId) → same_job a b ≡ true → a.source ≡ b.source
same_source a b e =
    (bytes_eq-Decides a.source b.source).0
    (sym (is_eq-slice_cmp a.source b.source) ∙ first_equal (bytes_cmp a.source b.source) (ordering_then (bytes_cmp a.key b.key) (bytes_cmp a.platform b.platform)) e)

same_job_folded : (a b : JobId) → same_job a b ≡ true → is_folded_job a ≡ true → is_folded_job b ≡ true
same_job_folded a b e is = subst (λ (p : List ℕ). is_folded p ≡ true) (same_source a b e) is

module _ (stored : Stored) where
  keys_plain : (tables : PlainTables) (x : PlainItem) → is_lawful_item stored tables x ≡ true → HaveFoldedKeys tables → HaveFoldedKeys (after_plain tables x)
  unfolding is_lawful_item
  keys_plain tables (puts_folders rows) lawful keys = keys_put_folders tables keys rows
  keys_plain tables (puts_source row) lawful keys = keys_put_source tables keys row (both_parts (is_folded row.path) (is_good_content stored row.content) lawful).0
  keys_plain tables (removes_source path) lawful keys = keys_remove_source tables keys path
  keys_plain tables (puts_create row) lawful keys =
      keys_put_create tables keys row (both_parts (is_folded row.source) (is_good_thing stored 1 row.input) (both_parts (is_folded row.source && is_good_thing stored 1 row.input) (is_folded_created row.created) lawful).0).0
  keys_plain tables (removes_create path) lawful keys = keys_remove_create tables keys path
  keys_plain tables (puts_job row) lawful keys = keys_put_job tables keys row (both_parts (is_folded_job row.id) (is_good_result stored row.result) lawful).0
  keys_plain tables (removes_job id) lawful keys = keys_remove_job tables keys id

  result_folded : (numbers : List Live) (result : PlainResult) → is_good_result stored result ≡ true → is_folded_result (result_item numbers result) ≡ true
  result_folded numbers (processed input outcome) good = refl
  result_folded numbers on_cycle good = refl
  result_folded numbers (lacks d) good = good
  result_folded numbers (after_failure d) good = good

  plain_folded : (numbers : List Live) (tables : PlainTables) (x : PlainItem) → is_lawful_item stored tables x ≡ true → HaveFoldedKeys tables → is_folded_item (numbered numbers x) ≡ true
  unfolding is_lawful_item
  plain_folded numbers tables (puts_folders rows) lawful keys = refl
  plain_folded numbers tables (puts_source row) lawful keys = (both_parts (is_folded row.path) (is_good_content stored row.content) lawful).0
  plain_folded numbers tables (removes_source path) lawful keys =
      let row = some_is (source_row_at tables path) lawful in
      let there = found_in (λ (r : PlainSource). bytes_eq r.path path) tables.sources row.0 row.1 in
      subst (λ (p : List ℕ). is_folded p ≡ true) ((bytes_eq-Decides row.0.path path).0 there.1) (keys.sources row.0 there.0)
  plain_folded numbers tables (puts_create row) lawful keys =
      let parts = both_parts (is_folded row.source && is_good_thing stored 1 row.input) (is_folded_created row.created) lawful in
      both_true (is_folded row.source) (is_folded_created row.created) (both_parts (is_folded row.source) (is_good_thing stored 1 row.input) parts.0).0 parts.1
  plain_folded numbers tables (removes_create path) lawful keys =
      let row = some_is (create_row_at tables path) lawful in
      let there = found_in (λ (r : PlainCreate). bytes_eq r.source path) tables.creates row.0 row.1 in
      subst (λ (p : List ℕ). is_folded p ≡ true) ((bytes_eq-Decides row.0.source path).0 there.1) (keys.creates row.0 there.0)
  plain_folded numbers tables (puts_job row) lawful keys =
      let parts = both_parts (is_folded_job row.id) (is_good_result stored row.result) lawful in
      both_true (is_folded_job row.id) (is_folded_result (result_item numbers row.result)) parts.0 (result_folded numbers row.result parts.1)
  plain_folded numbers tables (removes_job id) lawful keys =
      let row = some_is (job_row_at tables id) lawful in
      let there = found_in (λ (r : PlainJob). same_job r.id id) tables.jobs row.0 row.1 in
      same_job_folded row.0.id id there.1 (keys.jobs row.0 there.0)

  all_plain_folded : (numbers : List Live) (xs : List PlainItem) (tables : PlainTables) → are_lawful stored tables xs ≡ true → HaveFoldedKeys tables
      → (list_all is_folded_item (map (numbered numbers) xs) ≡ true) × HaveFoldedKeys (fold after_plain tables xs)
  all_plain_folded numbers [] tables lawful keys = (refl, keys)
  all_plain_folded numbers (x ∷ xs) tables lawful keys =
      let parts = both_parts (is_lawful_item stored tables x) (are_lawful stored (after_plain tables x) xs) lawful in
      let rest = all_plain_folded numbers xs (after_plain tables x) parts.1 (keys_plain tables x parts.0 keys) in
      (both_true (is_folded_item (numbered numbers x)) (list_all is_folded_item (map (numbered numbers) xs)) (plain_folded numbers tables x parts.0 keys) rest.0, rest.1)

defines_folded : (numbers lives : List Live) → list_all is_folded_item (map (λ live. define_item numbers live.value) lives) ≡ true
defines_folded numbers [] = refl
defines_folded numbers (live ∷ lives) = both_true (is_folded_item (define_item numbers live.value)) (list_all is_folded_item (map (λ live. define_item numbers live.value) lives)) (one live.value) (defines_folded numbers lives)
  where
    one : (x : Thing) → is_folded_item (define_item numbers x) ≡ true
    one (thing tag text kids) = refl

drops_folded : (lives : List Live) → list_all is_folded_item (map (λ live. Drop (record { 0 = live.number })) lives) ≡ true
drops_folded [] = refl
drops_folded (live ∷ lives) = drops_folded lives

all_drops_folded : (stored : Stored) → list_all is_folded_item (drops stored) ≡ true
unfolding drops
all_drops_folded stored = drops_folded (filter (λ live. not (is_among (flat_map with_below (row_things stored.tables)) live.value)) stored.live)

module _ (stored : Stored) (change : List PlainItem) (lawful : is_lawful stored change ≡ true) (keys : HaveFoldedKeys stored.tables) where
  -- so the record of a lawful change reads back
  pub commit_is_folded : are_folded (commit_items stored change) ≡ true
  unfolding is_lawful commit_items puts_of
  commit_is_folded =
      let numbers = stored.live ++ new_live stored change in
      let defines = map (λ (live : Live). define_item numbers live.value) (new_live stored change) in
      let puts = map (numbered numbers) change in
      let last = drops (after_lawful stored (puts_of stored change)) in
      list_all-append is_folded_item (defines ++ puts) last
      ∙ both_true (list_all is_folded_item (defines ++ puts)) (list_all is_folded_item last)
      (list_all-append is_folded_item defines puts ∙ both_true (list_all is_folded_item defines) (list_all is_folded_item puts) (defines_folded numbers (new_live stored change)) (all_plain_folded stored numbers change stored.tables lawful keys).0)
      (all_drops_folded (after_lawful stored (puts_of stored change)))

  pub commit_has_folded_keys : IsWellStored stored → HaveFoldedKeys (after_commit stored change).tables
  unfolding is_lawful
  commit_has_folded_keys well = subst HaveFoldedKeys (sym (commit_law stored change well lawful).tables) (all_plain_folded stored [] change stored.tables lawful keys).1

-- a file with the record of a lawful change behind its records stands for what is stored after the change
pub committed_file : (old new payload : List ℕ) (stored : Stored) (change : List PlainItem) → stored_in old ≡ Ok stored → is_lawful stored change ≡ true → decoded payload ≡ Ok (commit_items stored change)
    → has_bad_header new ≡ false → standing new ≡ standing old ++ payload ∷ [] → stored_in new ≡ Ok (after_commit stored change)
committed_file old new payload stored change e lawful reads good records =
    file_with_one_more old new payload stored (after_commit stored change) e good records
    (payload_spelled stored (after_commit stored change) payload (commit_items stored change) reads (commit_law stored change (file_is_well_stored old stored e) lawful).lawful)
