-- What the rows of tables name, as rows come and go.
use Rattle.std.proofs.Common.{ℕ, not, List, ◌++◌, map, sym, subst, ⊎_elim, bytes_eq}
use Rattle.std.specs.List.{flat_map}
use Rattle.std.specs.Cmp.Lexicographic.{nat_list_cmp_total}
use Rattle.ap_text.specs.Order.{bytes_cmp}
use Rattle.ap_text.specs.JobOrder.{job_cmp, job_total, same_job}
use Rattle.ap_text.specs.declared.job_id.JobId.{JobId}
use Rattle.ap_content.specs.Things.{Thing}
use Rattle.ap_rows.specs.declared.row.FolderRow.{FolderRow}
use Rattle.ap_db.specs.Tables.{PlainSource, PlainCreate, PlainJob, PlainTables}
use Rattle.ap_db.specs.Changes.{source_cmp, create_cmp, job_row_cmp, with_folders, with_source, without_source, with_create, without_create, with_job, without_job}
use Rattle.ap_db.specs.Stored.{content_named, result_named, row_things}
use Rattle.ap_db.specs.States.{TablesRise}
use Rattle.ap_db.specs.Members.{Has, in_front, in_back, in_either, in_map, from_map, in_flat_map, from_flat_map, from_filter}
use Rattle.ap_db.specs.Rising.{from_put, put_keeps, filter_keeps}

-- this is true of all things that rows name
pub record EachNamed (P : Thing → Type 0) (tables : PlainTables) : Type 0 where
  pub sources : (row : PlainSource) → Has tables.sources row → (x : Thing) → Has (content_named row) x → P x
  pub creates : (row : PlainCreate) → Has tables.creates row → P row.input
  pub jobs : (row : PlainJob) → Has tables.jobs row → (x : Thing) → Has (result_named row.result) x → P x

module _ (P : Thing → Type 0) where
  pub named_things_are : (tables : PlainTables) → EachNamed P tables → (x : Thing) → Has (row_things tables) x → P x
  named_things_are tables each x h = ⊎_elim
      (λ front. ⊎_elim
      (λ s. let r = from_flat_map content_named tables.sources x s in each.sources r.0 r.1 x r.2)
      (λ c. let r = from_map (λ (row : PlainCreate). row.input) tables.creates x c in subst P r.2 (each.creates r.0 r.1))
      (in_either (flat_map content_named tables.sources) (map (λ (row : PlainCreate). row.input) tables.creates) x front))
      (λ j. let r = from_flat_map (λ (row : PlainJob). result_named row.result) tables.jobs x j in each.jobs r.0 r.1 x r.2)
      (in_either (flat_map content_named tables.sources ++ map (λ (row : PlainCreate). row.input) tables.creates) (flat_map (λ (row : PlainJob). result_named row.result) tables.jobs) x h)

  pub each_named : (tables : PlainTables) → ((x : Thing) → Has (row_things tables) x → P x) → EachNamed P tables
  each_named tables are = record {
    sources = λ row h x m. are x (in_front (s ++ c) j x (in_front s c x (in_flat_map content_named tables.sources row x h m)));
    creates = λ row h. are row.input (in_front (s ++ c) j row.input (in_back s c row.input (in_map (λ (row : PlainCreate). row.input) tables.creates row h)));
    jobs = λ row h x m. are x (in_back (s ++ c) j x (in_flat_map (λ (row : PlainJob). result_named row.result) tables.jobs row x h m));
  }
    where
      s : List Thing
      s = flat_map content_named tables.sources

      c : List Thing
      c = map (λ (row : PlainCreate). row.input) tables.creates

      j : List Thing
      j = flat_map (λ (row : PlainJob). result_named row.result) tables.jobs

  -- ---- rows that come and go

  pub named_put_source : (tables : PlainTables) (row : PlainSource) → ((x : Thing) → Has (content_named row) x → P x) → EachNamed P tables → EachNamed P (with_source tables row)
  named_put_source tables row new each = record {
    sources = λ r h x m. ⊎_elim (λ e. new x (subst (λ (q : PlainSource). Has (content_named q) x) (sym e) m)) (λ was. each.sources r was x m) (from_put source_cmp row tables.sources r h);
    creates = each.creates;
    jobs = each.jobs;
  }

  pub named_put_create : (tables : PlainTables) (row : PlainCreate) → P row.input → EachNamed P tables → EachNamed P (with_create tables row)
  named_put_create tables row new each = record {
    sources = each.sources;
    creates = λ r h. ⊎_elim (λ e. subst (λ (q : PlainCreate). P q.input) e new) (λ was. each.creates r was) (from_put create_cmp row tables.creates r h);
    jobs = each.jobs;
  }

  pub named_put_job : (tables : PlainTables) (row : PlainJob) → ((x : Thing) → Has (result_named row.result) x → P x) → EachNamed P tables → EachNamed P (with_job tables row)
  named_put_job tables row new each = record {
    sources = each.sources;
    creates = each.creates;
    jobs = λ r h x m. ⊎_elim (λ e. new x (subst (λ (q : PlainJob). Has (result_named q.result) x) (sym e) m)) (λ was. each.jobs r was x m) (from_put job_row_cmp row tables.jobs r h);
  }

  pub named_remove_source : (tables : PlainTables) (path : List ℕ) → EachNamed P tables → EachNamed P (without_source tables path)
  named_remove_source tables path each = record {
    sources = λ r h x m. each.sources r (from_filter (λ (row : PlainSource). not (bytes_eq row.path path)) tables.sources r h).0 x m;
    creates = each.creates;
    jobs = each.jobs;
  }

  pub named_remove_create : (tables : PlainTables) (path : List ℕ) → EachNamed P tables → EachNamed P (without_create tables path)
  named_remove_create tables path each = record {
    sources = each.sources;
    creates = λ r h. each.creates r (from_filter (λ (row : PlainCreate). not (bytes_eq row.source path)) tables.creates r h).0;
    jobs = each.jobs;
  }

  pub named_remove_job : (tables : PlainTables) (id : JobId) → EachNamed P tables → EachNamed P (without_job tables id)
  named_remove_job tables id each = record {
    sources = each.sources;
    creates = each.creates;
    jobs = λ r h x m. each.jobs r (from_filter (λ (row : PlainJob). not (same_job row.id id)) tables.jobs r h).0 x m;
  }

  pub named_put_folders : (tables : PlainTables) (rows : List FolderRow) → EachNamed P tables → EachNamed P (with_folders tables rows)
  named_put_folders tables rows each = record { sources = each.sources; creates = each.creates; jobs = each.jobs }

-- what follows for each thing
pub each_named_follows : (P Q : Thing → Type 0) (tables : PlainTables) → ((x : Thing) → P x → Q x) → EachNamed P tables → EachNamed Q tables
each_named_follows P Q tables f each = record {
  sources = λ r h x m. f x (each.sources r h x m);
  creates = λ r h. f r.input (each.creates r h);
  jobs = λ r h x m. f x (each.jobs r h x m);
}

-- ---- rows rise

module _ (tables : PlainTables) (rise : TablesRise tables) where
  pub rise_put_source : (row : PlainSource) → TablesRise (with_source tables row)
  rise_put_source row = record { sources = put_keeps bytes_cmp nat_list_cmp_total (λ (r : PlainSource). r.path) row tables.sources rise.sources; creates = rise.creates; jobs = rise.jobs }

  pub rise_put_create : (row : PlainCreate) → TablesRise (with_create tables row)
  rise_put_create row = record { sources = rise.sources; creates = put_keeps bytes_cmp nat_list_cmp_total (λ (r : PlainCreate). r.source) row tables.creates rise.creates; jobs = rise.jobs }

  pub rise_put_job : (row : PlainJob) → TablesRise (with_job tables row)
  rise_put_job row = record { sources = rise.sources; creates = rise.creates; jobs = put_keeps job_cmp job_total (λ (r : PlainJob). r.id) row tables.jobs rise.jobs }

  pub rise_remove_source : (path : List ℕ) → TablesRise (without_source tables path)
  rise_remove_source path = record {
    sources = filter_keeps bytes_cmp nat_list_cmp_total (λ (r : PlainSource). r.path) (λ (row : PlainSource). not (bytes_eq row.path path)) tables.sources rise.sources;
    creates = rise.creates;
    jobs = rise.jobs;
  }

  pub rise_remove_create : (path : List ℕ) → TablesRise (without_create tables path)
  rise_remove_create path = record {
    sources = rise.sources;
    creates = filter_keeps bytes_cmp nat_list_cmp_total (λ (r : PlainCreate). r.source) (λ (row : PlainCreate). not (bytes_eq row.source path)) tables.creates rise.creates;
    jobs = rise.jobs;
  }

  pub rise_remove_job : (id : JobId) → TablesRise (without_job tables id)
  rise_remove_job id = record {
    sources = rise.sources;
    creates = rise.creates;
    jobs = filter_keeps job_cmp job_total (λ (r : PlainJob). r.id) (λ (row : PlainJob). not (same_job row.id id)) tables.jobs rise.jobs;
  }

  pub rise_put_folders : (rows : List FolderRow) → TablesRise (with_folders tables rows)
  rise_put_folders rows = record { sources = rise.sources; creates = rise.creates; jobs = rise.jobs }
