-- Rows that are put and removed, beside the plain rows that they stand for.
use Rattle.std.proofs.Common.{◌≡◌, ◌+◌, ◌-◌, ℕ, not, List, [], ◌∷◌, ◌++◌, length, map, Option, Some, None, refl, sym, ◌∙◌, ap, subst, arith}
use Rattle.std.specs.Prelude.{filter, find, bytes_eq, is_some}
use Rattle.std.specs.List.{flat_map}
use Rattle.std.specs.List.Sorted.{IsStrictlySortedBy}
use Rattle.std.specs.Cmp.Lexicographic.{nat_list_cmp_total}
use Rattle.std.specs.Ordering.{is_eq}
use Rattle.std.proofs.lemmas.Map.Text.{is_eq-slice_cmp}
use Rattle.ap_text.specs.Order.{bytes_cmp, put_in_order}
use Rattle.ap_text.specs.JobOrder.{job_cmp, job_total, same_job}
use Rattle.ap_text.specs.declared.job_id.JobId.{JobId}
use Rattle.ap_content.specs.Things.{Thing}
use Rattle.ap_content.specs.declared.node.Number.{Number}
use Rattle.ap_rows.specs.declared.row.FolderRow.{FolderRow}
use Rattle.ap_rows.specs.declared.row.SourceRow.{SourceRow}
use Rattle.ap_rows.specs.declared.row.CreateRow.{CreateRow}
use Rattle.ap_rows.specs.declared.row.JobRow.{JobRow}
use Rattle.ap_rows.specs.declared.row.Tables.{Tables}
use Rattle.ap_db.specs.Tables.{PlainSource, PlainCreate, PlainJob, PlainTables}
use Rattle.ap_db.specs.Changes.{with_folders, source_cmp, create_cmp, job_row_cmp, with_source, without_source, with_create, without_create, with_job, without_job, source_row_at, create_row_at, job_row_at}
use Rattle.ap_db.specs.declared.things.FileThing.{FileThing}
use Rattle.ap_db.specs.declared.state.State.{State}
use Rattle.ap_content.specs.Entries.{Entry, IsTidy}
use Rattle.ap_db.specs.Stored.{Stored, nothing_stored, row_things, content_named, result_named, with_tables}
use Rattle.ap_db.specs.Listed.{AreAll, AreBoth, total, part, replaced}
use Rattle.ap_db.specs.Rows.{by_path, by_source, by_id, SourcesRise, CreatesRise, JobsRise}
use Rattle.ap_db.specs.States.{SourceIs, CreateIs, JobIs, TablesAre, TablesRise, Names, StandsFor, file_thing}
use Rattle.ap_db.specs.Naming.{raised, lowered, times_of, named_by, source_numbers, create_numbers, job_numbers}
use Rattle.ap_db.proofs.Alike.{alike_keys, put_alike, replaced_alike, filter_alike, find_alike, total_append, total_flat, put_total, filter_total, put_rises, filter_rises}
use Rattle.ap_db.proofs.Renaming.{content_alike, result_alike, Recounts, renamed}

part_named : {X : Type 0} (f : Thing → ℕ) (g : X → List Thing) (o : Option X) → part (λ x. total f (g x)) o ≡ total f (named_by g o)
part_named f g None = refl
part_named f g (Some x) = refl

named_alike : {X Y : Type 0} (N : Number → Thing → Type 0) (Is : X → Y → Type 0) (f : X → List Number) (g : Y → List Thing) → ((x : X) (y : Y) → Is x y → AreAll N (f x) (g y))
    → (o : Option X) (p : Option Y) → AreBoth Is o p → AreAll N (named_by f o) (named_by g p)
named_alike N Is f g each None None h = tt
named_alike N Is f g each None (Some y) h = absurd h
named_alike N Is f g each (Some x) None h = absurd h
named_alike N Is f g each (Some x) (Some y) h = each x y h

pub both_there : {X Y : Type 0} (Is : X → Y → Type 0) (o : Option X) (p : Option Y) → AreBoth Is o p → is_some o ≡ is_some p
both_there Is None None h = refl
both_there Is None (Some y) h = absurd h
both_there Is (Some x) None h = absurd h
both_there Is (Some x) (Some y) h = refl

abbrev pub create_named : PlainCreate → List Thing
create_named row = row.input ∷ []

abbrev pub job_named : PlainJob → List Thing
job_named row = result_named row.result

module _ (N : Number → Thing → Type 0) where
  -- rows rise where the plain ones do
  pub sources_rise : (rows : List SourceRow) (plain : List PlainSource) → AreAll (SourceIs N) rows plain → IsStrictlySortedBy bytes_cmp (map (λ row. row.path) plain) → SourcesRise rows
  sources_rise rows plain are rise = subst (IsStrictlySortedBy bytes_cmp) (sym (alike_keys (SourceIs N) (λ row. row.path) (λ row. row.path) (λ x y is. is.path) rows plain are)) rise

  pub creates_rise : (rows : List CreateRow) (plain : List PlainCreate) → AreAll (CreateIs N) rows plain → IsStrictlySortedBy bytes_cmp (map (λ row. row.source) plain) → CreatesRise rows
  creates_rise rows plain are rise = subst (IsStrictlySortedBy bytes_cmp) (sym (alike_keys (CreateIs N) (λ row. row.source) (λ row. row.source) (λ x y is. is.source) rows plain are)) rise

  pub jobs_rise : (rows : List JobRow) (plain : List PlainJob) → AreAll (JobIs N) rows plain → IsStrictlySortedBy job_cmp (map (λ row. row.id) plain) → JobsRise rows
  jobs_rise rows plain are rise = subst (IsStrictlySortedBy job_cmp) (sym (alike_keys (JobIs N) (λ row. row.id) (λ row. row.id) (λ x y is. is.id) rows plain are)) rise

  two : {K : Type 0} (cmp : K → K → Rattle.std.specs.declared.cmp.Ordering.Ordering) (a b c d : K) → a ≡ b → c ≡ d → cmp a c ≡ cmp b d
  two cmp a b c d p q = λ i. cmp (p i) (q i)

  pub put_source_is : (row : SourceRow) (plain : PlainSource) → SourceIs N row plain → (rows : List SourceRow) (plains : List PlainSource) → AreAll (SourceIs N) rows plains
      → AreAll (SourceIs N) (put_in_order by_path row rows) (put_in_order source_cmp plain plains)
      × AreAll N (named_by source_numbers (replaced by_path row rows)) (named_by content_named (replaced source_cmp plain plains))
  put_source_is row plain is rows plains are = (
    put_alike (SourceIs N) by_path source_cmp (λ x x' y y' h h'. two bytes_cmp x.path y.path x'.path y'.path h.path h'.path) row plain is rows plains are,
    named_alike N (SourceIs N) source_numbers content_named (content_alike N) (replaced by_path row rows) (replaced source_cmp plain plains)
        (replaced_alike (SourceIs N) by_path source_cmp (λ x x' y y' h h'. two bytes_cmp x.path y.path x'.path y'.path h.path h'.path) row plain is rows plains are),
  )

  pub put_create_is : (row : CreateRow) (plain : PlainCreate) → CreateIs N row plain → (rows : List CreateRow) (plains : List PlainCreate) → AreAll (CreateIs N) rows plains
      → AreAll (CreateIs N) (put_in_order by_source row rows) (put_in_order create_cmp plain plains)
      × AreAll N (named_by create_numbers (replaced by_source row rows)) (named_by create_named (replaced create_cmp plain plains))
  put_create_is row plain is rows plains are = (
    put_alike (CreateIs N) by_source create_cmp (λ x x' y y' h h'. two bytes_cmp x.source y.source x'.source y'.source h.source h'.source) row plain is rows plains are,
    named_alike N (CreateIs N) create_numbers create_named (λ x y h. (h.input, tt)) (replaced by_source row rows) (replaced create_cmp plain plains)
        (replaced_alike (CreateIs N) by_source create_cmp (λ x x' y y' h h'. two bytes_cmp x.source y.source x'.source y'.source h.source h'.source) row plain is rows plains are),
  )

  pub put_job_is : (row : JobRow) (plain : PlainJob) → JobIs N row plain → (rows : List JobRow) (plains : List PlainJob) → AreAll (JobIs N) rows plains
      → AreAll (JobIs N) (put_in_order by_id row rows) (put_in_order job_row_cmp plain plains)
      × AreAll N (named_by job_numbers (replaced by_id row rows)) (named_by job_named (replaced job_row_cmp plain plains))
  put_job_is row plain is rows plains are = (
    put_alike (JobIs N) by_id job_row_cmp (λ x x' y y' h h'. two job_cmp x.id y.id x'.id y'.id h.id h'.id) row plain is rows plains are,
    named_alike N (JobIs N) job_numbers job_named (λ x y h. result_alike N x.result y.result h.result) (replaced by_id row rows) (replaced job_row_cmp plain plains)
        (replaced_alike (JobIs N) by_id job_row_cmp (λ x x' y y' h h'. two job_cmp x.id y.id x'.id y'.id h.id h'.id) row plain is rows plains are),
  )

  -- the row that is replaced stands for the plain one that is
  pub replaced_source_is : (row : SourceRow) (plain : PlainSource) → SourceIs N row plain → (rows : List SourceRow) (plains : List PlainSource) → AreAll (SourceIs N) rows plains → AreBoth (SourceIs N) (replaced by_path row rows) (replaced source_cmp plain plains)
  replaced_source_is row plain is rows plains are = replaced_alike (SourceIs N) by_path source_cmp (λ x x' y y' h h'. two bytes_cmp x.path y.path x'.path y'.path h.path h'.path) row plain is rows plains are

  pub replaced_create_is : (row : CreateRow) (plain : PlainCreate) → CreateIs N row plain → (rows : List CreateRow) (plains : List PlainCreate) → AreAll (CreateIs N) rows plains → AreBoth (CreateIs N) (replaced by_source row rows) (replaced create_cmp plain plains)
  replaced_create_is row plain is rows plains are = replaced_alike (CreateIs N) by_source create_cmp (λ x x' y y' h h'. two bytes_cmp x.source y.source x'.source y'.source h.source h'.source) row plain is rows plains are

  pub replaced_job_is : (row : JobRow) (plain : PlainJob) → JobIs N row plain → (rows : List JobRow) (plains : List PlainJob) → AreAll (JobIs N) rows plains → AreBoth (JobIs N) (replaced by_id row rows) (replaced job_row_cmp plain plains)
  replaced_job_is row plain is rows plains are = replaced_alike (JobIs N) by_id job_row_cmp (λ x x' y y' h h'. two job_cmp x.id y.id x'.id y'.id h.id h'.id) row plain is rows plains are

  pub take_source_is : (path : List ℕ) (rows : List SourceRow) (plains : List PlainSource) → AreAll (SourceIs N) rows plains
      → AreAll (SourceIs N) (filter (λ row. not (bytes_eq row.path path)) rows) (filter (λ row. not (bytes_eq row.path path)) plains)
      × AreBoth (SourceIs N) (find (λ row. bytes_eq row.path path) rows) (find (λ row. bytes_eq row.path path) plains)
  take_source_is path rows plains are = (
    filter_alike (SourceIs N) (λ row. bytes_eq row.path path) (λ row. bytes_eq row.path path) (λ x y h. ap (λ (p : List ℕ). bytes_eq p path) h.path) rows plains are,
    find_alike (SourceIs N) (λ row. bytes_eq row.path path) (λ row. bytes_eq row.path path) (λ x y h. ap (λ (p : List ℕ). bytes_eq p path) h.path) rows plains are,
  )

  pub take_create_is : (path : List ℕ) (rows : List CreateRow) (plains : List PlainCreate) → AreAll (CreateIs N) rows plains
      → AreAll (CreateIs N) (filter (λ row. not (bytes_eq row.source path)) rows) (filter (λ row. not (bytes_eq row.source path)) plains)
      × AreBoth (CreateIs N) (find (λ row. bytes_eq row.source path) rows) (find (λ row. bytes_eq row.source path) plains)
  take_create_is path rows plains are = (
    filter_alike (CreateIs N) (λ row. bytes_eq row.source path) (λ row. bytes_eq row.source path) (λ x y h. ap (λ (p : List ℕ). bytes_eq p path) h.source) rows plains are,
    find_alike (CreateIs N) (λ row. bytes_eq row.source path) (λ row. bytes_eq row.source path) (λ x y h. ap (λ (p : List ℕ). bytes_eq p path) h.source) rows plains are,
  )

  pub take_job_is : (id : JobId) (rows : List JobRow) (plains : List PlainJob) → AreAll (JobIs N) rows plains
      → AreAll (JobIs N) (filter (λ row. not (same_job row.id id)) rows) (filter (λ row. not (same_job row.id id)) plains)
      × AreBoth (JobIs N) (find (λ row. same_job row.id id) rows) (find (λ row. same_job row.id id) plains)
  take_job_is id rows plains are = (
    filter_alike (JobIs N) (λ row. same_job row.id id) (λ row. same_job row.id id) (λ x y h. ap (λ (p : JobId). same_job p id) h.id) rows plains are,
    find_alike (JobIs N) (λ row. same_job row.id id) (λ row. same_job row.id id) (λ x y h. ap (λ (p : JobId). same_job p id) h.id) rows plains are,
  )

  pub sources_named : (o : Option SourceRow) (p : Option PlainSource) → AreBoth (SourceIs N) o p → AreAll N (named_by source_numbers o) (named_by content_named p)
  sources_named = named_alike N (SourceIs N) source_numbers content_named (content_alike N)

  pub creates_named : (o : Option CreateRow) (p : Option PlainCreate) → AreBoth (CreateIs N) o p → AreAll N (named_by create_numbers o) (named_by create_named p)
  creates_named = named_alike N (CreateIs N) create_numbers create_named (λ x y h. (h.input, tt))

  pub jobs_named : (o : Option JobRow) (p : Option PlainJob) → AreBoth (JobIs N) o p → AreAll N (named_by job_numbers o) (named_by job_named p)
  jobs_named = named_alike N (JobIs N) job_numbers job_named (λ x y h. result_alike N x.result y.result h.result)

-- ---- what the rows of tables name

pub rows_total : (f : Thing → ℕ) (tables : PlainTables)
    → total f (row_things tables) ≡ total (λ row. total f (content_named row)) tables.sources + total (λ row. total f (create_named row)) tables.creates + total (λ row. total f (job_named row)) tables.jobs
rows_total f tables =
    let s = flat_map content_named tables.sources in
    let c = map (λ (row : PlainCreate). row.input) tables.creates in
    let j = flat_map (λ (row : PlainJob). result_named row.result) tables.jobs in
    let all : total f (row_things tables) ≡ total f (s ++ c) + total f j = total_append f (s ++ c) j in
    let rest : total f (s ++ c) ≡ total f s + total f c = total_append f s c in
    let sources : total f s ≡ total (λ row. total f (content_named row)) tables.sources = total_flat f content_named tables.sources in
    let creates : total f c ≡ total (λ row. total f (create_named row)) tables.creates = inputs tables.creates in
    let jobs : total f j ≡ total (λ row. total f (job_named row)) tables.jobs = total_flat f job_named tables.jobs in
    omega (arith, all, rest, sources, creates, jobs)
  where
    inputs : (rows : List PlainCreate) → total f (map (λ row. row.input) rows) ≡ total (λ row. total f (create_named row)) rows
    inputs [] = refl
    inputs (row ∷ rows) = omega (arith, inputs rows)

module _ (f : Thing → ℕ) (tables : PlainTables) where
  pub source_put : (row : PlainSource) → total f (row_things (with_source tables row)) + total f (named_by content_named (replaced source_cmp row tables.sources)) ≡ total f (row_things tables) + total f (content_named row)
  source_put row =
      let before : total f (row_things tables) ≡ total (λ row. total f (content_named row)) (tables.sources) + total (λ row. total f (create_named row)) tables.creates + total (λ row. total f (job_named row)) tables.jobs = rows_total f tables in
      let after : total f (row_things (with_source tables row)) ≡ total (λ row. total f (content_named row)) (put_in_order source_cmp row tables.sources) + total (λ row. total f (create_named row)) tables.creates + total (λ row. total f (job_named row)) tables.jobs = rows_total f (with_source tables row) in
      let put = put_total (λ row. total f (content_named row)) source_cmp row tables.sources in
      omega (arith, before, after, put, part_named f content_named (replaced source_cmp row tables.sources))

  pub create_put : (row : PlainCreate) → total f (row_things (with_create tables row)) + total f (named_by create_named (replaced create_cmp row tables.creates)) ≡ total f (row_things tables) + total f (create_named row)
  create_put row =
      let before : total f (row_things tables) ≡ total (λ row. total f (content_named row)) tables.sources + total (λ row. total f (create_named row)) (tables.creates) + total (λ row. total f (job_named row)) tables.jobs = rows_total f tables in
      let after : total f (row_things (with_create tables row)) ≡ total (λ row. total f (content_named row)) tables.sources + total (λ row. total f (create_named row)) (put_in_order create_cmp row tables.creates) + total (λ row. total f (job_named row)) tables.jobs = rows_total f (with_create tables row) in
      let put = put_total (λ row. total f (create_named row)) create_cmp row tables.creates in
      omega (arith, before, after, put, part_named f create_named (replaced create_cmp row tables.creates))

  pub job_put : (row : PlainJob) → total f (row_things (with_job tables row)) + total f (named_by job_named (replaced job_row_cmp row tables.jobs)) ≡ total f (row_things tables) + total f (job_named row)
  job_put row =
      let before : total f (row_things tables) ≡ total (λ row. total f (content_named row)) tables.sources + total (λ row. total f (create_named row)) tables.creates + total (λ row. total f (job_named row)) (tables.jobs) = rows_total f tables in
      let after : total f (row_things (with_job tables row)) ≡ total (λ row. total f (content_named row)) tables.sources + total (λ row. total f (create_named row)) tables.creates + total (λ row. total f (job_named row)) (put_in_order job_row_cmp row tables.jobs) = rows_total f (with_job tables row) in
      let put = put_total (λ row. total f (job_named row)) job_row_cmp row tables.jobs in
      omega (arith, before, after, put, part_named f job_named (replaced job_row_cmp row tables.jobs))

  module _ (rise : TablesRise tables) where
    pub source_taken : (path : List ℕ) → total f (row_things (without_source tables path)) + total f (named_by content_named (source_row_at tables path)) ≡ total f (row_things tables)
    source_taken path =
        let before : total f (row_things tables) ≡ total (λ row. total f (content_named row)) (tables.sources) + total (λ row. total f (create_named row)) tables.creates + total (λ row. total f (job_named row)) tables.jobs = rows_total f tables in
        let after : total f (row_things (without_source tables path)) ≡ total (λ row. total f (content_named row)) (filter (λ row. not (bytes_eq row.path path)) tables.sources) + total (λ row. total f (create_named row)) tables.creates + total (λ row. total f (job_named row)) tables.jobs = rows_total f (without_source tables path) in
        let taken : total (λ row. total f (content_named row)) (filter (λ row. not (bytes_eq row.path path)) tables.sources) + part (λ row. total f (content_named row)) (source_row_at tables path) ≡ total (λ row. total f (content_named row)) tables.sources =
        filter_total bytes_cmp nat_list_cmp_total (λ row. row.path) path (λ row. bytes_eq row.path path) (λ row. sym (is_eq-slice_cmp row.path path)) (λ row. total f (content_named row)) tables.sources rise.sources in
        omega (arith, before, after, taken, part_named f content_named (source_row_at tables path))

    pub create_taken : (path : List ℕ) → total f (row_things (without_create tables path)) + total f (named_by create_named (create_row_at tables path)) ≡ total f (row_things tables)
    create_taken path =
        let before : total f (row_things tables) ≡ total (λ row. total f (content_named row)) tables.sources + total (λ row. total f (create_named row)) (tables.creates) + total (λ row. total f (job_named row)) tables.jobs = rows_total f tables in
        let after : total f (row_things (without_create tables path)) ≡ total (λ row. total f (content_named row)) tables.sources + total (λ row. total f (create_named row)) (filter (λ row. not (bytes_eq row.source path)) tables.creates) + total (λ row. total f (job_named row)) tables.jobs = rows_total f (without_create tables path) in
        let taken : total (λ row. total f (create_named row)) (filter (λ row. not (bytes_eq row.source path)) tables.creates) + part (λ row. total f (create_named row)) (create_row_at tables path) ≡ total (λ row. total f (create_named row)) tables.creates =
        filter_total bytes_cmp nat_list_cmp_total (λ row. row.source) path (λ row. bytes_eq row.source path) (λ row. sym (is_eq-slice_cmp row.source path)) (λ row. total f (create_named row)) tables.creates rise.creates in
        omega (arith, before, after, taken, part_named f create_named (create_row_at tables path))

    pub job_taken : (id : JobId) → total f (row_things (without_job tables id)) + total f (named_by job_named (job_row_at tables id)) ≡ total f (row_things tables)
    job_taken id =
        let before : total f (row_things tables) ≡ total (λ row. total f (content_named row)) tables.sources + total (λ row. total f (create_named row)) tables.creates + total (λ row. total f (job_named row)) (tables.jobs) = rows_total f tables in
        let after : total f (row_things (without_job tables id)) ≡ total (λ row. total f (content_named row)) tables.sources + total (λ row. total f (create_named row)) tables.creates + total (λ row. total f (job_named row)) (filter (λ row. not (same_job row.id id)) tables.jobs) = rows_total f (without_job tables id) in
        let taken : total (λ row. total f (job_named row)) (filter (λ row. not (same_job row.id id)) tables.jobs) + part (λ row. total f (job_named row)) (job_row_at tables id) ≡ total (λ row. total f (job_named row)) tables.jobs =
        filter_total job_cmp job_total (λ row. row.id) id (λ row. same_job row.id id) (λ row. refl) (λ row. total f (job_named row)) tables.jobs rise.jobs in
        omega (arith, before, after, taken, part_named f job_named (job_row_at tables id))

-- ---- rows still rise

module _ (tables : PlainTables) (rise : TablesRise tables) where
  pub source_put_rises : (row : PlainSource) → TablesRise (with_source tables row)
  source_put_rises row = record { sources = put_rises bytes_cmp nat_list_cmp_total (λ row. row.path) row tables.sources rise.sources; creates = rise.creates; jobs = rise.jobs }

  pub create_put_rises : (row : PlainCreate) → TablesRise (with_create tables row)
  create_put_rises row = record { sources = rise.sources; creates = put_rises bytes_cmp nat_list_cmp_total (λ row. row.source) row tables.creates rise.creates; jobs = rise.jobs }

  pub job_put_rises : (row : PlainJob) → TablesRise (with_job tables row)
  job_put_rises row = record { sources = rise.sources; creates = rise.creates; jobs = put_rises job_cmp job_total (λ row. row.id) row tables.jobs rise.jobs }

  pub source_taken_rises : (path : List ℕ) → TablesRise (without_source tables path)
  source_taken_rises path = record { sources = filter_rises bytes_cmp nat_list_cmp_total (λ row. row.path) (λ row. not (bytes_eq row.path path)) tables.sources rise.sources; creates = rise.creates; jobs = rise.jobs }

  pub create_taken_rises : (path : List ℕ) → TablesRise (without_create tables path)
  create_taken_rises path = record { sources = rise.sources; creates = filter_rises bytes_cmp nat_list_cmp_total (λ row. row.source) (λ row. not (bytes_eq row.source path)) tables.creates rise.creates; jobs = rise.jobs }

  pub job_taken_rises : (id : JobId) → TablesRise (without_job tables id)
  job_taken_rises id = record { sources = rise.sources; creates = rise.creates; jobs = filter_rises job_cmp job_total (λ row. row.id) (λ row. not (same_job row.id id)) tables.jobs rise.jobs }

-- ---- the state after a put or a removal

-- the tables with other rows of sources, of creates or of jobs
pub record HasSources (old new : Tables) (rows : List SourceRow) : Type 0 where
  pub folders : new.folders ≡ old.folders
  pub sources : new.sources.items ≡ rows
  pub creates : new.creates ≡ old.creates
  pub jobs : new.jobs ≡ old.jobs

pub record HasCreates (old new : Tables) (rows : List CreateRow) : Type 0 where
  pub folders : new.folders ≡ old.folders
  pub sources : new.sources ≡ old.sources
  pub creates : new.creates.items ≡ rows
  pub jobs : new.jobs ≡ old.jobs

pub record HasJobs (old new : Tables) (rows : List JobRow) : Type 0 where
  pub folders : new.folders ≡ old.folders
  pub sources : new.sources ≡ old.sources
  pub creates : new.creates ≡ old.creates
  pub jobs : new.jobs.items ≡ rows

module _ (N : Number → Thing → Type 0) (old new : Tables) (plain : PlainTables) (are : TablesAre N old plain) where
  pub with_sources_are : (rows : List SourceRow) (plains : List PlainSource) → HasSources old new rows → AreAll (SourceIs N) rows plains → TablesAre N new (record plain { sources = plains })
  with_sources_are rows plains has rows_are = record {
    folders = ap (λ v. v.items) has.folders ∙ are.folders;
    sources = subst (λ l. AreAll (SourceIs N) l plains) (sym has.sources) rows_are;
    creates = subst (λ v. AreAll (CreateIs N) v.items plain.creates) (sym has.creates) are.creates;
    jobs = subst (λ v. AreAll (JobIs N) v.items plain.jobs) (sym has.jobs) are.jobs;
  }

  pub with_creates_are : (rows : List CreateRow) (plains : List PlainCreate) → HasCreates old new rows → AreAll (CreateIs N) rows plains → TablesAre N new (record plain { creates = plains })
  with_creates_are rows plains has rows_are = record {
    folders = ap (λ v. v.items) has.folders ∙ are.folders;
    sources = subst (λ v. AreAll (SourceIs N) v.items plain.sources) (sym has.sources) are.sources;
    creates = subst (λ l. AreAll (CreateIs N) l plains) (sym has.creates) rows_are;
    jobs = subst (λ v. AreAll (JobIs N) v.items plain.jobs) (sym has.jobs) are.jobs;
  }

  pub with_jobs_are : (rows : List JobRow) (plains : List PlainJob) → HasJobs old new rows → AreAll (JobIs N) rows plains → TablesAre N new (record plain { jobs = plains })
  with_jobs_are rows plains has rows_are = record {
    folders = ap (λ v. v.items) has.folders ∙ are.folders;
    sources = subst (λ v. AreAll (SourceIs N) v.items plain.sources) (sym has.sources) are.sources;
    creates = subst (λ v. AreAll (CreateIs N) v.items plain.creates) (sym has.creates) are.creates;
    jobs = subst (λ l. AreAll (JobIs N) l plains) (sym has.jobs) rows_are;
  }

-- the counts and the rest of a state after names came and went
pub record IsRecounted (state new : State) (come gone : List Number) : Type 0 where
  pub defined : new.defined ≡ state.defined
  pub names : new.names ≡ state.names + length come - length gone
  pub counts : Recounts state new come gone

module _ (state new : State) (contents : List (Option Entry)) (stored : Stored) (stands : StandsFor state contents stored) where
  abbrev N : Number → Thing → Type 0
  N = Names state.things.items contents

  pub source_is_put : (row : SourceRow) (plain : PlainSource) → SourceIs N row plain → HasSources state.tables new.tables (put_in_order by_path row state.tables.sources.items)
      → IsRecounted state new (source_numbers row) (named_by source_numbers (replaced by_path row state.tables.sources.items)) → StandsFor new contents (with_tables stored (with_source stored.tables plain))
  source_is_put row plain is has counts =
      let put = put_source_is N row plain is state.tables.sources.items stored.tables.sources stands.tables.sources in
      renamed state new contents stored (with_source stored.tables plain) (source_numbers row) (named_by source_numbers (replaced by_path row state.tables.sources.items)) (content_named plain) (named_by content_named (replaced source_cmp plain stored.tables.sources)) stands
      (source_put_rises stored.tables stands.sound.rise plain) (with_sources_are N state.tables new.tables stored.tables stands.tables (put_in_order by_path row state.tables.sources.items) (put_in_order source_cmp plain stored.tables.sources) has put.0)
      counts.defined counts.names counts.counts (content_alike N row plain is) put.1 (λ f. source_put f stored.tables plain)

  pub create_is_put : (row : CreateRow) (plain : PlainCreate) → CreateIs N row plain → HasCreates state.tables new.tables (put_in_order by_source row state.tables.creates.items)
      → IsRecounted state new (create_numbers row) (named_by create_numbers (replaced by_source row state.tables.creates.items)) → StandsFor new contents (with_tables stored (with_create stored.tables plain))
  create_is_put row plain is has counts =
      let put = put_create_is N row plain is state.tables.creates.items stored.tables.creates stands.tables.creates in
      renamed state new contents stored (with_create stored.tables plain) (create_numbers row) (named_by create_numbers (replaced by_source row state.tables.creates.items)) (create_named plain) (named_by create_named (replaced create_cmp plain stored.tables.creates)) stands
      (create_put_rises stored.tables stands.sound.rise plain) (with_creates_are N state.tables new.tables stored.tables stands.tables (put_in_order by_source row state.tables.creates.items) (put_in_order create_cmp plain stored.tables.creates) has put.0)
      counts.defined counts.names counts.counts (is.input, tt) put.1 (λ f. create_put f stored.tables plain)

  pub job_is_put : (row : JobRow) (plain : PlainJob) → JobIs N row plain → HasJobs state.tables new.tables (put_in_order by_id row state.tables.jobs.items)
      → IsRecounted state new (job_numbers row) (named_by job_numbers (replaced by_id row state.tables.jobs.items)) → StandsFor new contents (with_tables stored (with_job stored.tables plain))
  job_is_put row plain is has counts =
      let put = put_job_is N row plain is state.tables.jobs.items stored.tables.jobs stands.tables.jobs in
      renamed state new contents stored (with_job stored.tables plain) (job_numbers row) (named_by job_numbers (replaced by_id row state.tables.jobs.items)) (job_named plain) (named_by job_named (replaced job_row_cmp plain stored.tables.jobs)) stands
      (job_put_rises stored.tables stands.sound.rise plain) (with_jobs_are N state.tables new.tables stored.tables stands.tables (put_in_order by_id row state.tables.jobs.items) (put_in_order job_row_cmp plain stored.tables.jobs) has put.0)
      counts.defined counts.names counts.counts (result_alike N row.result plain.result is.result) put.1 (λ f. job_put f stored.tables plain)

  plus_none : (a b c : ℕ) → a + b ≡ c → a + b ≡ c + 0
  plus_none a b c e = omega (arith, e)

  pub source_is_taken : (path : List ℕ) → HasSources state.tables new.tables (filter (λ row. not (bytes_eq row.path path)) state.tables.sources.items)
      → IsRecounted state new [] (named_by source_numbers (find (λ row. bytes_eq row.path path) state.tables.sources.items)) → StandsFor new contents (with_tables stored (without_source stored.tables path))
  source_is_taken path has counts =
      let taken = take_source_is N path state.tables.sources.items stored.tables.sources stands.tables.sources in
      renamed state new contents stored (without_source stored.tables path) [] (named_by source_numbers (find (λ row. bytes_eq row.path path) state.tables.sources.items)) [] (named_by content_named (source_row_at stored.tables path)) stands
      (source_taken_rises stored.tables stands.sound.rise path) (with_sources_are N state.tables new.tables stored.tables stands.tables (filter (λ row. not (bytes_eq row.path path)) state.tables.sources.items) (filter (λ row. not (bytes_eq row.path path)) stored.tables.sources) has taken.0)
      counts.defined counts.names counts.counts tt (sources_named N (find (λ row. bytes_eq row.path path) state.tables.sources.items) (source_row_at stored.tables path) taken.1)
      (λ f. plus_none (total f (row_things (without_source stored.tables path))) (total f (named_by content_named (source_row_at stored.tables path))) (total f (row_things stored.tables)) (source_taken f stored.tables stands.sound.rise path))

  pub create_is_taken : (path : List ℕ) → HasCreates state.tables new.tables (filter (λ row. not (bytes_eq row.source path)) state.tables.creates.items)
      → IsRecounted state new [] (named_by create_numbers (find (λ row. bytes_eq row.source path) state.tables.creates.items)) → StandsFor new contents (with_tables stored (without_create stored.tables path))
  create_is_taken path has counts =
      let taken = take_create_is N path state.tables.creates.items stored.tables.creates stands.tables.creates in
      renamed state new contents stored (without_create stored.tables path) [] (named_by create_numbers (find (λ row. bytes_eq row.source path) state.tables.creates.items)) [] (named_by create_named (create_row_at stored.tables path)) stands
      (create_taken_rises stored.tables stands.sound.rise path) (with_creates_are N state.tables new.tables stored.tables stands.tables (filter (λ row. not (bytes_eq row.source path)) state.tables.creates.items) (filter (λ row. not (bytes_eq row.source path)) stored.tables.creates) has taken.0)
      counts.defined counts.names counts.counts tt (creates_named N (find (λ row. bytes_eq row.source path) state.tables.creates.items) (create_row_at stored.tables path) taken.1)
      (λ f. plus_none (total f (row_things (without_create stored.tables path))) (total f (named_by create_named (create_row_at stored.tables path))) (total f (row_things stored.tables)) (create_taken f stored.tables stands.sound.rise path))

  pub job_is_taken : (id : JobId) → HasJobs state.tables new.tables (filter (λ row. not (same_job row.id id)) state.tables.jobs.items)
      → IsRecounted state new [] (named_by job_numbers (find (λ row. same_job row.id id) state.tables.jobs.items)) → StandsFor new contents (with_tables stored (without_job stored.tables id))
  job_is_taken id has counts =
      let taken = take_job_is N id state.tables.jobs.items stored.tables.jobs stands.tables.jobs in
      renamed state new contents stored (without_job stored.tables id) [] (named_by job_numbers (find (λ row. same_job row.id id) state.tables.jobs.items)) [] (named_by job_named (job_row_at stored.tables id)) stands
      (job_taken_rises stored.tables stands.sound.rise id) (with_jobs_are N state.tables new.tables stored.tables stands.tables (filter (λ row. not (same_job row.id id)) state.tables.jobs.items) (filter (λ row. not (same_job row.id id)) stored.tables.jobs) has taken.0)
      counts.defined counts.names counts.counts tt (jobs_named N (find (λ row. same_job row.id id) state.tables.jobs.items) (job_row_at stored.tables id) taken.1)
      (λ f. plus_none (total f (row_things (without_job stored.tables id))) (total f (named_by job_named (job_row_at stored.tables id))) (total f (row_things stored.tables)) (job_taken f stored.tables stands.sound.rise id))

-- ---- counts step by step

pub two_steps : (state mid new : State) (come wanted gone unwanted : List Number) → mid.defined ≡ state.defined → new.defined ≡ mid.defined → mid.names ≡ state.names + length come → new.names ≡ mid.names - length gone
    → ((k : Number) → file_thing mid.things.items k ≡ raised (times_of come k) (file_thing state.things.items k)) → ((k : Number) → file_thing new.things.items k ≡ lowered (times_of gone k) (file_thing mid.things.items k))
    → come ≡ wanted → gone ≡ unwanted → IsRecounted state new wanted unwanted
two_steps state mid new come wanted gone unwanted d1 d2 n1 n2 c1 c2 same_come same_gone = record {
  defined = d2 ∙ d1;
  names =
      let more : length come ≡ length wanted = ap length same_come in
      let fewer : length gone ≡ length unwanted = ap length same_gone in
      omega (arith, n1, n2, more, fewer);
  counts = λ k. c2 k ∙ ap (λ o. lowered (times_of gone k) o) (c1 k)
      ∙ ap (λ l. lowered (times_of gone k) (raised (times_of l k) (file_thing state.things.items k))) same_come
      ∙ ap (λ l. lowered (times_of l k) (raised (times_of wanted k) (file_thing state.things.items k))) same_gone;
}

raised_none : (o : Option FileThing) → o ≡ raised 0 o
raised_none None = refl
raised_none (Some x) = let same : x.named ≡ x.named + 0 = omega arith in ap (λ n. Some (record x { named = n })) same

pub one_step : (state new : State) (gone unwanted : List Number) → new.defined ≡ state.defined → new.names ≡ state.names - length gone
    → ((k : Number) → file_thing new.things.items k ≡ lowered (times_of gone k) (file_thing state.things.items k)) → gone ≡ unwanted → IsRecounted state new [] unwanted
one_step state new gone unwanted d n c same = record {
  defined = d;
  names =
      let fewer : length gone ≡ length unwanted = ap length same in
      omega (arith, n, fewer);
  counts = λ k. c k ∙ ap (λ l. lowered (times_of l k) (file_thing state.things.items k)) same ∙ ap (λ o. lowered (times_of unwanted k) o) (raised_none (file_thing state.things.items k));
}

lowered_none : (o : Option FileThing) → o ≡ lowered 0 o
lowered_none None = refl
lowered_none (Some x) = let same : x.named ≡ x.named - 0 = omega arith in ap (λ n. Some (record x { named = n })) same

pub no_step : (state new : State) → new.defined ≡ state.defined → new.names ≡ state.names → ((k : Number) → file_thing new.things.items k ≡ file_thing state.things.items k) → IsRecounted state new [] []
no_step state new d n c = record {
  defined = d;
  names = omega (arith, n);
  counts = λ k. c k ∙ raised_none (file_thing state.things.items k) ∙ lowered_none (raised 0 (file_thing state.things.items k));
}

pub folders_are_put : (state new : State) (contents : List (Option Entry)) (stored : Stored) (stands : StandsFor state contents stored) (rows : List FolderRow)
    → new.tables.folders.items ≡ rows → new.tables.sources ≡ state.tables.sources → new.tables.creates ≡ state.tables.creates → new.tables.jobs ≡ state.tables.jobs
    → IsRecounted state new [] [] → StandsFor new contents (with_tables stored (with_folders stored.tables rows))
folders_are_put state new contents stored stands rows folders sources creates jobs counts =
    let N = Names state.things.items contents in
    renamed state new contents stored (with_folders stored.tables rows) [] [] [] [] stands
    (record { sources = stands.sound.rise.sources; creates = stands.sound.rise.creates; jobs = stands.sound.rise.jobs })
    (record {
      folders = folders;
      sources = subst (λ v. AreAll (SourceIs N) v.items stored.tables.sources) (sym sources) stands.tables.sources;
      creates = subst (λ v. AreAll (CreateIs N) v.items stored.tables.creates) (sym creates) stands.tables.creates;
      jobs = subst (λ v. AreAll (JobIs N) v.items stored.tables.jobs) (sym jobs) stands.tables.jobs;
    })
    counts.defined counts.names counts.counts tt tt (λ f. refl)

pub stands_for_nothing : (state : State) (contents : List (Option Entry)) → IsTidy contents → state.tables.folders.items ≡ [] → state.tables.sources.items ≡ [] → state.tables.creates.items ≡ [] → state.tables.jobs.items ≡ []
    → state.things.items ≡ [] → state.defined ≡ 0 → state.names ≡ 0 → StandsFor state contents nothing_stored
unfolding IsStrictlySortedBy
stands_for_nothing state contents tidy folders sources creates jobs things defined names =
    let N = Names state.things.items contents in
    record {
      sound = record { falls = tt; rise = record { sources = tt; creates = tt; jobs = tt }; formed = tt; closed = tt };
      tidy = tidy;
      defined = defined;
      names = names;
      tables = record {
        folders = folders;
        sources = subst (λ l. AreAll (SourceIs N) l []) (sym sources) tt;
        creates = subst (λ l. AreAll (CreateIs N) l []) (sym creates) tt;
        jobs = subst (λ l. AreAll (JobIs N) l []) (sym jobs) tt;
      };
      found = tt;
      known = λ m t e. let none : Some t ≡ None = sym e ∙ ap (λ l. file_thing l m) things in absurd (cc none);
    }

-- a state with the same of everything stands for the same
pub same_things : (state new : State) (contents : List (Option Entry)) (stored : Stored) → StandsFor state contents stored → new.tables ≡ state.tables → new.defined ≡ state.defined → new.names ≡ state.names
    → ((k : Number) → file_thing new.things.items k ≡ file_thing state.things.items k) → StandsFor new contents stored
same_things state new contents stored stands tables d n c =
    let counts = no_step state new d n c in
    renamed state new contents stored stored.tables [] [] [] [] stands stands.sound.rise (subst (λ t. TablesAre (Names state.things.items contents) t stored.tables) (sym tables) stands.tables)
    counts.defined counts.names counts.counts tt tt (λ f. refl)
