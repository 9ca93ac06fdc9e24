-- The jobs of recorded creations as code has them, and those whose results are still to be asked for.
use Rattle.std.specs.Prelude.{◌≡◌, ℕ, Bool, true, false, not, ◌==◌, List, [], ◌∷◌, length, map, filter, find, bytes_eq, Option, Some, None, IsTrue, option_and_then}
use Rattle.std.specs.List.{flat_map, AllByRecursion}
use Rattle.std.specs.List.Sorted.{IsStrictlySortedBy}
use Rattle.std.specs.declared.cmp.Ordering.{Ordering}
use Rattle.std.specs.Ordering.{on}
use Rattle.ap_text.specs.declared.job_id.JobId.{JobId}
use Rattle.ap_text.specs.JobOrder.{job_cmp}
use Rattle.ap_text.specs.Order.{put_in_order}
use Rattle.ap_text.specs.PathRules.{IsRelPath}
use Rattle.ap_text.specs.NameRules.{IsName, IsPlatform}
use Rattle.ap_content.specs.Things.{bytes_thing}
use Rattle.ap_content.specs.Entries.{Entry}
use Rattle.ap_content.specs.declared.node.Number.{Number}
use Rattle.ap_rows.specs.declared.job.JobDesc.{JobDesc}
use Rattle.ap_rows.specs.declared.job.Created.{Created}
use Rattle.ap_rows.specs.declared.job.Created.TheVariants.{Jobs, Builder, DuplicateKey, TooLarge}
use Rattle.ap_rows.specs.declared.row.CreateRow.{CreateRow}
use Rattle.ap_rows.specs.declared.row.JobRow.{JobRow}
use Rattle.ap_rows.specs.declared.row.JobResult.{JobResult}
use Rattle.ap_rows.specs.declared.row.JobResult.TheVariants.{Processed, Cycle, Missing, DepFailed}
use Rattle.ap_rows.specs.declared.product.ProductRow.{ProductRow}
use Rattle.ap_rows.specs.Typed.{Fits32}
use Rattle.ap_rows.specs.Inputs.{row_of, MadeFrom, input_thing}
use Rattle.ap_rows.specs.InputRanges.{Fits64, IsJobInput}
use Rattle.ap_rows.specs.Products.{is_folded_product}
use Rattle.ap_config.specs.declared.offer.Offer.{Offer}
use Rattle.ap_builder.specs.Offers.{is_offered}
use Rattle.ap_builder.specs.Paths.{IsShort}
use Rattle.ap_builder.specs.Answers.{IsShortProduct}
use Rattle.ap_builder.specs.Views.{plain_of, job_view}
use Rattle.ap_builder.specs.declared.entry.Entry.{Entry as WorkEntry}
use Rattle.ap_builder.specs.declared.entry.Entry.TheVariants.{Process}
use Rattle.ap_builder.specs.declared.product.Product.{Product}
use Rattle.ap_builder.specs.declared.work.JobInput.{JobInput}
use Rattle.ap_builder.specs.declared.work.Outcome.{Outcome}
use Rattle.ap_builder.specs.declared.work.Outcome.TheVariants.{Done}
use Rattle.ap_db.specs.declared.db.Db.{Db}
use Rattle.ap_db.specs.Listed.{AreAll}
use Rattle.ap_db.specs.Tables.{processed, PlainJob, PlainTables}
use Rattle.ap_db.specs.Changes.{Whole, put_job, job_row_at}
use Rattle.ap_engine.specs.declared.source.Source.{Source}
use Rattle.ap_engine.specs.declared.jobs.SourceJob.{SourceJob}
use Rattle.ap_engine.specs.declared.processing.NeededJob.{NeededJob}
use Rattle.ap_engine.specs.Settled.{plain_outcome}
use Rattle.ap_engine.specs.Need.{records_input}
use Rattle.ap_engine.specs.Ledgers.{IsHeld}
use Rattle.ap_engine.specs.Asked.{all_free, if_free}

-- ---- the jobs that a creation recorded

-- the jobs of a creation, where none depends on anything
abbrev pub free_jobs_in : Created → Option (List JobDesc)
free_jobs_in (Jobs jobs) = if_free jobs (all_free jobs)
free_jobs_in (Builder builder code) = None
free_jobs_in (DuplicateKey key platform) = None
free_jobs_in TooLarge = None

-- and of the row of a path
abbrev pub jobs_recorded : List CreateRow → List ℕ → Option (List JobDesc)
jobs_recorded rows path = option_and_then (λ row. free_jobs_in row.created) (find (λ row. bytes_eq row.source path) rows)

-- the job of a source that is described so
abbrev pub job_from : Source → JobDesc → SourceJob
job_from source desc = record { id = record { source = source.path; key = desc.key; platform = desc.platform }; desc = desc; content = source.content }

-- what the types of its parts promise
pub record IsTypedJob (job : SourceJob) : Type 0 where
  pub builder : IsName job.desc.builder
  pub version : Fits32 job.desc.version
  pub platform : IsPlatform job.desc.platform
  pub key : IsName job.desc.key
  pub params : Fits64 (length job.desc.params)
  pub path : IsRelPath job.id.source

-- jobs by their ids
abbrev pub by_id : SourceJob → SourceJob → Ordering
by_id = on (λ job. job.id) job_cmp

-- they rise by their ids
abbrev pub SourceJobsRise : List SourceJob → Type 0
SourceJobsRise jobs = IsStrictlySortedBy job_cmp (map (λ job. job.id) jobs)

-- jobs with others put among them in order, the last first
abbrev pub put_all : List SourceJob → List SourceJob → List SourceJob
put_all [] jobs = jobs
put_all (job ∷ more) jobs = put_in_order by_id job (put_all more jobs)

-- the jobs that these rows record of a source, by job id
pub record AreFoundIn (rows : List CreateRow) (jobs : List SourceJob) (source : Source) : Type 0 where
  pub descs : List JobDesc
  pub recorded : jobs_recorded rows source.path ≡ Some descs
  pub are : jobs ≡ put_all (map (job_from source) descs) []
  pub typed : AllByRecursion IsTypedJob jobs

-- the jobs of these sources, one source after another
pub record AreAllFoundIn (rows : List CreateRow) (jobs : List SourceJob) (sources : List Source) : Type 0 where
  pub parts : List (List SourceJob)
  pub joined : jobs ≡ flat_map (λ part. part) parts
  pub each : AreAll (AreFoundIn rows) parts sources

-- ---- what a job is made from

-- what a job is made from whose source has these bytes, where nothing is reached or handed over
abbrev pub made_of : SourceJob → List ℕ → MadeFrom
made_of job bytes = record {
  builder = job.desc.builder;
  version = job.desc.version;
  platform = job.desc.platform;
  key = job.desc.key;
  params = job.desc.params;
  path = job.id.source;
  bytes = bytes;
  reached = [];
  handed = [];
}

-- the id of the job that is made from this
abbrev pub id_from : MadeFrom → JobId
id_from from = record { source = from.path; key = from.key; platform = from.platform }

-- the job is made from this, and its source's bytes are held
pub record IsJobOf (db : Db) (contents : List (Option Entry)) (job : SourceJob) (from : MadeFrom) : Type 0 where
  pub id : job.id ≡ id_from from
  pub same : made_of job from.bytes ≡ from
  pub held : IsHeld db contents job.content (bytes_thing from.bytes)
  pub typed : IsJobInput from
  pub short : IsShort from.bytes

-- ---- which results are needed

-- the input of a row is under this number
abbrev pub result_is_of : Number → JobResult → Bool
result_is_of n (Processed input outcome) = input.0 == n.0
result_is_of n Cycle = false
result_is_of n (Missing d) = false
result_is_of n (DepFailed d) = false

abbrev pub row_is_of : Number → Option JobRow → Bool
row_is_of n None = false
row_is_of n (Some row) = result_is_of n row.result

-- the row of the job records what it is made from
abbrev pub stands_in : PlainTables → MadeFrom → Bool
stands_in tables from = records_input (input_thing from) (job_row_at tables (id_from from))

-- those whose rows don't
abbrev pub needed_in : PlainTables → List MadeFrom → List MadeFrom
needed_in tables froms = filter (λ from. not (stands_in tables from)) froms

-- a needed job, whose input is held
pub record IsNeededJob (db : Db) (contents : List (Option Entry)) (needed : NeededJob) (from : MadeFrom) : Type 0 where
  pub job : IsJobOf db contents needed.job.now from
  pub input : IsHeld db contents needed.input (input_thing from)

-- ---- what is made

-- just one product
pub record IsOneProduct (outcome : Outcome) : Type 0 where
  pub product : Product
  pub one : outcome ≡ Done (product ∷ [])

-- a product that its thing spells: its paths are folded, and its lists are short
pub record IsFitProduct (product : Product) : Type 0 where
  pub short : IsShortProduct product
  pub folded : is_folded_product (row_of (plain_of product)) ≡ true

-- its row, whose bytes are under this number
abbrev pub row_under : Number → Product → ProductRow
row_under n product = record { name = product.name; kind = product.kind; sub = product.sub; bytes = n; refs = product.refs; legacy = product.legacy }

-- the row of a job with an outcome, and of what is made from this
abbrev pub row_with : Outcome → MadeFrom → PlainJob
row_with outcome from = record { id = id_from from; result = processed (input_thing from) (plain_outcome outcome) }

abbrev pub row_made : (JobInput → Outcome) → MadeFrom → PlainJob
row_made makes from = row_with (makes (job_view from)) from

-- the puts of these rows, and the work that this is
abbrev pub puts_made : (JobInput → Outcome) → List MadeFrom → List Whole
puts_made makes froms = map (λ from. put_job (row_made makes from)) froms

abbrev pub work_of : List MadeFrom → List WorkEntry
work_of froms = map (λ from. Process (id_from from)) froms

-- what the builder of a job, which is offered, makes of it is just one product
pub record IsBuilt (offers : List Offer) (makes : JobInput → Outcome) (from : MadeFrom) : Type 0 where
  pub offered : IsTrue (is_offered offers from.builder)
  pub one : IsOneProduct (makes (job_view from))
