-- The state of a database, and what it stands for beside the contents.
use Rattle.std.specs.Prelude.{◌≡◌, ◌<◌, ⊤, ℕ, suc, true, List, [], ◌∷◌, length, map, Option, Some, None, IsSome, option_map, slice_index_or, cond}
use Rattle.std.specs.List.{AllByRecursion, flat_map}
use Rattle.std.specs.List.Sorted.{IsStrictlySortedBy}
use Rattle.ap_text.specs.Order.{bytes_cmp}
use Rattle.ap_text.specs.JobOrder.{job_cmp}
use Rattle.ap_content.specs.Things.{Thing}
use Rattle.ap_content.specs.Entries.{Entry, IsTidy, Stands, holds_at}
use Rattle.ap_content.specs.declared.node.Number.{Number}
use Rattle.ap_rows.specs.Forms.{has_form}
use Rattle.ap_rows.specs.declared.row.SourceRow.{SourceRow}
use Rattle.ap_rows.specs.declared.row.CreateRow.{CreateRow}
use Rattle.ap_rows.specs.declared.row.JobRow.{JobRow}
use Rattle.ap_rows.specs.declared.row.Tables.{Tables}
use Rattle.ap_rows.specs.declared.row.SeenRow.{SeenRow}
use Rattle.ap_rows.specs.declared.row.SeenRow.TheVariants.{Bytes, TooLarge}
use Rattle.ap_rows.specs.declared.row.OutcomeRow.{OutcomeRow}
use Rattle.ap_rows.specs.declared.row.OutcomeRow.TheVariants.{Done, Failed}
use Rattle.ap_rows.specs.declared.row.JobResult.{JobResult}
use Rattle.ap_rows.specs.declared.row.JobResult.TheVariants.{Processed, Cycle, Missing, DepFailed}
use Rattle.ap_db.specs.declared.things.FileThing.{FileThing}
use Rattle.ap_db.specs.declared.state.State.{State}
use Rattle.ap_db.specs.Same.{same_thing, is_among}
use Rattle.ap_db.specs.Tables.{PlainSource, PlainCreate, PlainOutcome, done, failed, PlainResult, processed, on_cycle, lacks, after_failure, PlainJob, PlainTables}
use Rattle.ap_db.specs.Stored.{Live, Stored, thing_at, values, named_things, kids_of_thing}
use Rattle.ap_db.specs.Listed.{AreAll, total}

-- ---- rows with numbers, and the plain rows that they stand for

-- how a source is seen, where a number names a thing so
abbrev pub SeenIs : (Number → Thing → Type 0) → SeenRow → Option Thing → Type 0
SeenIs Names (Bytes n) None = ⊥
SeenIs Names (Bytes n) (Some x) = Names n x
SeenIs Names TooLarge None = ⊤
SeenIs Names TooLarge (Some x) = ⊥

pub record SourceIs (Names : Number → Thing → Type 0) (row : SourceRow) (plain : PlainSource) : Type 0 where
  pub path : row.path ≡ plain.path
  pub order : row.order ≡ plain.order
  pub name : row.name ≡ plain.name
  pub seen : SeenIs Names row.seen plain.content

pub record CreateIs (Names : Number → Thing → Type 0) (row : CreateRow) (plain : PlainCreate) : Type 0 where
  pub source : row.source ≡ plain.source
  pub input : Names row.input plain.input
  pub created : row.created ≡ plain.created

abbrev pub OutcomeIs : (Number → Thing → Type 0) → OutcomeRow → PlainOutcome → Type 0
OutcomeIs Names (Done n) (done x) = Names n x
OutcomeIs Names (Done n) (failed code) = ⊥
OutcomeIs Names (Failed code) (done x) = ⊥
OutcomeIs Names (Failed code) (failed plain) = code ≡ plain

abbrev pub ResultIs : (Number → Thing → Type 0) → JobResult → PlainResult → Type 0
ResultIs Names (Processed n outcome) (processed input plain) = Names n input × OutcomeIs Names outcome plain
ResultIs Names (Processed n outcome) on_cycle = ⊥
ResultIs Names (Processed n outcome) (lacks d) = ⊥
ResultIs Names (Processed n outcome) (after_failure d) = ⊥
ResultIs Names Cycle (processed input plain) = ⊥
ResultIs Names Cycle on_cycle = ⊤
ResultIs Names Cycle (lacks d) = ⊥
ResultIs Names Cycle (after_failure d) = ⊥
ResultIs Names (Missing d) (processed input plain) = ⊥
ResultIs Names (Missing d) on_cycle = ⊥
ResultIs Names (Missing d) (lacks plain) = d ≡ plain
ResultIs Names (Missing d) (after_failure plain) = ⊥
ResultIs Names (DepFailed d) (processed input plain) = ⊥
ResultIs Names (DepFailed d) on_cycle = ⊥
ResultIs Names (DepFailed d) (lacks plain) = ⊥
ResultIs Names (DepFailed d) (after_failure plain) = d ≡ plain

pub record JobIs (Names : Number → Thing → Type 0) (row : JobRow) (plain : PlainJob) : Type 0 where
  pub id : row.id ≡ plain.id
  pub result : ResultIs Names row.result plain.result

pub record TablesAre (Names : Number → Thing → Type 0) (tables : Tables) (plain : PlainTables) : Type 0 where
  pub folders : tables.folders.items ≡ plain.folders
  pub sources : AreAll (SourceIs Names) tables.sources.items plain.sources
  pub creates : AreAll (CreateIs Names) tables.creates.items plain.creates
  pub jobs : AreAll (JobIs Names) tables.jobs.items plain.jobs

-- ---- things by number

-- the thing of the file under a number of the contents
abbrev pub file_thing : List (Option FileThing) → Number → Option FileThing
file_thing things m = slice_index_or things m.0 None

-- its number in the file
abbrev pub file_number : List (Option FileThing) → Number → Option ℕ
file_number things m = option_map (λ thing. thing.number) (file_thing things m)

-- of the thing of the file under the first number the second is the file's number
abbrev pub IsFileNumber : List (Option FileThing) → Number → Number → Type 0
IsFileNumber things m n = file_number things m ≡ Some n.0

-- a number of the contents names a thing, and this is one of the file
pub record Names (things : List (Option FileThing)) (contents : List (Option Entry)) (m : Number) (x : Thing) : Type 0 where
  pub file : IsSome (file_thing things m)
  pub stands : Stands contents m x

-- how often a thing is among these
abbrev pub times_in : List Thing → Thing → ℕ
times_in things x = total (λ y. cond (same_thing x y) 1 0) things

-- a live thing of the file has a number in the contents
pub record IsFound (things : List (Option FileThing)) (contents : List (Option Entry)) (live : Live) : Type 0 where
  pub number : Number
  pub thing : FileThing
  pub file : file_thing things number ≡ Some thing
  pub same : thing.number ≡ live.number
  pub stands : Stands contents number live.value

-- a number of the contents is that of a live thing of the file, with so many names
pub record IsKnown (stored : Stored) (contents : List (Option Entry)) (m : Number) (thing : FileThing) : Type 0 where
  pub value : Thing
  pub live : thing_at stored (record { 0 = thing.number }) ≡ Some value
  pub stands : Stands contents m value
  pub named : thing.named ≡ times_in (named_things stored) value

-- ---- what is true of all that a file stands for

-- numbers below one, falling
abbrev pub Falls : ℕ → List Live → Type 0
Falls top [] = ⊤
Falls top (live ∷ others) = (live.number < top) × Falls live.number others

-- rows that rise by their keys
pub record TablesRise (tables : PlainTables) : Type 0 where
  pub sources : IsStrictlySortedBy bytes_cmp (map (λ row. row.path) tables.sources)
  pub creates : IsStrictlySortedBy bytes_cmp (map (λ row. row.source) tables.creates)
  pub jobs : IsStrictlySortedBy job_cmp (map (λ row. row.id) tables.jobs)

-- numbers fall, rows rise, live things have the form of their tags, and their kids live
pub record IsSound (stored : Stored) : Type 0 where
  pub falls : Falls (suc stored.defined) stored.live
  pub rise : TablesRise stored.tables
  pub formed : AllByRecursion (λ x. has_form x ≡ true) (values stored)
  pub closed : AllByRecursion (λ k. is_among (values stored) k ≡ true) (flat_map kids_of_thing (values stored))

-- the state stands, beside the contents, for what is stored
pub record StandsFor (state : State) (contents : List (Option Entry)) (stored : Stored) : Type 0 where
  pub sound : IsSound stored
  pub tidy : IsTidy contents
  pub defined : state.defined ≡ stored.defined
  pub names : state.names ≡ length (named_things stored)
  pub tables : TablesAre (Names state.things.items contents) state.tables stored.tables
  pub found : AllByRecursion (IsFound state.things.items contents) stored.live
  pub known : (m : Number) (thing : FileThing) → file_thing state.things.items m ≡ Some thing → IsKnown stored contents m thing

-- the database has a hold on each number of a thing of the file
abbrev pub AreHeld : List (Option FileThing) → List (Option Entry) → Type 0
AreHeld things contents = (m : Number) → IsSome (file_thing things m) → 0 < holds_at contents m

-- ---- things that come and go

-- the number is that of a thing that isn't yet in the file, and the thing may be defined next: it has its form, and its
-- kids live in the file
pub record IsNewThing (state : State) (contents : List (Option Entry)) (stored : Stored) (m : Number) (x : Thing) : Type 0 where
  pub stands : Stands contents m x
  pub not_yet : file_thing state.things.items m ≡ None
  pub formed : has_form x ≡ true
  pub kids : AllByRecursion (λ k. is_among (values stored) k ≡ true) (kids_of_thing x)

-- the number is that of a thing of the file that nothing names
abbrev pub IsUnnamed : State → Number → Type 0
IsUnnamed state m = (thing : FileThing) × (file_thing state.things.items m ≡ Some thing) × (thing.named ≡ 0)

-- ---- the index of an opening

-- under each number of the file the contents' number of its thing, while it lives
abbrev pub indexed : List (Option Number) → ℕ → Option Number
indexed index n = slice_index_or index n None

pub record IsIndexOf (index : List (Option Number)) (state : State) : Type 0 where
  pub long : length index ≡ suc state.defined
  pub points : (n : ℕ) (m : Number) → indexed index n ≡ Some m → file_number state.things.items m ≡ Some n
  pub finds : (m : Number) (n : ℕ) → file_number state.things.items m ≡ Some n → indexed index n ≡ Some m

-- under each number is the same thing of the file, or none
abbrev pub SameNumbers : State → State → Type 0
SameNumbers old new = (m : Number) → file_number new.things.items m ≡ file_number old.things.items m
