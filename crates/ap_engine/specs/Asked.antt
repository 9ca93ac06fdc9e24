-- What is asked of the builders of a source that names nothing, and what their answers come to.
use Rattle.std.specs.Prelude.{◌≡◌, ℕ, Bool, true, false, ◌==◌, List, [], ◌∷◌, ◌++◌, map, filter, not, ◌&&◌, Contains, Option, Some, None, option_map}
use Rattle.std.specs.List.{flat_map, list_all, list_any}
use Rattle.ap_text.specs.declared.seen.Seen.TheVariants.{Bytes}
use Rattle.ap_content.specs.Things.{Thing, bytes_thing}
use Rattle.ap_content.specs.Entries.{Entry as ContentEntry}
use Rattle.ap_content.specs.declared.node.Number.{Number}
use Rattle.ap_config.specs.declared.config.Config.{Config}
use Rattle.ap_config.specs.declared.offer.Offer.{Offer}
use Rattle.ap_scan.specs.declared.results.Winner.{Winner}
use Rattle.ap_rows.specs.declared.job.DependencyRow.{DependencyRow}
use Rattle.ap_rows.specs.declared.job.JobDesc.{JobDesc}
use Rattle.ap_rows.specs.declared.row.CreateRow.{CreateRow}
use Rattle.ap_rows.specs.Inputs.{CreateFrom}
use Rattle.ap_rows.specs.InputRanges.{IsCreateInput}
use Rattle.ap_builder.specs.declared.entry.Entry.{Entry}
use Rattle.ap_builder.specs.declared.entry.Entry.TheVariants.{Create}
use Rattle.ap_builder.specs.declared.offer.Target.{Target}
use Rattle.ap_builder.specs.declared.work.CreateInput.{CreateInput}
use Rattle.ap_builder.specs.declared.work.CreateAnswer.{CreateAnswer}
use Rattle.ap_builder.specs.declared.work.CreateAnswer.TheVariants.{Jobs, Failed}
use Rattle.ap_builder.specs.declared.work.JobInput.{JobInput}
use Rattle.ap_builder.specs.declared.work.Outcome.{Outcome}
use Rattle.ap_builder.specs.Meanings.{Meanings}
use Rattle.ap_db.specs.declared.db.Db.{Db}
use Rattle.ap_db.specs.Listed.{AreAll}
use Rattle.ap_db.specs.Stored.{Stored}
use Rattle.ap_db.specs.Tables.{PlainCreate, PlainTables}
use Rattle.ap_db.specs.Changes.{Whole, put_create}
use Rattle.ap_sources.specs.Sources.{matching, sources}
use Rattle.ap_create.specs.Creation.{create_from, create_input_of, created, same_slot}
use Rattle.ap_engine.specs.Need.{is_of_input, creation_stands, creates_of}
use Rattle.ap_engine.specs.Settled.{create_row}
use Rattle.ap_engine.specs.Worlds.{AreFreeJobs, AreQuiet}
use Rattle.ap_engine.specs.Ledgers.{IsHeld, IsReady}
use Rattle.ap_engine.specs.Interned.{IsSourceOf}
use Rattle.ap_engine.specs.declared.source.Source.{Source}
use Rattle.ap_engine.specs.declared.creations.NeededCreation.{NeededCreation}

-- three functions as the meanings of builders
abbrev pub meanings_of : (List ℕ → List ℕ → List ℕ → List Target) → (List ℕ → CreateInput → CreateAnswer) → (JobInput → Outcome) → Meanings
meanings_of declares creates makes = record { declares = declares; creates = creates; makes = makes }

-- ---- one source

-- the names and versions of builders
abbrev pub versions_of : List Offer → List (List ℕ × ℕ)
versions_of offers = map (λ offer. (offer.name, offer.version)) offers

-- what the jobs of a source of these bytes are created from, where it reaches nothing
abbrev pub plain_from : Config → List ℕ → List ℕ → CreateFrom
plain_from config path bytes = record {
  builders = versions_of (matching config path);
  platforms = config.platforms;
  path = path;
  seen = Bytes bytes;
  reached = [];
}

-- what these builders answer, and the work that this is
abbrev pub answers_of : (List ℕ → CreateInput → CreateAnswer) → CreateInput → List Offer → List CreateAnswer
answers_of creates input offers = map (λ offer. creates offer.name input) offers

abbrev pub entries_of : List ℕ → List Offer → List Entry
entries_of path offers = map (λ offer. Create path offer.name) offers

-- the jobs of an answer before those of the others, none where one failed
abbrev pub joined : CreateAnswer → Option (List JobDesc) → Option (List JobDesc)
joined (Jobs jobs) others = option_map (λ more. jobs ++ more) others
joined (Failed code) others = None

abbrev pub all_joined : List CreateAnswer → Option (List JobDesc)
all_joined [] = Some []
all_joined (answer ∷ answers) = joined answer (all_joined answers)

-- there are no dependencies
abbrev pub are_none : List DependencyRow → Bool
are_none [] = true
are_none (dep ∷ deps) = false

-- none of the jobs depends on anything
abbrev pub all_free : List JobDesc → Bool
all_free jobs = list_all (λ job. are_none job.deps) jobs

-- no two of them have one key and platform
abbrev pub all_apart : List JobDesc → Bool
all_apart [] = true
all_apart (job ∷ jobs) = not (list_any (same_slot job) jobs) && all_apart jobs

-- the jobs, where none depends on anything
abbrev pub if_free : List JobDesc → Bool → Option (List JobDesc)
if_free jobs true = Some jobs
if_free jobs false = None

-- ---- which creations are needed

-- the row has this number as its input
abbrev pub is_of_number : Number → Option CreateRow → Bool
is_of_number n None = false
is_of_number n (Some row) = row.input.0 == n.0

-- none where the row records the create input, and else the source with the input's number, which is held
abbrev pub AreNeeds : Db → List (Option ContentEntry) → Source → Thing → Option PlainCreate → List NeededCreation → Type 0
AreNeeds db contents source input row [] = is_of_input input row ≡ true
AreNeeds db contents source input row (needed ∷ []) = (needed.source.now ≡ source) × (is_of_input input row ≡ false) × IsHeld db contents needed.input input
AreNeeds db contents source input row (needed ∷ more ∷ others) = ⊥

-- ---- all sources

-- the bytes of a source are held
abbrev pub HasHeldBytes : Db → List (Option ContentEntry) → Source → Type 0
HasHeldBytes db contents source = (bytes : List ℕ) × IsHeld db contents source.content (bytes_thing bytes)

module _ (builders : Meanings) (config : Config) (winners : List Winner) where
  -- the sources whose creations don't stand
  abbrev pub needed_sources : PlainTables → List Winner
  needed_sources tables = filter (λ winner. not (creation_stands builders config winners tables winner.path)) (sources config winners)

  -- a needed creation is that of this source, and its create input is held
  pub record IsNeeded (db : Db) (contents : List (Option ContentEntry)) (needed : NeededCreation) (winner : Winner) : Type 0 where
    pub of : IsSourceOf db contents needed.source.now winner
    pub input : IsHeld db contents needed.input (create_input_of builders config winners winner.path)

  -- the puts of the creations of these sources, and what is asked for them
  abbrev pub puts_of : List Winner → List Whole
  puts_of asked = map (λ winner. put_create (create_row builders config winners winner.path)) asked

  abbrev pub asked_of : List Winner → List Entry
  asked_of asked = flat_map (λ winner. creates_of builders config winners winner.path) asked

  -- its creation comes to free jobs
  abbrev pub IsFree : Winner → Type 0
  IsFree winner = AreFreeJobs (created builders (create_from builders config winners winner.path))

  module _ {D : Type 0} (seen : D → Option (List ℕ)) (may_leave : D → List ℕ → Type 0) (room : D → ℕ) where
    -- beside a ready store, creations that are needed of these sources, whose create inputs are read back
    pub record AreToPut (db : Db) (contents : List (Option ContentEntry)) (store : D × D) (stored : Stored) (needed : List NeededCreation) (asked : List Winner) : Type 0 where
      pub ready : IsReady seen may_leave room db contents store stored
      pub quiet : AreQuiet builders config winners
      pub each : AreAll (IsNeeded db contents) needed asked
      pub are : (winner : Winner) → Contains asked winner → Contains (sources config winners) winner
      pub typed : (winner : Winner) → Contains (sources config winners) winner → IsCreateInput (create_from builders config winners winner.path)
