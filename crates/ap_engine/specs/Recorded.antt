-- Creations that tables record as they are.
use Rattle.std.specs.Prelude.{◌≡◌, ℕ, not, List, [], filter, Option, Some, Contains}
use Rattle.ap_text.specs.declared.seen.Seen.TheVariants.{Bytes}
use Rattle.ap_content.specs.Entries.{Entry}
use Rattle.ap_config.specs.declared.config.Config.{Config}
use Rattle.ap_scan.specs.declared.results.Winner.{Winner}
use Rattle.ap_rows.specs.Jobs.{Job}
use Rattle.ap_builder.specs.Meanings.{Meanings}
use Rattle.ap_builder.specs.Paths.{IsShort}
use Rattle.ap_builder.specs.Views.{job_view}
use Rattle.ap_db.specs.declared.db.Db.{Db}
use Rattle.ap_db.specs.Tables.{PlainCreate, PlainTables}
use Rattle.ap_db.specs.Changes.{create_row_at}
use Rattle.ap_sources.specs.Sources.{sources}
use Rattle.ap_create.specs.Creation.{create_from, created, all_jobs}
use Rattle.ap_engine.specs.declared.source.Source.{Source}
use Rattle.ap_engine.specs.Verdict.{made_from}
use Rattle.ap_engine.specs.Need.{job_stands}
use Rattle.ap_engine.specs.Interned.{AreSourcesOf}
use Rattle.ap_engine.specs.Worlds.{AreQuiet, AreFreeJobs}
use Rattle.ap_engine.specs.NeededJobs.{IsOneProduct}

-- the row of a source's creation has what is created from it
pub record IsRecorded (builders : Meanings) (config : Config) (winners : List Winner) (tables : PlainTables) (winner : Winner) : Type 0 where
  pub row : PlainCreate
  pub there : create_row_at tables winner.path ≡ Some row
  pub same : row.created ≡ created builders (create_from builders config winners winner.path)

-- that of each source
abbrev pub AreRecorded : Meanings → Config → List Winner → PlainTables → Type 0
AreRecorded builders config winners tables = (winner : Winner) → Contains (sources config winners) winner → IsRecorded builders config winners tables winner

-- the sources are held beside the database, and their bytes are few enough to be counted by four bytes
pub record AreThere (builders : Meanings) (config : Config) (winners : List Winner) (db : Db) (contents : List (Option Entry)) (found : List Source) : Type 0 where
  pub quiet : AreQuiet builders config winners
  pub short : (winner : Winner) → Contains (sources config winners) winner → (bytes : List ℕ) → winner.seen ≡ Bytes bytes → IsShort bytes
  pub sources : AreSourcesOf db contents found (sources config winners)

-- the jobs whose results don't stand, by job id
abbrev pub open_jobs : Meanings → Config → List Winner → PlainTables → List Job
open_jobs builders config winners tables = filter (λ job. not (job_stands builders config winners tables job)) (all_jobs builders config winners)

-- the builder of a job makes just one product of it
abbrev pub MakesOne : Meanings → Config → List Winner → Job → Type 0
MakesOne builders config winners job = IsOneProduct (builders.makes (job_view (made_from builders config winners job [])))

-- a source came to anything but jobs that depend on nothing
pub record IsUnfree (builders : Meanings) (config : Config) (winners : List Winner) : Type 0 where
  pub winner : Winner
  pub is : Contains (sources config winners) winner
  pub other : ¬ AreFreeJobs (created builders (create_from builders config winners winner.path))

-- a builder makes anything but one product of a job whose result doesn't stand
pub record IsUnmade (builders : Meanings) (config : Config) (winners : List Winner) (tables : PlainTables) : Type 0 where
  pub job : Job
  pub is : Contains (open_jobs builders config winners tables) job
  pub other : ¬ MakesOne builders config winners job
