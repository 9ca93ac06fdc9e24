-- The projects that a run settles today: sources with bytes that name nothing, each with jobs that depend on nothing.
use Rattle.std.specs.Prelude.{◌≡◌, ℕ, true, List, [], Contains}
use Rattle.std.specs.List.{AllByRecursion}
use Rattle.std.specs.List.Sorted.{IsStrictlySortedBy}
use Rattle.std.specs.Ordering.{on}
use Rattle.ap_text.specs.Order.{bytes_cmp}
use Rattle.ap_text.specs.declared.seen.Seen.TheVariants.{Bytes}
use Rattle.ap_config.specs.declared.config.Config.{Config}
use Rattle.ap_scan.specs.declared.results.Winner.{Winner}
use Rattle.ap_rows.specs.declared.job.JobDesc.{JobDesc}
use Rattle.ap_rows.specs.declared.job.Created.{Created}
use Rattle.ap_rows.specs.declared.job.Created.TheVariants.{Jobs}
use Rattle.ap_rows.specs.Readers.{is_folded}
use Rattle.ap_rows.specs.InputRanges.{IsCreateInput, IsJobInput}
use Rattle.ap_rows.specs.Jobs.{Job}
use Rattle.ap_builder.specs.Meanings.{Meanings}
use Rattle.ap_sources.specs.Sources.{sources, targets}
use Rattle.ap_create.specs.Creation.{create_from, created, all_jobs}
use Rattle.ap_engine.specs.Verdict.{made_from}

-- a winner is seen with bytes
pub record IsRead (winner : Winner) : Type 0 where
  pub bytes : List ℕ
  pub seen : winner.seen ≡ Bytes bytes

-- a creation came to jobs that depend on nothing
pub record AreFreeJobs (created : Created) : Type 0 where
  pub jobs : List JobDesc
  pub are : created ≡ Jobs jobs
  pub free : AllByRecursion (λ job. job.deps ≡ []) jobs

-- the winners rise by path, each is read, their paths are folded, and no source names anything
pub record AreQuiet (builders : Meanings) (config : Config) (winners : List Winner) : Type 0 where
  pub rise : IsStrictlySortedBy (on (λ winner. winner.path) bytes_cmp) winners
  pub read : (winner : Winner) → Contains winners winner → IsRead winner
  pub folded : (winner : Winner) → Contains winners winner → is_folded winner.path ≡ true
  pub untargeted : (winner : Winner) → Contains (sources config winners) winner → targets builders config winners winner.path ≡ []

-- each source has jobs that depend on nothing
abbrev pub AreFree : Meanings → Config → List Winner → Type 0
AreFree builders config winners = (winner : Winner) → Contains (sources config winners) winner
    → AreFreeJobs (created builders (create_from builders config winners winner.path))

-- what creations are made from has names, paths and numbers in their ranges, so that it is read back
abbrev pub AreCreateInputs : Meanings → Config → List Winner → Type 0
AreCreateInputs builders config winners = (winner : Winner) → Contains (sources config winners) winner → IsCreateInput (create_from builders config winners winner.path)

-- and so has what jobs are made from
abbrev pub AreJobInputs : Meanings → Config → List Winner → Type 0
AreJobInputs builders config winners = (job : Job) → Contains (all_jobs builders config winners) job → IsJobInput (made_from builders config winners job [])

-- both have
pub record IsTyped (builders : Meanings) (config : Config) (winners : List Winner) : Type 0 where
  pub creations : AreCreateInputs builders config winners
  pub jobs : AreJobInputs builders config winners
