-- Why a project can't be made of what is built so far.
use Rattle.std.specs.Prelude.{◌≡◌, ◌≢◌, ℕ, Bool, true, false, List, [], Contains}
use Rattle.ap_text.specs.declared.seen.Seen.TheVariants.{Bytes}
use Rattle.ap_config.specs.declared.config.Config.{Config}
use Rattle.ap_config.specs.declared.offer.Offer.{Offer}
use Rattle.ap_scan.specs.Winners.{Files}
use Rattle.ap_scan.specs.declared.results.Scan.{Scan}
use Rattle.ap_scan.specs.declared.results.Winner.{Winner}
use Rattle.ap_rows.specs.Jobs.{Job}
use Rattle.ap_builder.specs.Meanings.{Meanings}
use Rattle.ap_sources.specs.Sources.{matching, sources}
use Rattle.ap_create.specs.Creation.{all_jobs}
use Rattle.ap_engine.specs.Need.{is_too_large}
use Rattle.ap_engine.specs.Recorded.{IsUnfree, MakesOne}
use Rattle.ap_engine.specs.Settled.{settled}
use Rattle.ap_cli.specs.Project.{IsProject}
use Rattle.ap_cli.specs.Layout.{AreApart, files_of}
use Rattle.ap_cli.specs.ProductIds.{AreDistinct, ids_of}

-- some winner has more than 4,194,304 bytes
pub record HasTooLarge (winners : List Winner) : Type 0 where
  pub winner : Winner
  pub is : Contains winners winner
  pub large : is_too_large winner.seen ≡ true

-- some builder of a source declares a target for it
pub record IsTargeted (builders : Meanings) (config : Config) (winners : List Winner) : Type 0 where
  pub winner : Winner
  pub is : Contains (sources config winners) winner
  pub bytes : List ℕ
  pub seen : winner.seen ≡ Bytes bytes
  pub builder : Offer
  pub matches : Contains (matching config winner.path) builder
  pub declared : builders.declares builder.name winner.path bytes ≢ []

-- a winner is too large, a target is declared, a source comes to anything but jobs that depend on nothing, a job doesn't
-- make just one product, two products are in each other's way, or two of a platform have one source and sub id
pub data IsRefused (builders : Meanings) (config : Config) (winners : List Winner) : Type 0 where
  too_large : HasTooLarge winners → IsRefused builders config winners
  targeted : IsTargeted builders config winners → IsRefused builders config winners
  unfree : IsUnfree builders config winners → IsRefused builders config winners
  unmade : (job : Job) → Contains (all_jobs builders config winners) job → ¬ MakesOne builders config winners job → IsRefused builders config winners
  in_the_way : ¬ AreApart (files_of (settled builders config winners)) → IsRefused builders config winners
  of_one_id : ¬ AreDistinct (ids_of (settled builders config winners)) → IsRefused builders config winners

-- the project of the configuration at this path is refused so
pub record IsUnbuilt (builders : Meanings) (offers : List Offer) (path : List ℕ) (files : Files) : Type 0 where
  pub config : Config
  pub scan : Scan
  pub on : IsProject offers path files config scan
  pub why : IsRefused builders config scan.winners
