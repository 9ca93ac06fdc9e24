-- The configuration and the scan of a run.
use Rattle.std.specs.Prelude.{◌≡◌, ◌≤◌, ℕ, List, length, Result, Ok, Err}
use Rattle.ap_text.specs.declared.seen.Seen.{Seen}
use Rattle.ap_text.specs.declared.seen.Seen.TheVariants.{Bytes, Absent, TooLarge}
use Rattle.ap_text.specs.declared.seen.Which.{Which}
use Rattle.ap_tree.specs.Files.{content_at, seen_up_to}
use Rattle.ap_config.specs.Configuration.{config_read}
use Rattle.ap_config.specs.declared.config.Config.{Config}
use Rattle.ap_config.specs.declared.fault.ConfigFault.{ConfigFault}
use Rattle.ap_config.specs.declared.offer.Offer.{Offer}
use Rattle.ap_scan.specs.Limits.{bytes_of, Passes}
use Rattle.ap_scan.specs.Winners.{Files, AreWinners, AreHidden, AreOdd}
use Rattle.ap_scan.specs.declared.results.Scan.{Scan}
use Rattle.ap_scan.specs.declared.results.Winner.{Winner}
use Rattle.ap_cli.specs.declared.other_files.OtherFiles.{OtherFiles}
use Rattle.ap_cli.specs.declared.unconfigured.Unconfigured.{Unconfigured}
use Rattle.ap_cli.specs.declared.unconfigured.Unconfigured.TheVariants.{NoFile, LargeFile, Refused}

abbrev pub or_refused : Result Config ConfigFault → Result Config Unconfigured
or_refused (Ok config) = Ok config
or_refused (Err fault) = Err (Refused fault)

-- what a file says as a configuration, or why it says none
abbrev pub config_in : List Offer → Seen → Result Config Unconfigured
config_in offers (Bytes text) = or_refused (config_read text offers)
config_in offers Absent = Err NoFile
config_in offers TooLarge = Err LargeFile

-- what the file at a path says
abbrev pub config_at : List Offer → List ℕ → Files → Result Config Unconfigured
config_at offers path files = config_in offers (seen_up_to 4194304 (content_at files path))

-- the configuration that the file at the path says, and its winners, hidden files and odd names, which pass no limit
pub record IsProject (offers : List Offer) (path : List ℕ) (files : Files) (config : Config) (scan : Scan) : Type 0 where
  pub configured : config_at offers path files ≡ Ok config
  pub winners : AreWinners config files scan.winners
  pub hidden : AreHidden config files scan.hidden
  pub odd : AreOdd config files scan.odd
  pub few : length scan.winners ≤ 20000
  pub small : bytes_of scan.winners ≤ 268435456

-- the file at the path says a configuration whose winners pass no limit
abbrev pub HasProject : List Offer → List ℕ → Files → Type 0
HasProject offers path files = (config : Config) × (scan : Scan) × IsProject offers path files config scan

-- the configuration's winners pass this limit first, and this is what passes it
pub record IsOver (offers : List Offer) (path : List ℕ) (files : Files) (which : Which) (count : ℕ) : Type 0 where
  pub config : Config
  pub configured : config_at offers path files ≡ Ok config
  pub winners : List Winner
  pub are : AreWinners config files winners
  pub passes : Passes winners which count

-- the hidden files and the odd names of a scan
abbrev pub others_of : Scan → OtherFiles
others_of scan = record { hidden = scan.hidden; odd = scan.odd }
