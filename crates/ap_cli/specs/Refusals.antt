-- The status and the line of each refusal.
use Rattle.std.specs.Prelude.{◌≡◌, ◌⊎◌, ℕ, List, [], ◌∷◌, ◌++◌, Option, codes, decimal}
use Rattle.ap_text.specs.declared.seen.Which.{Which}
use Rattle.ap_tree.specs.Written.{Gains}
use Rattle.ap_config.specs.Faults.{fault_words}
use Rattle.ap_scan.specs.declared.fault.ScanFault.{ScanFault}
use Rattle.ap_scan.specs.declared.fault.ScanFault.TheVariants.{TreeFault, Limit as ScanLimit, OutOfMemory as ScanMemory}
use Rattle.ap_db.specs.declared.fault.DbFault.{DbFault}
use Rattle.ap_db.specs.declared.fault.DbFault.TheVariants.{OutOfMemory, DiskFault, BadStore as BadDb, StoreFull, Spent}
use Rattle.ap_engine.specs.declared.fault.EngineFault.{EngineFault}
use Rattle.ap_engine.specs.declared.fault.EngineFault.TheVariants.{Db, Unbuilt as EngineUnbuilt}
use Rattle.ap_cli.specs.Output.{GainsFront}
use Rattle.ap_cli.specs.declared.stop.Stop.{Stop}
use Rattle.ap_cli.specs.declared.stop.Stop.TheVariants.{Usage, Configuration, Tree, Cache, Disk, Output, Memory, BadStore, Limit, Full, Unbuilt}
use Rattle.ap_cli.specs.declared.unconfigured.Unconfigured.{Unconfigured}
use Rattle.ap_cli.specs.declared.unconfigured.Unconfigured.TheVariants.{NoFile, LargeFile, Refused}

abbrev pub status_of : Stop → ℕ
status_of Usage = 2
status_of (Configuration why) = 3
status_of Tree = 4
status_of Cache = 5
status_of Disk = 6
status_of Output = 7
status_of Memory = 8
status_of (BadStore place offset) = 9
status_of (Limit which count) = 10
status_of (Full length wanted) = 11
status_of Unbuilt = 13

-- why there is no configuration
abbrev pub unconfigured_words : Unconfigured → List ℕ
unconfigured_words NoFile = codes "absent"
unconfigured_words LargeFile = codes "too large"
unconfigured_words (Refused fault) = fault_words fault

-- what is counted against a limit
abbrev pub counted_words : Which → List ℕ
counted_words (Which.Files) = codes "files "
counted_words (Which.Bytes) = codes "bytes "
counted_words (Which.Jobs) = codes "jobs "
counted_words (Which.ProductBytes) = codes "product bytes "
counted_words (Which.Tickets) = codes "tickets "

-- the line that is written; none for a fault of the sink
abbrev pub refusal_line : Stop → List ℕ
refusal_line Usage = codes "ap: usage: ap batch CONFIG [--jobs N], ap serve CONFIG PORT, ap catalog PLATFORM ASSET, ap soak N" ++ 10 ∷ []
refusal_line (Configuration why) = codes "ap: configuration: " ++ (unconfigured_words why ++ codes "\n")
refusal_line Tree = codes "ap: tree fault" ++ 10 ∷ []
refusal_line Cache = codes "ap: cache fault" ++ 10 ∷ []
refusal_line Disk = codes "ap: disk fault" ++ 10 ∷ []
refusal_line Output = []
refusal_line Memory = codes "ap: out of memory" ++ 10 ∷ []
refusal_line (BadStore place offset) = codes "ap: bad store: record " ++ (decimal place ++ (codes " offset " ++ (decimal offset ++ codes "\n")))
refusal_line (Limit which count) = codes "ap: limit: " ++ (counted_words which ++ (decimal count ++ codes "\n"))
refusal_line (Full length wanted) = codes "ap: store full: length " ++ (decimal length ++ (codes " wanted " ++ (decimal wanted ++ codes "\n")))
refusal_line Unbuilt = codes "ap: unbuilt" ++ 10 ∷ []

-- what a refusal of the database makes of a run; a disk of one that is spent has failed before
abbrev pub of_db : DbFault → Stop
of_db OutOfMemory = Memory
of_db DiskFault = Disk
of_db (BadDb place offset) = BadStore place offset
of_db (StoreFull length wanted) = Full length wanted
of_db Spent = Disk

-- one of a scan
abbrev pub of_scan : ScanFault → Stop
of_scan TreeFault = Tree
of_scan (ScanLimit which count) = Limit which count
of_scan ScanMemory = Memory

-- and one of the engine
abbrev pub of_engine : EngineFault → Stop
of_engine (Db fault) = of_db fault
of_engine EngineUnbuilt = Unbuilt

-- a refusal of this status, for a reason with this cause, has written its line, whole or, where the sink's count rose, a front of it
pub record Refuses (status : ℕ) (before now : Option (List ℕ)) (Rose : Type 0) (IsCaused : Stop → Type 0) : Type 0 where
  pub stop : Stop
  pub status_is : status ≡ status_of stop
  pub caused : IsCaused stop
  pub front : GainsFront before now (refusal_line stop)
  pub whole : Gains before now (refusal_line stop) ⊎ Rose
