-- How many winners there may be, and how many bytes of them, and what a scan answers.
use Rattle.std.specs.Prelude.{◌≡◌, ◌≢◌, ◌<◌, ◌≤◌, ◌+◌, ℕ, List, [], ◌∷◌, length, map, nat_le, Option, Some, None, Result, Ok, Err, if◌then◌else◌}
use Rattle.std.specs.List.{AllByRecursion, sum_by}
use Rattle.std.specs.List.Sorted.{IsStrictlySortedBy}
use Rattle.std.specs.Str.{str_to_ascii_lowercase}
use Rattle.ap_text.specs.declared.seen.Seen.{Seen}
use Rattle.ap_text.specs.declared.seen.Seen.TheVariants.{Bytes, Absent, TooLarge}
use Rattle.ap_text.specs.declared.seen.Which.{Which}
use Rattle.ap_config.specs.declared.config.Config.{Config}
use Rattle.ap_scan.specs.declared.results.Scan.{Scan}
use Rattle.ap_scan.specs.declared.results.Winner.{Winner}
use Rattle.ap_scan.specs.declared.fault.ScanFault.{ScanFault}
use Rattle.ap_scan.specs.declared.fault.ScanFault.TheVariants.{Limit, TreeFault, OutOfMemory}
use Rattle.ap_scan.specs.Winners.{Files, AreWinners, AreHidden, AreOdd, winner_cmp, hidden_cmp, odd_cmp}

-- how many bytes of a file are read
abbrev pub size_of : Seen → ℕ
size_of (Bytes bytes) = length bytes
size_of Absent = 0
size_of TooLarge = 0

-- the sum of the bytes where it first passes 268,435,456, on from a sum
abbrev pub first_over : ℕ → List Seen → Option ℕ
first_over before [] = None
first_over before (seen ∷ others) =
    if nat_le (before + size_of seen) 268435456 then first_over (before + size_of seen) others else Some (before + size_of seen)

abbrev pub all_seen : List Winner → List Seen
all_seen winners = map (λ winner. winner.seen) winners

abbrev pub bytes_of : List Winner → ℕ
bytes_of = sum_by (λ winner. size_of winner.seen)

-- the limit that the winners pass first, their number or their bytes, and what passes it
abbrev pub Passes : List Winner → Which → ℕ → Type 0
Passes winners (Which.Files) count = (20000 < length winners) × (count ≡ length winners)
Passes winners (Which.Bytes) count = (length winners ≤ 20000) × (first_over 0 (all_seen winners) ≡ Some count)
Passes winners which count = ⊥

-- a scan has all winners, hidden files and odd names, where the winners pass no limit; a limit comes where they do
abbrev pub Scans : Config → Files → Result Scan ScanFault → Type 0
Scans config files (Ok scan) = AreWinners config files scan.winners × AreHidden config files scan.hidden × AreOdd config files scan.odd
Scans config files (Err (Limit which count)) = (winners : List Winner) × AreWinners config files winners × Passes winners which count
Scans config files (Err TreeFault) = Unit {0}
Scans config files (Err OutOfMemory) = Unit {0}

-- a winner that was there, under its folded name
pub record IsThere (winner : Winner) : Type 0 where
  pub folds : winner.path ≡ str_to_ascii_lowercase winner.name
  pub there : winner.seen ≢ Absent

-- what holds of the winners of each scan, whatever the tree
pub record AreLawful (winners : List Winner) : Type 0 where
  pub rises : IsStrictlySortedBy winner_cmp winners
  pub there : AllByRecursion IsThere winners
  pub few : length winners ≤ 20000
  pub small : bytes_of winners ≤ 268435456

-- what holds of each scan, whatever the tree
pub record IsLawful (scan : Scan) : Type 0 where
  pub winners : AreLawful scan.winners
  pub hidden_rise : IsStrictlySortedBy hidden_cmp scan.hidden
  pub odd_rise : IsStrictlySortedBy odd_cmp scan.odd

-- what a limit counted passes it
abbrev pub IsPassed : ScanFault → Type 0
IsPassed (Limit (Which.Files) count) = 20000 < count
IsPassed (Limit (Which.Bytes) count) = 268435456 < count
IsPassed (Limit which count) = ⊥
IsPassed TreeFault = Unit {0}
IsPassed OutOfMemory = Unit {0}

-- the limit, if one is passed, is that of the bytes
abbrev pub IsPassedBytes : ScanFault → Type 0
IsPassedBytes (Limit (Which.Bytes) count) = 268435456 < count
IsPassedBytes (Limit which count) = ⊥
IsPassedBytes TreeFault = Unit {0}
IsPassedBytes OutOfMemory = Unit {0}
