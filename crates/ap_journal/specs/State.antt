-- A journal between its calls, and the pair that it stands for.
use Rattle.std.specs.Prelude.{◌≡◌, ◌≤◌, ◌⊎◌, ◌+◌, ℕ, Bool, false, List, ◌++◌, length, Option, Some, None, Result, Err, IfSome, IfErr, nat_lt, if◌then◌else◌}
use Rattle.ap_disk.specs.Crashes.{Only}
use Rattle.ap_journal.specs.declared.fault.JournalFault.{JournalFault}
use Rattle.ap_journal.specs.declared.fault.JournalFault.TheVariants.{OutOfMemory, DiskFault, Full, Spent}
use Rattle.ap_journal.specs.Records.{standing, size_of, IsAtRest}

-- the length of the file, its limit, how many bytes a record may have that the next append adds without taking
-- memory, whether a disk has failed, and a place to which the records were read
pub record State : Type 0 where
  pub size : ℕ
  pub limit : ℕ
  pub reserved : ℕ
  pub spent : Bool
  pub cursor : ℕ

-- so many of a file's records end at this place
pub record IsPlace (file : List ℕ) (at : ℕ) : Type 0 where
  pub before : List (List ℕ)
  pub behind : List (List ℕ)
  pub are : standing file ≡ before ++ behind
  pub here : at ≡ 16 + size_of before

-- the file is at rest, of the journal's length, and the records were read up to one of their places
pub record IsFileOf (journal : State) (file : List ℕ) : Type 0 where
  pub rests : IsAtRest file
  pub size : length file ≡ journal.size
  pub place : IsPlace file journal.cursor

-- the pair is as the journal's last call left it: there is room up to the limit, and unless a disk has failed,
-- nothing is pending, and the file is the journal's
pub record IsOf {D : Type 0} (seen : D → Option (List ℕ)) (may_leave : D → List ℕ → Type 0) (room : D → ℕ) (journal : State) (store : D × D) : Type 0 where
  pub fits : journal.limit ≤ room store.0
  pub durable : journal.spent ≡ false → Only (seen store.0) (may_leave store.0)
  pub file : journal.spent ≡ false → IfSome (seen store.0) (IsFileOf journal)

-- what an append of a payload of this length is refused with, whatever the disks do
abbrev pub refusal : State → ℕ → Option JournalFault
refusal journal count =
    if journal.spent then Some Spent
    else if nat_lt journal.limit (journal.size + (count + 5)) then Some (Full journal.size (count + 5))
    else None

-- a call is refused exactly so; where it isn't, it fails only for want of memory or with a disk
abbrev pub IsRefusedFor : {T : Type 0} → Option JournalFault → Result T JournalFault → Type 0
IsRefusedFor (Some stop) result = result ≡ Err stop
IsRefusedFor None result = IfErr result (λ stop. (stop ≡ OutOfMemory) ⊎ (stop ≡ DiskFault))

-- the length of a record's payload, where one was found with what follows it
abbrev pub length_of : {X : Type 0} → Option (List ℕ × X) → Option ℕ
length_of None = None
length_of (Some found) = Some (length found.0)
