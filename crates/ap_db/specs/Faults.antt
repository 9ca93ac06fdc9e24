-- What a fault of the journal is to a database, and which a commit meets.
use Rattle.std.specs.Prelude.{◌≡◌, ◌⊎◌, ℕ, ◌+◌, min, nat_lt, Option, Some, None, Result, Err, IfErr, if◌then◌else◌}
use Rattle.ap_journal.specs.State.{State}
use Rattle.ap_journal.specs.declared.fault.JournalFault.{JournalFault}
use Rattle.ap_journal.specs.declared.fault.JournalFault.TheVariants as journal
use Rattle.ap_db.specs.declared.fault.DbFault.{DbFault}
use Rattle.ap_db.specs.declared.fault.DbFault.TheVariants.{OutOfMemory, DiskFault, BadStore, StoreFull, Spent}

abbrev pub db_fault_of : JournalFault → DbFault
db_fault_of journal.OutOfMemory = OutOfMemory
db_fault_of journal.DiskFault = DiskFault
db_fault_of (journal.Full length wanted) = StoreFull length wanted
db_fault_of journal.Spent = Spent
db_fault_of journal.BadHeader = BadStore 0 0

-- how many bytes a record takes whose payload has so many; 2 ^ 64 - 1 where they are more
abbrev pub size_with : ℕ → ℕ
size_with count = min (count + 5) 18446744073709551615

-- what a commit whose payload has so many bytes is refused with, whatever the disks do
abbrev pub commit_refusal : State → ℕ → Option DbFault
commit_refusal journal count =
    if journal.spent then Some Spent
    else if nat_lt journal.limit (journal.size + size_with count) then Some (StoreFull journal.size (size_with count))
    else None

-- a call is refused exactly so, or for want of memory; where it isn't, it fails only for want of memory or with a disk
abbrev pub IsRefusedFor : {T : Type 0} → Option DbFault → Result T DbFault → Type 0
IsRefusedFor (Some stop) result = (result ≡ Err stop) ⊎ (result ≡ Err OutOfMemory)
IsRefusedFor None result = IfErr result (λ stop. (stop ≡ OutOfMemory) ⊎ (stop ≡ DiskFault))
