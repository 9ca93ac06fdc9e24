-- What was read of a file.
use Rattle.std.specs.Prelude.{◌≡◌, ℕ, List, Option, Result, Ok, Err, IfSome}
use Rattle.ap_journal.specs.Records.{standing}
use Rattle.ap_db.specs.declared.reading.Reading.{Reading}
use Rattle.ap_db.specs.Stored.{Stored, nothing_stored, Fault, after_payloads, stored_in}
use Rattle.ap_db.specs.Payloads.{Reads}

-- what is stored after a file's records, or their first fault
abbrev pub after_records : List ℕ → Result Stored Fault
after_records file = after_payloads 1 nothing_stored (standing file)

-- the records' first fault is at this offset of the record of this number
abbrev pub HasBadRecord : ℕ → ℕ → List ℕ → Type 0
HasBadRecord place offset file = after_records file ≡ Err (record { place = place; offset = offset })

-- the file's first fault is at this offset of the record of this number, or is its header
abbrev pub IsBadStore : ℕ → ℕ → List ℕ → Type 0
IsBadStore place offset file = stored_in file ≡ Err (record { place = place; offset = offset })

-- what was read stands for the records of the file
abbrev pub ReadsAll : Reading → Option (List ℕ) → Type 0
ReadsAll reading told = (stored : Stored) × Reads reading stored × IfSome told (λ file. after_records file ≡ Ok stored)

-- what was read stands for the file
abbrev pub ReadsFile : Reading → Option (List ℕ) → Type 0
ReadsFile reading told = (stored : Stored) × Reads reading stored × IfSome told (λ file. stored_in file ≡ Ok stored)
