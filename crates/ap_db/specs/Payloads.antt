-- What was read of a file's records, item by item and payload by payload.
use Rattle.std.specs.Prelude.{◌≡◌, ℕ, List, Some, None, Ok, Err}
use Rattle.ap_db.specs.declared.reading.Reading.{Reading}
use Rattle.ap_db.specs.Stored.{Stored, first_step, after_payload}
use Rattle.ap_db.specs.WellStored.{IsWellStored}
use Rattle.ap_db.specs.Replaying.{Replays}

-- what is read stands for what is stored, which some records left
pub record Reads (reading : Reading) (stored : Stored) : Type 0 where
  pub replays : Replays reading.replay reading.contents stored
  pub well : IsWellStored stored

abbrev pub IsReading : Reading → Type 0
IsReading reading = (stored : Stored) × Reads reading stored

-- the item that begins the bytes was lawful, and is taken; these bytes are behind it
abbrev pub TakesItem : Reading → Reading → List ℕ → List ℕ → Type 0
TakesItem old new bytes after = (stored : Stored) → Reads old stored → (next : Stored) × (first_step stored bytes ≡ Some (next, after)) × Reads new next

-- no lawful item begins the bytes
abbrev pub RefusesItem : Reading → List ℕ → Type 0
RefusesItem old bytes = (stored : Stored) → Reads old stored → first_step stored bytes ≡ None

-- the payload's items are lawful one after another, and taken
abbrev pub TakesPayload : Reading → Reading → List ℕ → Type 0
TakesPayload old new payload = (stored : Stored) → Reads old stored → (next : Stored) × (after_payload stored payload ≡ Ok next) × Reads new next

-- the item at this offset is the first that is outside the grammar or not lawful
abbrev pub RefusesPayload : Reading → List ℕ → ℕ → Type 0
RefusesPayload old payload offset = (stored : Stored) → Reads old stored → after_payload stored payload ≡ Err offset
