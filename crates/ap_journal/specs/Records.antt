-- The records that stand in a file.
use Rattle.std.specs.Prelude.{◌≡◌, ℕ, zero, suc, ◌+◌, Bool, true, false, not, List, [], ◌∷◌, length, take, drop, Option, Some, None, ◌==◌, ◌&&◌, nat_lt, bytes_eq, codes, if◌then◌else◌}
use Rattle.std.specs.Int.{w32, from_be_bytes}

-- a payload, and what follows it from the next gate on, where a further byte lies behind the payload
abbrev pub split_payload : ℕ → List ℕ → Option (List ℕ × List ℕ)
split_payload count bytes = if nat_lt count (length bytes) then Some (take count bytes, drop count bytes) else None

-- the record at the head of these bytes: an open gate, a length in four bytes, so many bytes, and the next gate behind them
unfoldable pub first_record : List ℕ → Option (List ℕ × List ℕ)
first_record (gate ∷ a ∷ b ∷ c ∷ d ∷ rest) =
    if gate == 1 then split_payload (from_be_bytes w32 (a ∷ b ∷ c ∷ d ∷ [])) rest else None
first_record short = None

-- a record and those behind it
abbrev pub with_others : (List ℕ → List (List ℕ)) → Option (List ℕ × List ℕ) → List (List ℕ)
with_others others None = []
with_others others (Some found) = found.0 ∷ others found.1

-- the records at the head of these bytes up to the first that doesn't stand, at most so many
unfoldable pub records_up_to : ℕ → List ℕ → List (List ℕ)
records_up_to zero bytes = []
records_up_to (suc most) bytes = with_others (records_up_to most) (first_record bytes)

-- the payloads of the records at the head of these bytes up to the first that doesn't stand
unfoldable pub records : List ℕ → List (List ℕ)
records bytes = records_up_to (length bytes) bytes

-- the payloads of the records that stand in a file, behind its header of 16 bytes
abbrev pub standing : List ℕ → List (List ℕ)
standing file = records (drop 16 file)

-- how many bytes these records take: each a gate, the length and the payload
abbrev pub size_of : List (List ℕ) → ℕ
size_of [] = 0
size_of (payload ∷ others) = 5 + length payload + size_of others

-- where the standing records of a file end: there is the gate that follows the last of them
abbrev pub end_of : List ℕ → ℕ
end_of file = 16 + size_of (standing file)

-- the record at an offset, and the offset of the next, where the first of these records is at `start`
abbrev pub record_from : List (List ℕ) → ℕ → ℕ → Option (List ℕ × ℕ)
record_from [] start at = None
record_from (payload ∷ others) start at =
    if start == at then Some (payload, start + 5 + length payload) else record_from others (start + 5 + length payload) at

-- the record that stands at an offset of a file, and the offset of the next
abbrev pub record_at : List ℕ → ℕ → Option (List ℕ × ℕ)
record_at file at = record_from (standing file) 16 at

-- ---- the header

-- a file begins with the known mark
abbrev pub is_marked : List ℕ → Bool
is_marked file = bytes_eq (take 8 file) (codes "APSTORE1")

-- there is a record
abbrev pub is_some_record : List (List ℕ) → Bool
is_some_record [] = false
is_some_record (payload ∷ others) = true

-- a standing record lies in a file with another mark
abbrev pub has_bad_header : List ℕ → Bool
has_bad_header file = is_some_record (standing file) && not (is_marked file)

-- ---- stores

-- a file is a store of these records
pub record IsStoreOf (payloads : List (List ℕ)) (file : List ℕ) : Type 0 where
  pub stands_for : standing file ≡ payloads
  pub header : has_bad_header file ≡ false

-- a file stands for the same records under as good a header
pub record IsSameStore (old new : List ℕ) : Type 0 where
  pub same : standing new ≡ standing old
  pub header : has_bad_header new ≡ has_bad_header old

-- the file ends with the closed gate that follows its standing records, and begins with the mark
pub record IsAtRest (file : List ℕ) : Type 0 where
  pub closed : drop (end_of file) file ≡ 0 ∷ []
  pub marked : is_marked file ≡ true
