-- What the steps of a journal do to the bytes of its file.
use Rattle.std.specs.Prelude.{◌≡◌, ◌≤◌, ◌<◌, ◌⊎◌, ◌+◌, ◌^◌, ℕ, List, [], ◌∷◌, ◌++◌, length, take, drop, true}
use Rattle.std.specs.Int.{w32, to_be_bytes}
use Rattle.ap_journal.specs.Records.{standing, end_of, is_marked, IsStoreOf, IsAtRest}

-- a file that begins with the old one, and has at most so many bytes more
pub record Extends (old : List ℕ) (count : ℕ) (new : List ℕ) : Type 0 where
  pub begins : take (length old) new ≡ old
  pub no_longer : length new ≤ length old + count

-- the file with another byte at an offset
abbrev pub with_byte : List ℕ → ℕ → ℕ → List ℕ
with_byte old at byte = take at old ++ byte ∷ drop (at + 1) old

-- some byte stands at the offset, and the rest is as before
abbrev pub HasSomeByteAt : List ℕ → ℕ → List ℕ → Type 0
HasSomeByteAt old at new = (byte : ℕ) × (new ≡ with_byte old at byte)

-- what a commit writes behind the closed gate: the length, the payload and the next gate, closed
abbrev pub frame : List ℕ → List ℕ
frame payload = to_be_bytes w32 (length payload) ++ (payload ++ 0 ∷ [])

-- the file has so many bytes, is at rest, and has the records of the old one
pub record IsCleaned (size : ℕ) (old new : List ℕ) : Type 0 where
  pub rests : IsAtRest new
  pub same : standing new ≡ standing old
  pub long : length new ≡ size

-- a marked file of this size, whose records end here, before the file does
pub record EndsAt (end size : ℕ) (file : List ℕ) : Type 0 where
  pub ends : end ≡ end_of file
  pub long : length file ≡ size
  pub before : end < size
  pub marked : is_marked file ≡ true

-- with the frame of a payload committed, the file is at rest, with the payload as one more record
abbrev pub IsCommitted : List ℕ → List ℕ → List ℕ → Type 0
IsCommitted bytes old new = (payload : List ℕ) → length payload < 2 ^ 32 → bytes ≡ frame payload
    → IsAtRest new × (standing new ≡ standing old ++ payload ∷ []) × (length new ≡ length old + 5 + length payload)

-- while it is committed, the file has the records of before, or these with one more
abbrev pub IsWithinCommit : List ℕ → List ℕ → List ℕ → Type 0
IsWithinCommit bytes c old = (payload : List ℕ) → length payload < 2 ^ 32 → bytes ≡ frame payload
    → IsStoreOf (standing old) c ⊎ IsStoreOf (standing old ++ payload ∷ []) c
