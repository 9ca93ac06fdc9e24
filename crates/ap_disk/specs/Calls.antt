-- What the calls of a disk read and do to its file.
use Rattle.std.specs.Prelude.{◌≡◌, ◌≤◌, ◌+◌, ◌-◌, ℕ, min, List, ◌++◌, length, take, drop, replicate, Option, Some, None, Result, Ok, Err, OnOk}
use Rattle.ap_disk.specs.Crashes.{Torn, Shortened, Only}

-- the buffer begins with the file's bytes from this offset, as many as fit, and is as before behind them
abbrev pub Reads : Option (List ℕ) → ℕ → List ℕ → ℕ → List ℕ → Type 0
Reads None at old count new = count ≤ length old
Reads (Some bytes) at old count new =
    (count ≡ min (length old) (length bytes - at)) × (new ≡ take count (drop at bytes) ++ drop count old)

-- the file with these bytes at this offset; a gap before them is zeros
abbrev pub with_bytes_at : List ℕ → ℕ → List ℕ → List ℕ
with_bytes_at old at bytes = take at old ++ replicate (at - length old) 0 ++ bytes ++ drop (at + length bytes) old

-- what was told is told again, and stands so to what it was; what wasn't told still isn't
abbrev pub TellsAs : {X : Type 0} → Option X → Option X → (X → X → Type 0) → Type 0
TellsAs None None Relates = Unit {0}
TellsAs None (Some new) Relates = ⊥
TellsAs (Some old) None Relates = ⊥
TellsAs (Some old) (Some new) Relates = Relates old new

-- after a write the file has the bytes; after a failed one the range is as after a crash within it
abbrev pub Wrote : {E : Type 0} → ℕ → List ℕ → Result (Unit {0}) E → Option (List ℕ) → Option (List ℕ) → Type 0
Wrote at bytes (Ok _) old new = TellsAs old new (λ old new. new ≡ with_bytes_at old at bytes)
Wrote at bytes (Err _) old new = TellsAs old new (Torn at (length bytes))

-- after a cut the file has the bytes before the length; after a failed one it is as after a crash within it
abbrev pub WasCut : {E : Type 0} → ℕ → Result (Unit {0}) E → Option (List ℕ) → Option (List ℕ) → Type 0
WasCut len (Ok _) old new = TellsAs old new (λ old new. new ≡ take len old)
WasCut len (Err _) old new = TellsAs old new (Shortened len)

-- after a sync a crash leaves what a read gives
abbrev pub Synced : {E : Type 0} → Result (Unit {0}) E → Option (List ℕ) → (List ℕ → Type 0) → Type 0
Synced result seen outcomes = OnOk result (Only seen outcomes)
