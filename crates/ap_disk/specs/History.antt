-- What the calls of a disk in memory did, the last one first, and what of it a crash may leave.
use Rattle.std.specs.Prelude.{◌≡◌, ◌+◌, ◌-◌, ◌^◌, ◌⊎◌, ℕ, min, Bool, true, false, ◌&&◌, IsTrue, List, [], ◌∷◌, length, take, Option, Some, None, IfSome, nat_lt, nat_le, ◌==◌, if◌then◌else◌}
use Rattle.std.proofs.Common.{T, inl, subst, sym}
use Rattle.ap_disk.specs.Crashes.{Torn, Shortened, AfterStep}
use Rattle.ap_disk.specs.Calls.{with_bytes_at}

-- what a call did to the file: nothing; a write of these bytes; a failed write of so many; a cut; a failed cut; a sync
pub data Change : Type 0 where
  nothing : Change
  wrote : ℕ → List ℕ → Change
  tore : ℕ → ℕ → Change
  was_cut : ℕ → Change
  failed_cut : ℕ → Change
  synced : Change

-- a call at its moment
pub record Event : Type 0 where
  pub time : ℕ
  pub change : Change

-- the file after a call
abbrev pub changed : Change → List ℕ → List ℕ
changed nothing file = file
changed (wrote at bytes) file = with_bytes_at file at bytes
changed (tore at count) file = file
changed (was_cut len) file = take len file
changed (failed_cut len) file = file
changed synced file = file

-- what a crash within a call may leave, by what it could leave before
abbrev pub within : Change → (List ℕ → Type 0) → List ℕ → Type 0
within nothing before = before
within (wrote at bytes) before = AfterStep (Torn at (length bytes)) before
within (tore at count) before = AfterStep (Torn at count) before
within (was_cut len) before = AfterStep (Shortened len) before
within (failed_cut len) before = AfterStep (Shortened len) before
within synced before = before

-- what else than the file a crash after a call may leave: after a sync nothing
abbrev pub left_open : Change → (List ℕ → Type 0) → List ℕ → Type 0
left_open nothing before = before
left_open (wrote at bytes) before = AfterStep (Torn at (length bytes)) before
left_open (tore at count) before = AfterStep (Torn at count) before
left_open (was_cut len) before = AfterStep (Shortened len) before
left_open (failed_cut len) before = AfterStep (Shortened len) before
left_open synced before = λ c. ⊥

-- the file after these calls
abbrev pub file_after : List ℕ → List Event → List ℕ
file_after first [] = first
file_after first (event ∷ older) = changed event.change (file_after first older)

-- what a crash after these calls may leave: the file, or what they left open
abbrev pub leaves_after : List ℕ → List Event → List ℕ → Type 0
leaves_after first [] c = c ≡ first
leaves_after first (event ∷ older) c = (c ≡ file_after first (event ∷ older)) ⊎ left_open event.change (leaves_after first older) c

-- what a crash at a moment may have left: before the last call what the earlier ones say, and else what it left, or within it could leave
abbrev pub left_within : List ℕ → List Event → ℕ → List ℕ → Type 0
left_within first [] t c = c ≡ first
left_within first (event ∷ older) t c =
    (nat_le event.time t ≡ false → left_within first older t c)
    × (nat_le event.time t ≡ true → leaves_after first (event ∷ older) c ⊎ ((t ≡ event.time) × within event.change (leaves_after first older) c))

-- the moments of the calls rise, all of them before this one
abbrev pub rises_below : ℕ → List Event → Bool
rises_below bound [] = true
rises_below bound (event ∷ older) = nat_lt event.time bound && rises_below event.time older

-- the moments of the calls rise up to this one
abbrev pub rises_to : ℕ → List Event → Bool
rises_to now [] = true
rises_to now (event ∷ older) = nat_le event.time now && rises_below event.time older

-- where the range of a write ends
abbrev pub end_of : Change → ℕ
end_of nothing = 0
end_of (wrote at bytes) = at + length bytes
end_of (tore at count) = at + count
end_of (was_cut len) = 0
end_of (failed_cut len) = 0
end_of synced = 0

-- all writes are within the room
abbrev pub all_fit : ℕ → List Event → Bool
all_fit room [] = true
all_fit room (event ∷ older) = nat_le (end_of event.change) room && all_fit room older

-- the clock is told below its last value
abbrev pub clock_of : ℕ → Option ℕ
clock_of time = if nat_lt time (2 ^ 64 - 1) then Some time else None

-- the moment after this one, up to the last value of the clock
abbrev pub next_moment : ℕ → ℕ
next_moment time = min (time + 1) (2 ^ 64 - 1)

-- a call that leaves the file as it is
abbrev pub IsStill : Change → Type 0
IsStill nothing = Unit {0}
IsStill (wrote at bytes) = ⊥
IsStill (tore at count) = Unit {0}
IsStill (was_cut len) = ⊥
IsStill (failed_cut len) = Unit {0}
IsStill synced = Unit {0}

-- the call was recorded, or there was no place for it
abbrev pub Recorded : ℕ → Change → List Event → List Event → Type 0
Recorded time change old new = (new ≡ record { time = time; change = change } ∷ old) ⊎ (new ≡ old)

-- where the clock is told, the moments of the calls rise up to it
abbrev pub RisesTo : Option ℕ → List Event → Type 0
RisesTo clock log = IfSome clock (λ now. IsTrue (rises_to now log))

-- an image from another after a call: torn in the range of a write, and cut where it was or may have been
abbrev pub Tears : Change → List ℕ → List ℕ → Type 0
Tears nothing old new = new ≡ old
Tears (wrote at bytes) old new = Torn at (length bytes) old new
Tears (tore at count) old new = Torn at count old new
Tears (was_cut len) old new = Shortened len old new
Tears (failed_cut len) old new = Shortened len old new
Tears synced old new = new ≡ old

-- the same once the call is over: a sync leaves the file
abbrev pub TearsTo : Change → List ℕ → List ℕ → List ℕ → Type 0
TearsTo nothing file old new = new ≡ old
TearsTo (wrote at bytes) file old new = Torn at (length bytes) old new
TearsTo (tore at count) file old new = Torn at count old new
TearsTo (was_cut len) file old new = Shortened len old new
TearsTo (failed_cut len) file old new = Shortened len old new
TearsTo synced file old new = new ≡ file

-- the moments of the calls rise up to some moment
abbrev pub Rises : List Event → Type 0
Rises log = (now : ℕ) × IsTrue (rises_to now log)

-- the moment of the n-th call, counted from the oldest, from 1 on
abbrev pub moment_of : List Event → ℕ → Option ℕ
moment_of [] n = None
moment_of (event ∷ older) n = if length older + 1 == n then Some event.time else moment_of older n

-- ---- laws

-- the file is one of the images of now
pub itself_of : (first : List ℕ) (log : List Event) (file : List ℕ) → file ≡ file_after first log → leaves_after first log file
itself_of first [] file is = is
itself_of first (event ∷ older) file is = inl is

head_true : (a b : Bool) → IsTrue (a && b) → a ≡ false → ⊥
head_true true b both is = subst T is tt
head_true false b both is = subst T (sym both) tt

-- the images of now are images of the last moment
pub last_of : (first : List ℕ) (log : List Event) (clock : Option ℕ) → RisesTo clock log → IfSome clock (λ now. (c : List ℕ) → leaves_after first log c → left_within first log now c)
last_of first log None rises = tt
last_of first [] (Some now) rises = λ c left. left
last_of first (event ∷ older) (Some now) rises = λ c left. ((λ before. absurd (head_true _ _ rises before)), λ since. inl left)
