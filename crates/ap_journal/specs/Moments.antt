-- What a run of calls on a pair of disks leaves of its images at each moment.
use Rattle.std.specs.Prelude.{◌≡◌, ◌≤◌, ◌<◌, ◌⊎◌, ◌+◌, ℕ, List, Option, Some, None}

-- from a moment on to another: earlier moments keep their images, and each image of a later one has P
pub record Elapsed (before after : ℕ → List ℕ → Type 0) (P : List ℕ → Type 0) (was now : ℕ) : Type 0 where
  pub later : was ≤ now
  pub earlier : (t : ℕ) (c : List ℕ) → t ≤ was → after t c → before t c
  pub kept : (t : ℕ) (c : List ℕ) → t ≤ was → before t c → after t c
  pub since : (t : ℕ) (c : List ℕ) → was < t → t ≤ now → after t c → P c

-- the same where the first call's images are apart: they have First, and those of the later moments P
pub record Began (before after : ℕ → List ℕ → Type 0) (First P : List ℕ → Type 0) (was now : ℕ) : Type 0 where
  pub later : was < now
  pub earlier : (t : ℕ) (c : List ℕ) → t ≤ was → after t c → before t c
  pub kept : (t : ℕ) (c : List ℕ) → t ≤ was → before t c → after t c
  pub first : (c : List ℕ) → after (was + 1) c → First c
  pub since : (t : ℕ) (c : List ℕ) → was + 1 < t → t ≤ now → after t c → P c

-- where a clock is told at the end it was told before, and stands so to what it was
abbrev pub BetweenClocks : Option ℕ → Option ℕ → (ℕ → ℕ → Type 0) → Type 0
BetweenClocks old None Relates = Unit {0}
BetweenClocks None (Some now) Relates = ⊥
BetweenClocks (Some was) (Some now) Relates = Relates was now

-- a disk that let moments pass, and nothing else
pub record Rests {D : Type 0} (seen : D → Option (List ℕ)) (may_leave : D → List ℕ → Type 0) (clock : D → Option ℕ) (left_at : D → ℕ → List ℕ → Type 0) (room faults : D → ℕ) (old new : D) : Type 0 where
  pub same : seen new ≡ seen old
  pub crash : (c : List ℕ) → may_leave new c → may_leave old c
  pub moments : BetweenClocks (clock old) (clock new) (Elapsed (left_at old) (left_at new) (may_leave old))
  pub same_room : room new ≡ room old
  pub same_faults : faults new ≡ faults old

-- a run of calls on the first disk of a pair, each image of which has P, while the second one rests
pub record Steps {D : Type 0} (seen : D → Option (List ℕ)) (may_leave : D → List ℕ → Type 0) (clock : D → Option ℕ) (left_at : D → ℕ → List ℕ → Type 0) (room faults : D → ℕ) (old new : D × D) (P : List ℕ → Type 0) : Type 0 where
  pub moments : BetweenClocks (clock old.0) (clock new.0) (Elapsed (left_at old.0) (left_at new.0) P)
  pub crash : (c : List ℕ) → may_leave new.0 c → P c
  pub same_room : room new.0 ≡ room old.0
  pub later : faults old.0 ≤ faults new.0
  pub other : Rests seen may_leave clock left_at room faults old.1 new.1

-- a run of calls on the first disk of a pair whose first call's images have First, and all later ones P
pub record Opens {D : Type 0} (seen : D → Option (List ℕ)) (may_leave : D → List ℕ → Type 0) (clock : D → Option ℕ) (left_at : D → ℕ → List ℕ → Type 0) (room faults : D → ℕ) (old new : D × D) (First P : List ℕ → Type 0) : Type 0 where
  pub moments : BetweenClocks (clock old.0) (clock new.0) (Began (left_at old.0) (left_at new.0) First P)
  pub crash : (c : List ℕ) → may_leave new.0 c → First c ⊎ P c
  pub same_room : room new.0 ≡ room old.0
  pub later : faults old.0 ≤ faults new.0
  pub other : Rests seen may_leave clock left_at room faults old.1 new.1
