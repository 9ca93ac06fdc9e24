-- The two disks of a pair.
use Rattle.std.specs.Prelude.{◌≡◌, ℕ, List, Option}
use Rattle.ap_disk.specs.declared.side.Side.{Side}
use Rattle.ap_disk.specs.declared.side.Side.TheVariants.{A, B}
use Rattle.ap_disk.specs.Clocks.{Ticks, Moments}

-- the named disk of a pair
abbrev pub on : {D : Type 0} → Side → D × D → D
on A pair = pair.0
on B pair = pair.1

-- the other one
abbrev pub off : {D : Type 0} → Side → D × D → D
off A pair = pair.1
off B pair = pair.0

-- the disk that wasn't called let a moment pass
pub record Rested {D : Type 0} (seen : D → Option (List ℕ)) (may_leave : D → List ℕ → Type 0) (clock : D → Option ℕ) (left_at : D → ℕ → List ℕ → Type 0) (room faults : D → ℕ) (side : Side) (old new : D × D) : Type 0 where
  pub same : seen (off side new) ≡ seen (off side old)
  pub crash : (c : List ℕ) → may_leave (off side new) c → may_leave (off side old) c
  pub time : Ticks (clock (off side old)) (clock (off side new))
  pub moments : Moments (clock (off side new)) (left_at (off side old)) (left_at (off side new)) (may_leave (off side old))
  pub same_room : room (off side new) ≡ room (off side old)
  pub same_faults : faults (off side new) ≡ faults (off side old)
