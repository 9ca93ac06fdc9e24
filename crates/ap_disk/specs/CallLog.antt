-- The history that the record of a disk in memory stands for.
use Rattle.std.specs.Prelude.{ℕ, ◌+◌, List, [], ◌∷◌, take, drop}
use Rattle.ap_disk.specs.declared.call.Step.{Step}
use Rattle.ap_disk.specs.declared.call.Step.TheVariants.{Nothing, Wrote, Tore, Cut, FailedCut, Synced}
use Rattle.ap_disk.specs.declared.call.Call.{Call}
use Rattle.ap_disk.specs.History.{Change, nothing, wrote, tore, was_cut, failed_cut, synced, Event}

-- how many recorded bytes a step has
abbrev pub count_of : Step → ℕ
count_of (Wrote at count) = count
count_of Nothing = 0
count_of (Tore at count) = 0
count_of (Cut len) = 0
count_of (FailedCut len) = 0
count_of Synced = 0

-- how many recorded bytes these calls have
abbrev pub counts : List Call → ℕ
counts [] = 0
counts (call ∷ calls) = count_of call.step + counts calls

-- what a step did, where its bytes are the first of these
abbrev pub change_of : Step → List ℕ → Change
change_of (Wrote at count) kept = wrote at (take count kept)
change_of Nothing kept = nothing
change_of (Tore at count) kept = tore at count
change_of (Cut len) kept = was_cut len
change_of (FailedCut len) kept = failed_cut len
change_of Synced kept = synced

-- a recorded call, where its bytes are the first of these
abbrev pub event_of : Call → List ℕ → Event
event_of call kept = record { time = call.time; change = change_of call.step kept }

-- the calls with their bytes, the last one first, behind an older history
abbrev pub log_of : List Event → List Call → List ℕ → List Event
log_of older [] kept = older
log_of older (call ∷ calls) kept = log_of (event_of call kept ∷ older) calls (drop (count_of call.step) kept)
