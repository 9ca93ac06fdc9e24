-- What the replay of a record tells of its whole history.
use Rattle.std.proofs.Common.{◌≡◌, ◌<◌, ◌≤◌, ◌+◌, ◌-◌, ℕ, zero, suc, IsTrue, List, [], ◌∷◌, length, get_or, drop, Option, Some, refl, ap, sym, ◌∙◌, subst, arith, ◌⊎◌, inl, inr}
use Rattle.ap_disk.specs.declared.call.Call.{Call}
use Rattle.ap_disk.specs.History.{Change, nothing, wrote, tore, was_cut, failed_cut, synced, Event, changed, within, left_open, file_after, leaves_after, left_within, end_of, all_fit, Rises, Tears, TearsTo, moment_of}
use Rattle.ap_disk.specs.CallLog.{count_of, change_of, event_of, log_of}
use Rattle.ap_disk.proofs.Moments.{RiseBelow, AllFit, fits_of, to_of, left_after, not_true, not_false}

-- the calls of an older history are at moments before some moment, too
pub rise_suffix : (bound : ℕ) (older : List Event) (calls : List Call) (kept : List ℕ) → RiseBelow bound (log_of older calls kept) → (m : ℕ) × RiseBelow m older
rise_suffix bound older [] kept h = (bound, h)
rise_suffix bound older (call ∷ calls) kept h =
    let rest = rise_suffix bound (event_of call kept ∷ older) calls (drop (count_of call.step) kept) h in
    (call.time, rest.1.1)

-- and they fit
pub fits_suffix : (room : ℕ) (older : List Event) (calls : List Call) (kept : List ℕ) → AllFit room (log_of older calls kept) → AllFit room older
fits_suffix room older [] kept h = h
fits_suffix room older (call ∷ calls) kept h =
    let rest = fits_suffix room (event_of call kept ∷ older) calls (drop (count_of call.step) kept) h in
    rest.1

-- the first of these calls is later than this moment
abbrev pub IsLater : ℕ → List Call → Type 0
IsLater t [] = Unit {0}
IsLater t (call ∷ calls) = t < call.time

next_later : (bound t : ℕ) (event : Event) (older : List Event) (calls : List Call) (kept : List ℕ) → t ≤ event.time → RiseBelow bound (log_of (event ∷ older) calls kept) → IsLater t calls
next_later bound t event older [] kept le h = tt
next_later bound t event older (call ∷ calls) kept le h =
    let rest = rise_suffix bound (event_of call kept ∷ event ∷ older) calls (drop (count_of call.step) kept) h in
    let lt : event.time < call.time = rest.1.1.0 in
    omega (arith, le, lt)

-- a stop before these calls
pub left_before : (first c : List ℕ) (t bound : ℕ) (older : List Event) (calls : List Call) (kept : List ℕ) → RiseBelow bound (log_of older calls kept) → IsLater t calls →
    left_within first older t c → left_within first (log_of older calls kept) t c
left_before first c t bound older [] kept rise later h = h
left_before first c t bound older (call ∷ calls) kept rise later h =
    left_before first c t bound (event_of call kept ∷ older) calls (drop (count_of call.step) kept) rise
    (next_later bound t (event_of call kept) older calls (drop (count_of call.step) kept) (omega (arith, later)) rise)
    ((λ before. h), λ since. absurd (not_true call.time t later since))

-- a stop within the first of these calls
pub left_in : (first c : List ℕ) (t bound : ℕ) (older : List Event) (call : Call) (calls : List Call) (kept : List ℕ) → RiseBelow bound (log_of older (call ∷ calls) kept) → t ≡ call.time →
    within (change_of call.step kept) (leaves_after first older) c → left_within first (log_of older (call ∷ calls) kept) t c
left_in first c t bound older call calls kept rise is h =
    left_before first c t bound (event_of call kept ∷ older) calls (drop (count_of call.step) kept) rise
    (next_later bound t (event_of call kept) older calls (drop (count_of call.step) kept) (omega (arith, is)) rise)
    ((λ before. absurd (not_false call.time t (omega (arith, is)) before)), λ since. inr (is, h))

-- an image that a stop within a call leaves
pub tears_within : (change : Change) (before : List ℕ → Type 0) (old new : List ℕ) → Tears change old new → before old → within change before new
tears_within nothing before old new e h = subst before (sym e) h
tears_within (wrote at bytes) before old new e h = (old, h, e)
tears_within (tore at count) before old new e h = (old, h, e)
tears_within (was_cut len) before old new e h = (old, h, e)
tears_within (failed_cut len) before old new e h = (old, h, e)
tears_within synced before old new e h = subst before (sym e) h

tears_left : (change : Change) (was file old new : List ℕ) (before : List ℕ → Type 0) → file ≡ changed change was → TearsTo change file old new → before old →
    (new ≡ changed change was) ⊎ left_open change before new
tears_left nothing was file old new before is e h = inr (subst before (sym e) h)
tears_left (wrote at bytes) was file old new before is e h = inr (old, h, e)
tears_left (tore at count) was file old new before is e h = inr (old, h, e)
tears_left (was_cut len) was file old new before is e h = inr (old, h, e)
tears_left (failed_cut len) was file old new before is e h = inr (old, h, e)
tears_left synced was file old new before is e h = inl (e ∙ is)

-- an image that a stop after a call leaves
pub tears_after : (first : List ℕ) (event : Event) (older : List Event) (file old new : List ℕ) → file ≡ file_after first (event ∷ older) → TearsTo event.change file old new →
    leaves_after first older old → leaves_after first (event ∷ older) new
tears_after first event older file old new is e h = tears_left event.change (file_after first older) file old new (leaves_after first older) is e h

-- ---- the numbers of calls

pub length-log_of : (older : List Event) (calls : List Call) (kept : List ℕ) → length (log_of older calls kept) ≡ length older + length calls
length-log_of older [] kept = omega arith
length-log_of older (call ∷ calls) kept =
    let rest = length-log_of (event_of call kept ∷ older) calls (drop (count_of call.step) kept) in
    omega (arith, rest)

moment_later : (older : List Event) (calls : List Call) (kept : List ℕ) (n : ℕ) → n ≤ length older → moment_of (log_of older calls kept) n ≡ moment_of older n
moment_later older [] kept n small = refl
moment_later older (call ∷ calls) kept n small =
    moment_later (event_of call kept ∷ older) calls (drop (count_of call.step) kept) n (omega (arith, small)) ∙ grind (arith, small)

own_moment : (event : Event) (older : List Event) (n : ℕ) → n ≡ length older + 1 → moment_of (event ∷ older) n ≡ Some event.time
own_moment event older n is = grind (arith, is)

pub moment_at : (older : List Event) (calls : List Call) (kept : List ℕ) (k n : ℕ) (d : Call) → k < length calls → n ≡ length older + k + 1 →
    moment_of (log_of older calls kept) n ≡ Some (get_or calls k d).time
moment_at older [] kept k n d inside at = absurd (omega (arith, inside))
moment_at older (c ∷ calls) kept zero n d inside at =
    moment_later (event_of c kept ∷ older) calls (drop (count_of c.step) kept) n (omega (arith, at))
    ∙ own_moment (event_of c kept) older n (omega (arith, at))
moment_at older (c ∷ calls) kept (suc k) n d inside at =
    moment_at (event_of c kept ∷ older) calls (drop (count_of c.step) kept) k n d (omega (arith, inside)) (omega (arith, at))

-- the call of a number
pub moment_read : (calls : List Call) (kept : List ℕ) (log : List Event) (all : List Call) (n : ℕ) (call : Call) → log_of [] calls kept ≡ log → all ≡ calls → 1 ≤ n →
    n - 1 < length all → call ≡ get_or all (n - 1) call → moment_of log n ≡ Some call.time
moment_read calls kept log all n call is value some inside found =
    let P : List Event → Type 0 = λ l. moment_of l n ≡ Some call.time in
    let Q : List Call → Type 0 = λ l. call ≡ get_or l (n - 1) call in
    let R : List Call → Type 0 = λ l. n - 1 < length l in
    let time : Call → Option ℕ = λ c. Some c.time in
    subst P is (moment_at [] calls kept (n - 1) n call (subst R value inside) (omega (arith, some)) ∙ ap time (sym (subst Q value found)))

-- there is one
pub moment_there : (calls : List Call) (kept : List ℕ) (log : List Event) (all : List Call) (n : ℕ) → log_of [] calls kept ≡ log → all ≡ calls → 1 ≤ n → n ≤ length log → length all ≤ n - 1 → ⊥
moment_there calls kept log all n is value some inside past =
    let recorded : length (log_of [] calls kept) ≡ 0 + length calls = length-log_of [] calls kept in
    let same : length (log_of [] calls kept) ≡ length log = ap (λ (l : List Event). length l) is in
    let here : length all ≡ length calls = ap (λ (l : List Call). length l) value in
    omega (arith, recorded, same, here, some, inside, past)

-- ---- the next call of a replay

-- the record, with the next call apart
pub log_at : (older : List Event) (calls : List Call) (call : Call) (later : List Call) (kept : List ℕ) (log : List Event) → calls ≡ call ∷ later → log_of older calls kept ≡ log → log_of older (call ∷ later) kept ≡ log
log_at older calls call later kept log split is =
    let P : List Call → Type 0 = λ l. log_of older l kept ≡ log in
    subst P split is

-- it fits
pub head_fits : (room : ℕ) (older : List Event) (call : Call) (later : List Call) (kept : List ℕ) (log : List Event) → log_of older (call ∷ later) kept ≡ log →
    IsTrue (all_fit room log) → end_of (change_of call.step kept) ≤ room
head_fits room older call later kept log is fits =
    let P : List Event → Type 0 = λ l. AllFit room l in
    (fits_suffix room (event_of call kept ∷ older) later (drop (count_of call.step) kept) (subst P (sym is) (fits_of room log fits))).0

rise_of : (older : List Event) (calls : List Call) (kept : List ℕ) (log : List Event) → log_of older calls kept ≡ log → Rises log → (bound : ℕ) × RiseBelow bound (log_of older calls kept)
rise_of older calls kept log is (now, rises) =
    let P : List Event → Type 0 = λ l. RiseBelow (now + 1) l in
    (now + 1, subst P (sym is) (to_of now log rises))

-- the stop is before it
pub stop_before : (first c : List ℕ) (t : ℕ) (older : List Event) (call : Call) (later : List Call) (kept : List ℕ) (log : List Event) → log_of older (call ∷ later) kept ≡ log →
    Rises log → RiseBelow t older → t < call.time → leaves_after first older c → left_within first log t c
stop_before first c t older call later kept log is rises before lt h =
    let rise = rise_of older (call ∷ later) kept log is rises in
    let P : List Event → Type 0 = λ l. left_within first l t c in
    subst P is (left_before first c t rise.0 older (call ∷ later) kept rise.1 lt (left_after first older t before c h))

-- the stop is within it
pub stop_in : (first old new : List ℕ) (t : ℕ) (older : List Event) (call : Call) (later : List Call) (kept : List ℕ) (log : List Event) → log_of older (call ∷ later) kept ≡ log →
    Rises log → call.time ≡ t → Tears (change_of call.step kept) old new → leaves_after first older old → left_within first log t new
stop_in first old new t older call later kept log is rises at torn h =
    let rise = rise_of older (call ∷ later) kept log is rises in
    let P : List Event → Type 0 = λ l. left_within first l t new in
    subst P is (left_in first new t rise.0 older call later kept rise.1 (sym at) (tears_within (change_of call.step kept) (leaves_after first older) old new torn h))

-- the stop is later
pub rise_with : (t : ℕ) (older : List Event) (call : Call) (later : List Call) (kept : List ℕ) (log : List Event) → log_of older (call ∷ later) kept ≡ log →
    Rises log → call.time < t → RiseBelow t (event_of call kept ∷ older)
rise_with t older call later kept log is rises lt =
    let rise = rise_of older (call ∷ later) kept log is rises in
    let suffix = rise_suffix rise.0 (event_of call kept ∷ older) later (drop (count_of call.step) kept) rise.1 in
    (lt, suffix.1.1)
