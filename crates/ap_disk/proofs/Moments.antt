-- What a call of a disk in memory adds to its history, its images and its clock.
use Rattle.std.proofs.Common.{◌≡◌, ◌<◌, ◌≤◌, ◌+◌, ◌-◌, ◌^◌, ℕ, Bool, true, false, ◌&&◌, IsTrue, T, nat_lt, nat_le, List, [], ◌∷◌, length, Option, Some, None, IfSome, refl, sym, ◌∙◌, subst, arith, ◌⊎◌, inl, inr}
use Rattle.std.proofs.lemmas.Bool.{cases_lt}
use Rattle.ap_disk.specs.Crashes.{Torn, AfterStep}
use Rattle.ap_disk.specs.Clocks.{EndsMoment, Moments}
use Rattle.ap_disk.specs.History.{Change, nothing, wrote, tore, was_cut, failed_cut, synced, Event, changed, within, left_open, file_after, leaves_after, left_within, rises_below, rises_to, end_of, all_fit, clock_of, next_moment, Recorded, RisesTo, itself_of}
use Rattle.ap_disk.proofs.Tearing.{torn_whole, torn_nothing}

clock_told : (t : ℕ) → t < 2 ^ 64 - 1 → clock_of t ≡ Some t
clock_told t below = grind arith

clock_untold : (t : ℕ) → 2 ^ 64 - 1 ≤ t → clock_of t ≡ None
clock_untold t above = grind arith

-- a fact where the clock is told
told : (t : ℕ) (P : ℕ → Type 0) → (t < 2 ^ 64 - 1 → P t) → IfSome (clock_of t) P
told t P p = told_by (cases_lt t (2 ^ 64 - 1))
  where
    told_by : (t < 2 ^ 64 - 1) ⊎ (2 ^ 64 - 1 ≤ t) → IfSome (clock_of t) P
    told_by (inl below) = rw (clock_told t below) (p below)
    told_by (inr above) = rw (clock_untold t above) tt

told_at : (t : ℕ) (P : ℕ → Type 0) → t < 2 ^ 64 - 1 → IfSome (clock_of t) P → P t
told_at t P below p = let Q : Option ℕ → Type 0 = λ o. IfSome o P in subst Q (clock_told t below) p

-- ---- what is kept of a disk

-- the moments of the calls rise, all of them before this one
abbrev pub RiseBelow : ℕ → List Event → Type 0
RiseBelow bound [] = Unit {0}
RiseBelow bound (event ∷ older) = (event.time < bound) × RiseBelow event.time older

-- all writes are within the room
abbrev pub AllFit : ℕ → List Event → Type 0
AllFit room [] = Unit {0}
AllFit room (event ∷ older) = (end_of event.change ≤ room) × AllFit room older

both : (a b : Bool) → IsTrue (a && b) → (a ≡ true) × IsTrue b
both true b h = (refl, h)
both false b h = absurd (subst T (sym h) tt)

below_of : (bound : ℕ) (log : List Event) → IsTrue (rises_below bound log) → RiseBelow bound log
below_of bound [] h = tt
below_of bound (event ∷ older) h =
    let parts = both (nat_lt event.time bound) (rises_below event.time older) h in
    let first : event.time < bound = grind (arith, parts.0) in
    (first, below_of event.time older parts.1)

-- the moments rise up to now: all of them before the next one
pub to_of : (now : ℕ) (log : List Event) → IsTrue (rises_to now log) → RiseBelow (now + 1) log
to_of now [] h = tt
to_of now (event ∷ older) h =
    let parts = both (nat_le event.time now) (rises_below event.time older) h in
    let first : event.time ≤ now = grind (arith, parts.0) in
    (omega (arith, first), below_of event.time older parts.1)

pub fits_of : (room : ℕ) (log : List Event) → IsTrue (all_fit room log) → AllFit room log
fits_of room [] h = tt
fits_of room (event ∷ older) h =
    let parts = both (nat_le (end_of event.change) room) (all_fit room older) h in
    let first : end_of event.change ≤ room = grind (arith, parts.0) in
    (first, fits_of room older parts.1)

rises_by : (clock : Option ℕ) (log : List Event) → RisesTo clock log → IfSome clock (λ now. RiseBelow (now + 1) log)
rises_by None log h = tt
rises_by (Some now) log h = to_of now log h

-- ---- images

pub le_true : (a b : ℕ) → a ≤ b → nat_le a b ≡ true
le_true a b h = grind (arith, h)

le_false : (a b : ℕ) → b < a → nat_le a b ≡ false
le_false a b h = grind (arith, h)

pub not_false : (a b : ℕ) → a ≤ b → nat_le a b ≡ false → ⊥
not_false a b le is = let e : true ≡ false = sym (le_true a b le) ∙ is in subst T e tt

pub not_true : (a b : ℕ) → b < a → nat_le a b ≡ true → ⊥
not_true a b lt is = let e : true ≡ false = sym is ∙ le_false a b lt in subst T e tt

-- the file after a call, from what could be left before
file_within : (change : Change) (file : List ℕ) (before : List ℕ → Type 0) → before file → within change before (changed change file)
file_within nothing file before h = h
file_within (wrote at bytes) file before h = (file, h, torn_whole at bytes file)
file_within (tore at count) file before h = (file, h, torn_nothing at count file)
file_within (was_cut len) file before h = (file, h, inr refl)
file_within (failed_cut len) file before h = (file, h, inl refl)
file_within synced file before h = h

open_within : (change : Change) (before : List ℕ → Type 0) (c : List ℕ) → left_open change before c → within change before c
open_within nothing before c o = o
open_within (wrote at bytes) before c o = o
open_within (tore at count) before c o = o
open_within (was_cut len) before c o = o
open_within (failed_cut len) before c o = o
open_within synced before c o = absurd o

-- a crash after a call may leave only what one within it may leave
after_within : (first : List ℕ) (event : Event) (older : List Event) (c : List ℕ) → leaves_after first (event ∷ older) c → within event.change (leaves_after first older) c
after_within first event older c (inl is) =
    let P : List ℕ → Type 0 = λ l. within event.change (leaves_after first older) l in
    subst P (sym is) (file_within event.change (file_after first older) (leaves_after first older) (itself_of first older (file_after first older) refl))
after_within first event older c (inr o) = open_within event.change (leaves_after first older) c o

-- where no call was at this moment, a crash then may have left what it may leave after the last call
pub left_after : (first : List ℕ) (log : List Event) (t : ℕ) → RiseBelow t log → (c : List ℕ) → leaves_after first log c → left_within first log t c
left_after first [] t rise c h = h
left_after first (event ∷ older) t rise c h =
    ((λ before. absurd (not_false event.time t (omega (arith, rise.0)) before)), λ since. inl h)

only_by : (first : List ℕ) (event : Event) (older : List Event) (t : ℕ) (c : List ℕ) → event.time < t →
    leaves_after first (event ∷ older) c ⊎ ((t ≡ event.time) × within event.change (leaves_after first older) c) → leaves_after first (event ∷ older) c
only_by first event older t c lt (inl h) = h
only_by first event older t c lt (inr h) = absurd (omega (arith, lt, h.0))

only_after : (first : List ℕ) (log : List Event) (t : ℕ) → RiseBelow t log → (c : List ℕ) → left_within first log t c → leaves_after first log c
only_after first [] t rise c h = h
only_after first (event ∷ older) t rise c h = only_by first event older t c rise.0 (h.1 (le_true event.time t (omega (arith, rise.0))))

rise_next : (log : List Event) (time : ℕ) → IfSome (clock_of time) (λ now. RiseBelow (now + 1) log) → next_moment time < 2 ^ 64 - 1 → RiseBelow (next_moment time) log
rise_next log time timed below =
    let before : time < 2 ^ 64 - 1 = omega (arith, below) in
    let same : next_moment time ≡ time + 1 = omega (arith, below) in
    let P : ℕ → Type 0 = λ bound. RiseBelow bound log in
    subst P (sym same) (told_at time (λ now. RiseBelow (now + 1) log) before timed)

moments_tick : (first : List ℕ) (log : List Event) (time : ℕ) → RisesTo (clock_of time) log →
    Moments (clock_of (next_moment time)) (left_within first log) (left_within first log) (leaves_after first log)
moments_tick first log time rises =
    told (next_moment time) (λ now. EndsMoment now (left_within first log) (left_within first log) (leaves_after first log))
    (λ below. record {
      this = λ c h. only_after first log (next_moment time) (rise_next log time (rises_by (clock_of time) log rises) below) c h;
      earlier = λ t c lt h. h;
      kept = λ t c lt h. h;
    })

moments_event : (first : List ℕ) (log : List Event) (now : ℕ) (change : Change) →
    Moments (clock_of now) (left_within first log) (left_within first (record { time = now; change = change } ∷ log)) (within change (leaves_after first log))
moments_event first log now change =
    told now (λ now'. EndsMoment now' (left_within first log) (left_within first (event ∷ log)) (within change (leaves_after first log)))
    (λ below. record {
      this = λ c h. this_of c (h.1 (le_true now now (omega arith)));
      earlier = λ t c lt h. h.0 (le_false now t lt);
      kept = λ t c lt h. ((λ before. h), (λ since. absurd (not_true now t lt since)));
    })
  where
    event : Event
    event = record { time = now; change = change }

    this_of : (c : List ℕ) → leaves_after first (event ∷ log) c ⊎ ((now ≡ now) × within change (leaves_after first log) c) → within change (leaves_after first log) c
    this_of c (inl h) = after_within first event log c h
    this_of c (inr h) = h.1

-- a crash within a call may leave what it could leave before
within_more : (change : Change) (before : List ℕ → Type 0) (c : List ℕ) → before c → within change before c
within_more nothing before c h = h
within_more (wrote at bytes) before c h = (c, h, torn_nothing at (length bytes) c)
within_more (tore at count) before c h = (c, h, torn_nothing at count c)
within_more (was_cut len) before c h = (c, h, inl refl)
within_more (failed_cut len) before c h = (c, h, inl refl)
within_more synced before c h = h

-- what a crash may leave after a call, whether or not it was recorded
pub crash_recorded : (first : List ℕ) (log log' : List Event) (now : ℕ) (change : Change) →
    Recorded now change log log' → (c : List ℕ) → leaves_after first log' c → within change (leaves_after first log) c
crash_recorded first log log' now change (inl listed) c h =
    let P : List Event → Type 0 = λ l. leaves_after first l c in
    after_within first (record { time = now; change = change }) log c (subst P listed h)
crash_recorded first log log' now change (inr full) c h =
    let P : List Event → Type 0 = λ l. leaves_after first l c in
    within_more change (leaves_after first log) c (subst P full h)

weaker : (k : Option ℕ) (before after : ℕ → List ℕ → Type 0) (few many : List ℕ → Type 0) → ((c : List ℕ) → few c → many c) → Moments k before after few → Moments k before after many
weaker None before after few many more h = h
weaker (Some now) before after few many more h = record { this = λ c x. more c (h.this c x); earlier = h.earlier; kept = h.kept }

-- the images of a call's moment, whether or not it was recorded
pub moments_at : (first : List ℕ) (log log' : List Event) (time now : ℕ) (change : Change) → RisesTo (clock_of time) log → now ≡ next_moment time →
    Recorded now change log log' → Moments (clock_of now) (left_within first log) (left_within first log') (within change (leaves_after first log))
moments_at first log log' time now change rises is (inl listed) =
    let P : List Event → Type 0 = λ l. Moments (clock_of now) (left_within first log) (left_within first l) (within change (leaves_after first log)) in
    subst P (sym listed) (moments_event first log now change)
moments_at first log log' time now change rises is (inr full) =
    let P : List Event → Type 0 = λ l. Moments (clock_of now) (left_within first log) (left_within first l) (within change (leaves_after first log)) in
    let Q : ℕ → Type 0 = λ n. Moments (clock_of n) (left_within first log) (left_within first log) (leaves_after first log) in
    let quiet : Q now = subst Q (sym is) (moments_tick first log time rises) in
    subst P (sym full) (weaker (clock_of now) (left_within first log) (left_within first log) (leaves_after first log) (within change (leaves_after first log)) (within_more change (leaves_after first log)) quiet)

-- the same of a write that was refused with nothing written
pub moments_refused : (first : List ℕ) (log log' : List Event) (time now at count : ℕ) → RisesTo (clock_of time) log → now ≡ next_moment time →
    Recorded now nothing log log' → Moments (clock_of now) (left_within first log) (left_within first log') (AfterStep (Torn at count) (leaves_after first log))
moments_refused first log log' time now at count rises is recorded =
    weaker (clock_of now) (left_within first log) (left_within first log') (leaves_after first log) (AfterStep (Torn at count) (leaves_after first log))
    (λ c h. (c, h, torn_nothing at count c)) (moments_at first log log' time now nothing rises is recorded)
