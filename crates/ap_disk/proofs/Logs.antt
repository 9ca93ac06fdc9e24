-- How the history of a record grows.
use Rattle.std.proofs.Common.{◌≡◌, ◌≤◌, ◌+◌, ℕ, List, [], ◌∷◌, ◌++◌, length, drop, refl, ap, ◌∙◌, subst, arith}
use Rattle.std.proofs.lemmas.List.{take-append-le, drop-append-le, length-drop, append-nil, take_all}
use Rattle.ap_disk.specs.declared.call.Step.{Step}
use Rattle.ap_disk.specs.declared.call.Step.TheVariants.{Nothing, Wrote, Tore, Cut, FailedCut, Synced}
use Rattle.ap_disk.specs.declared.call.Call.{Call}
use Rattle.ap_disk.specs.History.{Change, wrote, Event}
use Rattle.ap_disk.specs.CallLog.{count_of, counts, change_of, event_of, log_of}

change_of-front : (step : Step) (kept bytes : List ℕ) → count_of step ≤ length kept → change_of step (kept ++ bytes) ≡ change_of step kept
change_of-front Nothing kept bytes fits = refl
change_of-front (Wrote at count) kept bytes fits = ap (λ (l : List ℕ). wrote at l) (take-append-le count kept bytes fits)
change_of-front (Tore at count) kept bytes fits = refl
change_of-front (Cut len) kept bytes fits = refl
change_of-front (FailedCut len) kept bytes fits = refl
change_of-front Synced kept bytes fits = refl

event_of-front : (call : Call) (kept bytes : List ℕ) → count_of call.step ≤ length kept → event_of call (kept ++ bytes) ≡ event_of call kept
event_of-front call kept bytes fits =
    let with_change : Change → Event = λ change. record { time = call.time; change = change } in
    ap with_change (change_of-front call.step kept bytes fits)

pub counts-push : (calls : List Call) (call : Call) → counts (calls ++ call ∷ []) ≡ counts calls + count_of call.step
counts-push [] call = omega arith
counts-push (c ∷ calls) call = omega (arith, counts-push calls call)

-- a call behind the others is the first of the history
pub log_of-push : (older : List Event) (calls : List Call) (kept bytes : List ℕ) (call : Call) → counts calls ≡ length kept →
    log_of older (calls ++ call ∷ []) (kept ++ bytes) ≡ event_of call bytes ∷ log_of older calls kept
log_of-push older [] [] bytes call same = refl
log_of-push older [] (x ∷ kept) bytes call same = absurd (omega (arith, same))
log_of-push older (c ∷ calls) kept bytes call same =
    let n = count_of c.step in
    let fits : n ≤ length kept = omega (arith, same) in
    let from_event : Event → List Event = λ event. log_of (event ∷ older) (calls ++ call ∷ []) (drop n (kept ++ bytes)) in
    let from_kept : List ℕ → List Event = λ k. log_of (event_of c kept ∷ older) (calls ++ call ∷ []) k in
    ap from_event (event_of-front c kept bytes fits) ∙ ap from_kept (drop-append-le n kept bytes fits)
    ∙ log_of-push (event_of c kept ∷ older) calls (drop n kept) bytes call (rw (length-drop n kept) (omega (arith, same)))

-- a call that wrote nothing
pub log_of-push_quiet : (calls : List Call) (kept : List ℕ) (call : Call) → counts calls ≡ length kept →
    log_of [] (calls ++ call ∷ []) kept ≡ event_of call [] ∷ log_of [] calls kept
log_of-push_quiet calls kept call same =
    let P : List ℕ → Type 0 = λ k. log_of [] (calls ++ call ∷ []) k ≡ event_of call [] ∷ log_of [] calls kept in
    subst P (append-nil kept) (log_of-push [] calls kept [] call same)

-- a call that wrote these bytes
pub log_of-push_write : (calls : List Call) (kept bytes : List ℕ) (time at : ℕ) → counts calls ≡ length kept →
    log_of [] (calls ++ record { time = time; step = Wrote at (length bytes) } ∷ []) (kept ++ bytes) ≡ record { time = time; change = wrote at bytes } ∷ log_of [] calls kept
log_of-push_write calls kept bytes time at same =
    let call : Call = record { time = time; step = Wrote at (length bytes) } in
    let with_bytes : List ℕ → List Event = λ l. record { time = time; change = wrote at l } ∷ log_of [] calls kept in
    log_of-push [] calls kept bytes call same ∙ ap with_bytes (take_all (length bytes) bytes (omega arith))
