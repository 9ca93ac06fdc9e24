-- What a call does to the history of its seat, from its turn.
use Rattle.std.proofs.Common.{◌≡◌, ℕ, not, List, [], ◌∷◌, ◌++◌, length, false, Option, Some, None, IfSome, refl, sym, ap, ◌∙◌, subst, length-append}
use Rattle.std.specs.Prelude.{filter, Contains, ⊤}
use Rattle.std.proofs.lemmas.List.{append-nil}
use Rattle.std.proofs.lemmas.Grind.{fold-append}
use mathlib.Core.List.{IsPrefix}
use Rattle.ap_text.specs.declared.job_id.AssetId.{AssetId}
use Rattle.ap_turn.specs.declared.held.Given.{Given}
use Rattle.ap_turn.specs.Views.{given, entries_of}
use Rattle.ap_turn.specs.Seats.{Seated, Takes}
use Rattle.ap_turn.proofs.Prefixes.{entries_own}
use Rattle.ap_handles.specs.declared.entry.HallEntry.{HallEntry}
use Rattle.ap_handles.specs.declared.entry.Status.{Status}
use Rattle.ap_handles.specs.declared.call.Call.{Call}
use Rattle.ap_handles.specs.declared.call.Call.TheVariants as call
use Rattle.ap_handles.specs.Machine.{after, opening, raised, product_of, status_of, machine_of}
use Rattle.ap_handles.specs.Legal.{is_release, Replies, IsLegal}
use Rattle.ap_handles.specs.Held.{Shown, handle_at, held_by, held, without}
use Rattle.ap_handles.specs.Calls.{Does, entry_of, with, Counted, counted_after, StandsFor}
use Rattle.ap_handles.proofs.Legality.{legal_more}
use Rattle.ap_handles.proofs.Holding.{filter_all, contains_last, held_gave, held_between, held_own}

pub machine_more : (log : List (Given Call)) (g : Given Call) → machine_of (log ++ g ∷ []) ≡ after (machine_of log) g.entry
machine_more log g = fold-append (λ m g. after m g.entry) opening log (g ∷ [])

-- the value that a call gives back stands for the history with it
pub stands_after : (v w : Counted) (log : List (Given Call)) (by : ℕ) (c : Call) → StandsFor v log → Replies log by c → w ≡ counted_after v c → StandsFor w (log ++ given by c ∷ [])
stands_after v w log by c s r is = subst (λ x. StandsFor x (log ++ given by c ∷ [])) (sym is)
    (legal_more [] log (given by c) s.0 r, ap (λ m. after m c) s.1 ∙ sym (machine_more log (given by c)), rw (s.2) (sym (length-append log (given by c ∷ []))))

-- the replies of a value are those of the history that it stands for

module _ (v : Counted) (log : List (Given Call)) (by : ℕ) (stands : StandsFor v log) where
  pub published : (entries : List HallEntry) (serial : ℕ) → serial ≡ raised v.machine.serial → Replies log by (call.Publish entries serial)
  published entries serial is = subst (λ m. serial ≡ raised m.serial) stands.1 is

  pub acquired : (platform : List ℕ) (id : AssetId) (reply : Option HallEntry) → reply ≡ product_of v.machine platform id → Replies log by (call.Acquire platform id reply)
  acquired platform id reply is = subst (λ m. reply ≡ product_of m platform id) stands.1 is

  pub asked : (n : ℕ) → n ≡ raised v.machine.asked → Replies log by (call.Ask n)
  asked n is = subst (λ m. n ≡ raised m.asked) stands.1 is

  pub told : (status : Status) → status ≡ status_of v.machine → Replies log by (call.Status status)
  told status is = subst (λ m. status ≡ status_of m) stands.1 is

-- the seat after its call
abbrev pub called : Seated Call → Call → Seated Call
called t c = record { turn = t.turn; number = t.number; seen = t.seen ++ given t.number c ∷ []; has_turn = false }

-- a seat holds what it held, where others alone have called
pub held_longer : (s t : Seated Call) → t.number ≡ s.number → IsPrefix s.seen t.seen → entries_of s.number t.seen ≡ entries_of s.number s.seen → IsLegal t.seen → held t ≡ held s
held_longer s t same p own legal =
    ap (λ n. held_by n t.seen) same ∙ sym (ap (held_by s.number) p.1)
    ∙ held_between s.number s.seen p.0 (subst IsLegal (sym p.1) legal) (ap (entries_of s.number) p.1 ∙ own)

-- a call that gives and takes no handle
abbrev pub IsQuiet : Call → Type 0
IsQuiet (call.Acquire platform id (Some e)) = ⊥
IsQuiet (call.Release place) = ⊥
IsQuiet _ = ⊤

quiet : (c : Call) → IsQuiet c → (handles : List Shown) (place : ℕ) → filter (λ h. not (is_release h.place c)) (handles ++ handle_at place c) ≡ handles
quiet (call.Publish entries n) q handles place = filter_all (handles ++ []) ∙ append-nil handles
quiet (call.Acquire platform id (Some e)) q handles place = absurd q
quiet (call.Acquire platform id None) q handles place = filter_all (handles ++ []) ∙ append-nil handles
quiet (call.Release at) q handles place = absurd q
quiet (call.Ask n) q handles place = filter_all (handles ++ []) ∙ append-nil handles
quiet (call.Status status) q handles place = filter_all (handles ++ []) ∙ append-nil handles
quiet call.Skip q handles place = filter_all (handles ++ []) ∙ append-nil handles

-- what a seat holds it may release in its turn
pub may_release : (s t : Seated Call) (v : Counted) → Takes StandsFor s t v → (h : Shown) → Contains (held s) h → Replies t.seen t.number (call.Release h.place)
may_release s t v takes h holds =
    let gave = held_gave t.number t.seen h (subst (λ l. Contains l h) (sym (held_longer s t takes.1 takes.3 takes.4 takes.5.0)) holds) in
    ((h.entry, gave.0), gave.1)

module _ (s t u : Seated Call) (v : Counted) (takes : Takes StandsFor s t v) (c : Call) (replies : Replies t.seen t.number c) (is : u ≡ called t c) where
  legal_after : IsLegal (t.seen ++ given t.number c ∷ [])
  legal_after = legal_more [] t.seen (given t.number c) takes.5.0 replies

  pub does : Does s u c
  does = subst (λ w. Does s w c) (sym is) (
    takes.3.0,
    (ap (λ l. l ++ given t.number c ∷ []) (sym takes.3.1) ∙ ap (λ n. (s.seen ++ takes.3.0) ++ given n c ∷ []) takes.1),
    legal_after,
    (ap (λ n. entries_of n (t.seen ++ given t.number c ∷ [])) (sym takes.1) ∙ entries_own t.number t.seen c ∙ ap (λ n. entries_of n t.seen ++ given n c ∷ []) takes.1 ∙ ap (λ l. l ++ given s.number c ∷ []) takes.4),
    takes.0,
    takes.1,
    refl,
  )

  held_after : held u ≡ filter (λ h. not (is_release h.place c)) (held s ++ handle_at (length t.seen) c)
  held_after = ap held is ∙ held_own t.number t.seen c legal_after
      ∙ ap (λ handles. filter (λ h. not (is_release h.place c)) (handles ++ handle_at (length t.seen) c)) (held_longer s t takes.1 takes.3 takes.4 takes.5.0)

  pub held_kept : IsQuiet c → held u ≡ held s
  held_kept q = held_after ∙ quiet c q (held s) (length t.seen)

pub held_released : (s t u : Seated Call) (v : Counted) → Takes StandsFor s t v → (place : ℕ) → Replies t.seen t.number (call.Release place) → u ≡ called t (call.Release place) → held u ≡ without place (held s)
held_released s t u v takes place replies is = held_after s t u v takes (call.Release place) replies is ∙ ap (without place) (append-nil (held s))

pub held_acquired : (s t u : Seated Call) (v : Counted) → Takes StandsFor s t v → (platform : List ℕ) (id : AssetId) (reply : Option Shown) → Replies t.seen t.number (call.Acquire platform id (entry_of reply))
    → u ≡ called t (call.Acquire platform id (entry_of reply)) → IfSome reply (λ h. h.place ≡ v.calls) → held u ≡ with (held s) reply
held_acquired s t u v takes platform id None replies is place = held_kept s t u v takes (call.Acquire platform id None) replies is tt
held_acquired s t u v takes platform id (Some h) replies is place =
    held_after s t u v takes (call.Acquire platform id (Some h.entry)) replies is
    ∙ filter_all (held s ++ record { entry = h.entry; place = length t.seen } ∷ [])
    ∙ ap (λ k. held s ++ record { entry = h.entry; place = k } ∷ []) (sym (place ∙ takes.5.2))

pub holds_last : (handles : List Shown) (reply : Option Shown) (u : Seated Call) → held u ≡ with handles reply → IfSome reply (λ h. Contains (held u) h)
holds_last handles None u e = tt
holds_last handles (Some h) u e = contains_last handles (held u) h e
