-- The places of what a seat holds rise, so a Release takes one handle away.
use Rattle.std.proofs.Common.{◌≡◌, ℕ, ◌+◌, ◌<◌, ◌≤◌, ◌==◌, not, List, [], ◌∷◌, ◌++◌, Bool, true, false, Some, None, refl, ap, ◌∙◌, arith, cond, if◌then◌else◌, ne_eqb, eq-eqb}
use Rattle.std.specs.Prelude.{filter, ⊤}
use Rattle.std.specs.List.{AllByRecursion}
use Rattle.ap_turn.specs.declared.held.Given.{Given}
use Rattle.ap_handles.specs.declared.call.Call.{Call}
use Rattle.ap_handles.specs.declared.call.Call.TheVariants as call
use Rattle.ap_handles.specs.Legal.{is_released}
use Rattle.ap_handles.specs.Held.{Shown, handle_at, acquired_from, held_by, without}
use Rattle.ap_handles.proofs.Holding.{all_append, all_map, filter_same, filter_all}

-- each place is below those behind it
abbrev pub Rises : List Shown → Type 0
Rises [] = ⊤
Rises (h ∷ more) = AllByRecursion (λ x. h.place < x.place) more × Rises more

all_kept : (P : Shown → Type 0) (q : Shown → Bool) (xs : List Shown) → AllByRecursion P xs → AllByRecursion P (filter q xs)
all_kept P q [] a = tt
all_kept P q (x ∷ xs) a = by_test (q x) (all_kept P q xs a.1)
  where
    by_test : (b : Bool) → AllByRecursion P (filter q xs) → AllByRecursion P (cond b (x ∷ filter q xs) (filter q xs))
    by_test true rest = (a.0, rest)
    by_test false rest = rest

rises_kept : (q : Shown → Bool) (xs : List Shown) → Rises xs → Rises (filter q xs)
rises_kept q [] r = tt
rises_kept q (x ∷ xs) r = by_test (q x) (rises_kept q xs r.1)
  where
    by_test : (b : Bool) → Rises (filter q xs) → Rises (cond b (x ∷ filter q xs) (filter q xs))
    by_test true rest = (all_kept (λ y. x.place < y.place) q xs r.0, rest)
    by_test false rest = rest

module _ (by : ℕ) where
  acquired_above : (k : ℕ) (xs : List (Given Call)) → AllByRecursion (λ h. k ≤ h.place) (acquired_from by k xs)
  acquired_above k [] = tt
  acquired_above k (g ∷ more) =
      all_append (λ h. k ≤ h.place) (if g.by == by then handle_at k g.entry else []) (acquired_from by (k + 1) more) (here (g.by == by) g.entry)
      (all_map (λ h. k + 1 ≤ h.place) (λ h. k ≤ h.place) (acquired_from by (k + 1) more) (λ h le. omega (arith, le)) (acquired_above (k + 1) more))
    where
      here : (b : Bool) (c : Call) → AllByRecursion (λ h. k ≤ h.place) (if b then handle_at k c else [])
      here true (call.Acquire platform id (Some e)) = (omega arith, tt)
      here true (call.Acquire platform id None) = tt
      here true (call.Publish entries n) = tt
      here true (call.Release place) = tt
      here true (call.Ask n) = tt
      here true (call.Status status) = tt
      here true call.Skip = tt
      here false c = tt

  acquired_rises : (k : ℕ) (xs : List (Given Call)) → Rises (acquired_from by k xs)
  acquired_rises k [] = tt
  acquired_rises k (g ∷ more) = here (g.by == by) g.entry (all_map (λ h. k + 1 ≤ h.place) (λ h. k < h.place) (acquired_from by (k + 1) more) (λ h le. omega (arith, le)) (acquired_above (k + 1) more)) (acquired_rises (k + 1) more)
    where
      here : (b : Bool) (c : Call) → AllByRecursion (λ h. k < h.place) (acquired_from by (k + 1) more) → Rises (acquired_from by (k + 1) more) → Rises ((if b then handle_at k c else []) ++ acquired_from by (k + 1) more)
      here true (call.Acquire platform id (Some e)) above rest = (above, rest)
      here true (call.Acquire platform id None) above rest = rest
      here true (call.Publish entries n) above rest = rest
      here true (call.Release place) above rest = rest
      here true (call.Ask n) above rest = rest
      here true (call.Status status) above rest = rest
      here true call.Skip above rest = rest
      here false c above rest = rest

  pub held_rises : (log : List (Given Call)) → Rises (held_by by log)
  held_rises log = rises_kept (λ h. not (is_released h.place log)) (acquired_from by 0 log) (acquired_rises 0 log)

all_middle : (P : Shown → Type 0) (xs ys : List Shown) (h : Shown) → AllByRecursion P (xs ++ h ∷ ys) → P h
all_middle P [] ys h a = a.0
all_middle P (x ∷ xs) ys h a = all_middle P xs ys h a.1

-- of handles whose places rise, the one of a place is taken away
pub without_one : (before after : List Shown) (h : Shown) → Rises (before ++ h ∷ after) → without h.place (before ++ h ∷ after) ≡ before ++ after
without_one [] after h r =
    ap (λ (b : Bool). cond (not b) (h ∷ without h.place after) (without h.place after)) (eq-eqb h.place h.place refl)
    ∙ filter_same (λ x. not (h.place == x.place)) (λ x. true) after (all_map (λ x. h.place < x.place) _ after (λ x lt. ap not (ne_eqb h.place x.place (λ same. omega (arith, same, lt)))) r.0)
    ∙ filter_all after
without_one (x ∷ xs) after h r =
    let below : x.place < h.place = all_middle (λ y. x.place < y.place) xs after h r.0 in
    ap (λ (b : Bool). cond (not b) (x ∷ without h.place (xs ++ h ∷ after)) (without h.place (xs ++ h ∷ after))) (ne_eqb h.place x.place (λ same. omega (arith, same, below)))
    ∙ ap (λ l. x ∷ l) (without_one xs after h r.1)
