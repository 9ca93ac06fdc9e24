-- What a seat holds after a longer history.
use Rattle.std.proofs.Common.{◌≡◌, ℕ, zero, suc, ◌+◌, ◌<◌, ◌==◌, ◌||◌, ◌&&◌, not, List, [], ◌∷◌, ◌++◌, length, get_or, Bool, true, false, Some, None, refl, sym, ap, ◌∙◌, subst, arith, cond, if◌then◌else◌, append_assoc, length-append, eq-eqb}
use Rattle.std.proofs.lemmas.List.{append-nil}
use Rattle.std.proofs.lemmas.List.Elements.{filter-append}
use Rattle.std.proofs.lemmas.List.Folds.{list_any-append}
use Rattle.std.proofs.lemmas.Bool.Decides.{Decides-eqb}
use Rattle.std.proofs.Math.Seq.{get_or-append_seam}
use Rattle.std.specs.Prelude.{filter, slice_get, Contains}
use Rattle.std.specs.List.{AllByRecursion}
use Rattle.ap_turn.specs.declared.held.Given.{Given}
use Rattle.ap_turn.specs.Views.{given, entries_of}
use Rattle.ap_handles.specs.declared.call.Call.{Call}
use Rattle.ap_handles.specs.declared.call.Call.TheVariants as call
use Rattle.ap_handles.specs.Legal.{is_release, is_released, Gave, IsLegal}
use Rattle.ap_handles.specs.Held.{Shown, handle_at, acquired_from, held_by}
use Rattle.ap_handles.proofs.Legality.{legal_parts, released_below, released_by_own}

-- lists

module _ {X : Type 0} where
  pub all_append : (P : X → Type 0) (xs ys : List X) → AllByRecursion P xs → AllByRecursion P ys → AllByRecursion P (xs ++ ys)
  all_append P [] ys a b = b
  all_append P (x ∷ xs) ys a b = (a.0, all_append P xs ys a.1 b)

  all_at : (P : X → Type 0) (xs : List X) (k : ℕ) (x : X) → AllByRecursion P xs → k < length xs → get_or xs k x ≡ x → P x
  all_at P [] k x a lt at = absurd (omega (arith, lt))
  all_at P (y ∷ xs) zero x a lt at = subst P at a.0
  all_at P (y ∷ xs) (suc k) x a lt at = all_at P xs k x a.1 (omega (arith, lt)) at

  pub all_map : (P Q : X → Type 0) (xs : List X) → ((x : X) → P x → Q x) → AllByRecursion P xs → AllByRecursion Q xs
  all_map P Q [] f a = tt
  all_map P Q (x ∷ xs) f a = (f x a.0, all_map P Q xs f a.1)

  all_filter : (P : X → Type 0) (q : X → Bool) (xs : List X) → AllByRecursion P xs → AllByRecursion (λ x. P x × (q x ≡ true)) (filter q xs)
  all_filter P q [] a = tt
  all_filter P q (x ∷ xs) a = by_test (q x) refl (all_filter P q xs a.1)
    where
      by_test : (b : Bool) → q x ≡ b → AllByRecursion (λ x. P x × (q x ≡ true)) (filter q xs) → AllByRecursion (λ x. P x × (q x ≡ true)) (cond b (x ∷ filter q xs) (filter q xs))
      by_test true is rest = ((a.0, is), rest)
      by_test false is rest = rest

  pub filter_same : (p q : X → Bool) (xs : List X) → AllByRecursion (λ x. p x ≡ q x) xs → filter p xs ≡ filter q xs
  filter_same p q [] a = refl
  filter_same p q (x ∷ xs) a = rw (a.0, filter_same p q xs a.1) refl

  filter_twice : (p q : X → Bool) (xs : List X) → filter p (filter q xs) ≡ filter (λ x. q x && p x) xs
  filter_twice p q [] = refl
  filter_twice p q (x ∷ xs) = by_test (q x) (p x) refl (filter_twice p q xs)
    where
      by_test : (b c : Bool) → p x ≡ c → filter p (filter q xs) ≡ filter (λ x. q x && p x) xs → filter p (cond b (x ∷ filter q xs) (filter q xs)) ≡ cond (b && c) (x ∷ filter (λ x. q x && p x) xs) (filter (λ x. q x && p x) xs)
      by_test true c is rest = rw (is, rest) refl
      by_test false c is rest = rest

  pub filter_all : (xs : List X) → filter (λ x. true) xs ≡ xs
  filter_all [] = refl
  filter_all (x ∷ xs) = ap (λ ys. x ∷ ys) (filter_all xs)

  nothing_more : (xs ys : List X) → xs ++ ys ≡ xs → ys ≡ []
  nothing_more xs [] e = refl
  nothing_more xs (y ∷ ys) e = absurd (omega (arith, sym (length-append xs (y ∷ ys)) ∙ ap length e))

  pub contains_last : (xs ys : List X) (x : X) → ys ≡ xs ++ x ∷ [] → Contains ys x
  contains_last xs ys x e = subst (λ zs. Contains zs x) (sym e) (length xs, rw (length-append xs (x ∷ [])) (omega arith), get_or-append_seam xs x [] x)

zero_plus : (n : ℕ) → 0 + n ≡ n
zero_plus n = omega arith

-- the handles that the calls of a seat gave

module _ (by : ℕ) where
  acquired_append : (k : ℕ) (xs ys : List (Given Call)) → acquired_from by k (xs ++ ys) ≡ acquired_from by k xs ++ acquired_from by (k + length xs) ys
  acquired_append k [] ys = ap (λ j. acquired_from by j ys) (omega arith)
  acquired_append k (g ∷ more) ys =
      let here = if g.by == by then handle_at k g.entry else [] in
      let next : (k + 1) + length more ≡ k + length (g ∷ more) = omega arith in
      ap (λ l. here ++ l) (acquired_append (k + 1) more ys ∙ ap (λ j. acquired_from by (k + 1) more ++ acquired_from by j ys) next)
      ∙ sym (append_assoc here (acquired_from by (k + 1) more) (acquired_from by (k + length (g ∷ more)) ys))

  pub acquired_none : (k : ℕ) (xs : List (Given Call)) → entries_of by xs ≡ [] → acquired_from by k xs ≡ []
  acquired_none k [] none = refl
  acquired_none k (g ∷ more) none = by_seat (g.by == by) refl (acquired_none (k + 1) more)
    where
      by_seat : (b : Bool) → (g.by == by) ≡ b → (entries_of by more ≡ [] → acquired_from by (k + 1) more ≡ [])
          → (if b then handle_at k g.entry else []) ++ acquired_from by (k + 1) more ≡ []
      by_seat true is rest = absurd (cc (sym (ap (λ (b : Bool). cond b (g ∷ entries_of by more) (entries_of by more)) is) ∙ none))
      by_seat false is rest = rest (sym (ap (λ (b : Bool). cond b (g ∷ entries_of by more) (entries_of by more)) is) ∙ none)

  acquired_gave : (before xs : List (Given Call)) → AllByRecursion (λ h. Gave (before ++ xs) by h.place h.entry) (acquired_from by (length before) xs)
  acquired_gave before [] = tt
  acquired_gave before (g ∷ more) =
      all_append (λ h. Gave (before ++ g ∷ more) by h.place h.entry) (if g.by == by then handle_at (length before) g.entry else []) (acquired_from by (length before + 1) more)
      (by_seat before g more (g.by == by) refl)
      (subst (λ l. AllByRecursion (λ h. Gave l by h.place h.entry) (acquired_from by (length before + 1) more)) (append_assoc before (g ∷ []) more)
      (subst (λ k. AllByRecursion (λ h. Gave ((before ++ g ∷ []) ++ more) by h.place h.entry) (acquired_from by k more)) (length-append before (g ∷ [])) (acquired_gave (before ++ g ∷ []) more)))
    where
      at_seam : (before more : List (Given Call)) (g : Given Call) → slice_get (before ++ g ∷ more) (length before) ≡ Some g
      at_seam [] more g = refl
      at_seam (x ∷ xs) more g = at_seam xs more g

      by_call : (before : List (Given Call)) (g : Given Call) (more : List (Given Call)) → g.by ≡ by → (c : Call) → g.entry ≡ c → AllByRecursion (λ h. Gave (before ++ g ∷ more) by h.place h.entry) (handle_at (length before) c)
      by_call before g more same (call.Publish entries n) is = tt
      by_call before g more same (call.Acquire platform id (Some e)) is = ((platform, id, at_seam before more g ∙ ap (λ x. Some x) (λ i. record { by = same i; entry = is i })), tt)
      by_call before g more same (call.Acquire platform id None) is = tt
      by_call before g more same (call.Release at) is = tt
      by_call before g more same (call.Ask n) is = tt
      by_call before g more same (call.Status status) is = tt
      by_call before g more same call.Skip is = tt

      by_seat : (before : List (Given Call)) (g : Given Call) (more : List (Given Call)) (b : Bool) → (g.by == by) ≡ b → AllByRecursion (λ h. Gave (before ++ g ∷ more) by h.place h.entry) (if b then handle_at (length before) g.entry else [])
      by_seat before g more true is = by_call before g more ((Decides-eqb g.by by).0 is) g.entry refl
      by_seat before g more false is = tt

  -- what a handle that the seat holds says of the history
  pub held_gave : (log : List (Given Call)) (h : Shown) → Contains (held_by by log) h → Gave log by h.place h.entry × (is_released h.place log ≡ false)
  held_gave log h holds =
      let each = all_filter (λ h. Gave log by h.place h.entry) (λ h. not (is_released h.place log)) (acquired_from by 0 log) (acquired_gave [] log) in
      let it = all_at _ (held_by by log) holds.0 h each holds.1 holds.2 in
      (it.0, not_true (is_released h.place log) it.1)
    where
      not_true : (b : Bool) → not b ≡ true → b ≡ false
      not_true true e = sym e
      not_true false e = refl

  -- where others have called
  pub held_between : (xs rest : List (Given Call)) → IsLegal (xs ++ rest) → entries_of by (xs ++ rest) ≡ entries_of by xs → held_by by (xs ++ rest) ≡ held_by by xs
  held_between xs rest legal own =
      let none = nothing_more (entries_of by xs) (entries_of by rest) (sym (filter-append (λ g. g.by == by) xs rest) ∙ own) in
      let acquired : acquired_from by 0 (xs ++ rest) ≡ acquired_from by 0 xs = acquired_append 0 xs rest ∙ ap (λ l. acquired_from by 0 xs ++ l) (acquired_none (0 + length xs) rest none) ∙ append-nil (acquired_from by 0 xs) in
      let later = (legal_parts [] xs rest legal).1 in
      ap (λ l. filter (λ h. not (is_released h.place (xs ++ rest))) l) acquired
      ∙ filter_same (λ h. not (is_released h.place (xs ++ rest))) (λ h. not (is_released h.place xs)) (acquired_from by 0 xs)
      (all_map (λ h. Gave xs by h.place h.entry) _ (acquired_from by 0 xs)
      (λ h gave. ap not (list_any-append (λ g. is_release h.place g.entry) xs rest ∙ (ap (λ b. is_released h.place xs || b) (released_by_own xs rest later by h.place h.entry gave none) ∙ or_false (is_released h.place xs))))
      (acquired_gave [] xs))
    where
      or_false : (b : Bool) → (b || false) ≡ b
      or_false true = refl
      or_false false = refl

  -- where the seat has called itself
  pub held_own : (log : List (Given Call)) (c : Call) → IsLegal (log ++ given by c ∷ []) → held_by by (log ++ given by c ∷ []) ≡ filter (λ h. not (is_release h.place c)) (held_by by log ++ handle_at (length log) c)
  held_own log c legal =
      let g = given by c in
      let acquired : acquired_from by 0 (log ++ g ∷ []) ≡ acquired_from by 0 log ++ handle_at (length log) c =
      acquired_append 0 log (g ∷ []) ∙ ap (λ k. acquired_from by 0 log ++ acquired_from by k (g ∷ [])) (zero_plus (length log))
      ∙ ap (λ (b : Bool). acquired_from by 0 log ++ ((if b then handle_at (length log) c else []) ++ [])) (eq-eqb by by refl) ∙ ap (λ l. acquired_from by 0 log ++ l) (append-nil (handle_at (length log) c)) in
      let legal_log = (legal_parts [] log (g ∷ []) legal).0 in
      let test = released_test log c in
      ap (λ l. filter (λ h. not (is_released h.place (log ++ g ∷ []))) l) acquired
      ∙ filter_same (λ h. not (is_released h.place (log ++ g ∷ []))) (λ h. not (is_released h.place log) && not (is_release h.place c)) (acquired_from by 0 log ++ handle_at (length log) c) (all_true _ (λ h. test h.place) _)
      ∙ filter-append (λ h. not (is_released h.place log) && not (is_release h.place c)) (acquired_from by 0 log) (handle_at (length log) c)
      ∙ ap (λ l. l ++ filter (λ h. not (is_released h.place log) && not (is_release h.place c)) (handle_at (length log) c)) (sym (filter_twice (λ h. not (is_release h.place c)) (λ h. not (is_released h.place log)) (acquired_from by 0 log)))
      ∙ ap (λ l. filter (λ h. not (is_release h.place c)) (held_by by log) ++ l) (newest c (released_below [] log legal_log (length log) (omega arith)))
      ∙ sym (filter-append (λ h. not (is_release h.place c)) (held_by by log) (handle_at (length log) c))
    where
      all_true : (P : Shown → Type 0) → ((h : Shown) → P h) → (xs : List Shown) → AllByRecursion P xs
      all_true P f [] = tt
      all_true P f (x ∷ xs) = (f x, all_true P f xs)

      not_or : (a b : Bool) → not (a || (b || false)) ≡ (not a && not b)
      not_or true b = refl
      not_or false true = refl
      not_or false false = refl

      released_test : (log : List (Given Call)) (c : Call) (place : ℕ) → not (is_released place (log ++ given by c ∷ [])) ≡ (not (is_released place log) && not (is_release place c))
      released_test log c place = ap not (list_any-append (λ g. is_release place g.entry) log (given by c ∷ [])) ∙ not_or (is_released place log) (is_release place c)

      newest : (c : Call) → is_released (length log) log ≡ false → filter (λ h. not (is_released h.place log) && not (is_release h.place c)) (handle_at (length log) c) ≡ filter (λ h. not (is_release h.place c)) (handle_at (length log) c)
      newest (call.Publish entries n) new = refl
      newest (call.Acquire platform id (Some e)) new = rw new refl
      newest (call.Acquire platform id None) new = refl
      newest (call.Release at) new = refl
      newest (call.Ask n) new = refl
      newest (call.Status status) new = refl
      newest call.Skip new = refl

  pub held_none : (log : List (Given Call)) → entries_of by log ≡ [] → held_by by log ≡ []
  held_none log none = ap (λ l. filter (λ h. not (is_released h.place log)) l) (acquired_none 0 log none)
