-- The members of a list, from its front.
use Rattle.std.proofs.Common.{◌≡◌, ◌⊎◌, ◌<◌, Bool, true, false, cond, List, [], ◌∷◌, Contains, filter, refl, ap, subst, sym, ◌∙◌, inl, inr, arith, ⊎_elim}
use Rattle.std.proofs.lemmas.List.Elements.{Contains-append_right, Contains-append_cases, Contains-push_cases}

module _ {X : Type 0} where
  pub Contains-none : (q : X) → Contains [] q → ⊥
  Contains-none q h = let low : h.0 < 0 = h.1 in omega arith

  pub Contains-cons_cases : (x : X) (xs : List X) (q : X) → Contains (x ∷ xs) q → (x ≡ q) ⊎ Contains xs q
  Contains-cons_cases x xs q h = ⊎_elim first inr (Contains-append_cases (x ∷ []) xs q h)
    where
      first : Contains (x ∷ []) q → (x ≡ q) ⊎ Contains xs q
      first h = ⊎_elim (λ none. absurd (Contains-none q none)) inl (Contains-push_cases [] x q h)

  pub Contains-head : (x : X) (xs : List X) → Contains (x ∷ xs) x
  Contains-head x xs = (0, omega arith, refl)

  pub Contains-tail_of : (x : X) (xs : List X) (q : X) → Contains xs q → Contains (x ∷ xs) q
  Contains-tail_of x xs q h = Contains-append_right (x ∷ []) xs q h

  -- a member that passes stays under a filter
  pub Contains-filter : (p : X → Bool) (xs : List X) (q : X) → p q ≡ true → Contains xs q → Contains (filter p xs) q
  Contains-filter p [] q h k = absurd (Contains-none q k)
  Contains-filter p (x ∷ xs) q h k = ⊎_elim
      (λ e. let passes : p x ≡ true = ap p e ∙ h in rw passes (subst (λ w. Contains (x ∷ filter p xs) w) e (Contains-head x (filter p xs))))
      (λ later. kept (p x) (Contains-filter p xs q h later))
      (Contains-cons_cases x xs q k)
    where
      kept : (b : Bool) → Contains (filter p xs) q → Contains (cond b (x ∷ filter p xs) (filter p xs)) q
      kept true m = Contains-tail_of x (filter p xs) q m
      kept false m = m

  -- a member of a filtered list is one of the list, and passes
  pub Contains-filtered : (p : X → Bool) (xs : List X) (q : X) → Contains (filter p xs) q → Contains xs q × (p q ≡ true)
  Contains-filtered p [] q k = absurd (Contains-none q k)
  Contains-filtered p (x ∷ xs) q k = step (λ m. let r = Contains-filtered p xs q m in (Contains-tail_of x xs q r.0, r.1)) (p x) refl k
    where
      step : (Contains (filter p xs) q → Contains (x ∷ xs) q × (p q ≡ true)) → (b : Bool) → p x ≡ b → Contains (cond b (x ∷ filter p xs) (filter p xs)) q → Contains (x ∷ xs) q × (p q ≡ true)
      step later true e m = ⊎_elim (λ s. (subst (λ w. Contains (x ∷ xs) w) s (Contains-head x xs), ap p (sym s) ∙ e)) later (Contains-cons_cases x (filter p xs) q m)
      step later false e m = later m
