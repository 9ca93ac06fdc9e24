-- One number under each digest, and a list of the others.
use Rattle.std.proofs.Common.{◌≡◌, ◌≢◌, ◌⊎◌, ℕ, Bool, true, false, cond, List, Option, Some, None, nat_eq, refl, sym, ap, ◌∙◌, inl, inr}
use Rattle.std.specs.Cmp.Lexicographic.{pointwise, same_text, nat_list_eq_equiv}

abbrev pub eq : List ℕ → List ℕ → Bool
eq = pointwise nat_eq

module _ (old new : List ℕ → Option ℕ) (digest : List ℕ) (n : ℕ) (empty : old digest ≡ None) (puts : (q : List ℕ) → new q ≡ cond (eq digest q) (Some n) (old q)) where
  -- after a first number is put under a digest, each digest with a number keeps it
  pub first_still : (d : List ℕ) (m : ℕ) → old d ≡ Some m → new d ≡ Some m
  first_still d m e = step (eq digest d) refl
    where
      step : (b : Bool) → eq digest d ≡ b → new d ≡ Some m
      step true s = let same = same_text digest d (sym s) in absurd (differ (sym empty ∙ ap old same ∙ e))
        where
          differ : None ≡ Some m → ⊥
          differ e = cc
      step false s = puts d ∙ ap (λ b. cond b (Some n) (old d)) s ∙ e

  pub first_only : (d : List ℕ) (m : ℕ) → new d ≡ Some m → (old d ≡ Some m) ⊎ ((d ≡ digest) × (m ≡ n))
  first_only d m e = step (eq digest d) refl
    where
      step : (b : Bool) → eq digest d ≡ b → (old d ≡ Some m) ⊎ ((d ≡ digest) × (m ≡ n))
      step true s =
          let there : Some n ≡ Some m = sym (puts d ∙ ap (λ b. cond b (Some n) (old d)) s) ∙ e in
          inr (sym (same_text digest d (sym s)), cc)
      step false s = inl (sym (puts d ∙ ap (λ b. cond b (Some n) (old d)) s) ∙ e)

module _ (old new : List ℕ → Option ℕ) (digest : List ℕ) (takes : (q : List ℕ) → new q ≡ cond (eq digest q) None (old q)) where
  -- after the number under a digest is taken out, the other digests keep theirs, and none has more
  pub taken_still : (d : List ℕ) (m n : ℕ) → old digest ≡ Some n → m ≢ n → old d ≡ Some m → new d ≡ Some m
  taken_still d m n there apart e = step (eq digest d) refl
    where
      step : (b : Bool) → eq digest d ≡ b → new d ≡ Some m
      step true s =
          let same = same_text digest d (sym s) in
          let one : Some n ≡ Some m = sym there ∙ ap old same ∙ e in
          absurd (apart cc)
      step false s = takes d ∙ ap (λ b. cond b None (old d)) s ∙ e

  pub taken_only : (d : List ℕ) (m : ℕ) → new d ≡ Some m → (old d ≡ Some m) × (d ≢ digest)
  taken_only d m e = step (eq digest d) refl
    where
      step : (b : Bool) → eq digest d ≡ b → (old d ≡ Some m) × (d ≢ digest)
      step true s =
          let there : None ≡ Some m = sym (takes d ∙ ap (λ b. cond b None (old d)) s) ∙ e in
          absurd cc
      step false s =
          let apart : d ≢ digest = λ q. absurd (differ (sym s ∙ ap (eq digest) q ∙ nat_list_eq_equiv.refl digest)) in
          (sym (takes d ∙ ap (λ b. cond b None (old d)) s) ∙ e, apart)
        where
          differ : false ≡ true → ⊥
          differ e = cc
