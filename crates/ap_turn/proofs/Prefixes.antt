-- Prefixes of one history, and the entries of one seat number in them.
use Rattle.std.proofs.Common.{◌≡◌, ◌≢◌, ℕ, zero, suc, ◌<◌, ◌≤◌, ◌==◌, ◌⊎◌, List, [], ◌∷◌, ◌++◌, length, Bool, true, false, inl, inr, ⊎_elim, refl, sym, ap, ◌∙◌, subst, arith, append_assoc, length-append, if◌then◌else◌, nat_lt, ne_eqb, eq-eqb}
use Rattle.std.proofs.lemmas.List.{append-nil}
use Rattle.std.proofs.lemmas.Bool.Decides.{nat_tests}
use Rattle.std.proofs.lemmas.List.Elements.{filter-append}
use mathlib.Core.List.{IsPrefix}
use mathlib.Core.Option.{some, some-injective, some-ne-none}
use lib.ListN.{get_elem?}
use Rattle.ap_turn.specs.declared.held.Given.{Given}
use Rattle.ap_turn.specs.Views.{given, entries_of, longer}

module _ {A : Type 0} where
  pub prefix_self : (xs : List A) → IsPrefix xs xs
  prefix_self xs = ([], append-nil xs)

  pub prefix_nil : (xs : List A) → IsPrefix [] xs
  prefix_nil xs = (xs, refl)

  pub prefix_trans : (xs ys zs : List A) → IsPrefix xs ys → IsPrefix ys zs → IsPrefix xs zs
  prefix_trans xs ys zs p q = (p.0 ++ q.0, sym (append_assoc xs p.0 q.0) ∙ (ap (λ w. w ++ q.0) p.1 ∙ q.1))

  pub prefix_more : (xs ys zs : List A) → IsPrefix xs ys → IsPrefix xs (ys ++ zs)
  prefix_more xs ys zs p = prefix_trans xs ys (ys ++ zs) p (zs, refl)

  pub prefix_length : (xs ys : List A) → IsPrefix xs ys → length xs ≤ length ys
  prefix_length xs ys p = omega (arith, sym (ap length p.1) ∙ length-append xs p.0)

  -- of two prefixes of one list the shorter is a prefix of the longer
  pub prefix_shorter : (xs ys zs : List A) → IsPrefix xs zs → IsPrefix ys zs → length xs ≤ length ys → IsPrefix xs ys
  prefix_shorter [] ys zs p q le = (ys, refl)
  prefix_shorter (x ∷ xs) [] zs p q le = absurd (omega arith)
  prefix_shorter (x ∷ xs) (y ∷ ys) [] p q le = absurd (cc (p.1))
  prefix_shorter (x ∷ xs) (y ∷ ys) (z ∷ zs) p q le =
      let heads : x ≡ y = cc (p.1, q.1) in
      let rest = prefix_shorter xs ys zs (p.0, cc (p.1)) (q.0, cc (q.1)) (omega arith) in
      (rest.0, cc (heads, rest.1))

  -- a prefix that is as long as the whole is the whole
  pub prefix_whole : (xs ys : List A) → IsPrefix xs ys → length ys ≤ length xs → xs ≡ ys
  prefix_whole [] [] p le = refl
  prefix_whole [] (y ∷ ys) p le = absurd (omega arith)
  prefix_whole (x ∷ xs) [] p le = absurd (cc (p.1))
  prefix_whole (x ∷ xs) (y ∷ ys) p le = let rest = prefix_whole xs ys (p.0, cc (p.1)) (omega arith) in cc (p.1, rest)

  pub prefix_empty : (xs : List A) → IsPrefix xs [] → xs ≡ []
  prefix_empty xs p = prefix_whole xs [] p (omega arith)

  pub at_only : (a b : A) (j : ℕ) → get_elem? (a ∷ []) j ≡ some b → (j ≡ 0) × (a ≡ b)
  at_only a b zero e = (refl, some-injective a b e)
  at_only a b (suc j) e = absurd (some-ne-none b (sym e))

  -- an element of a list with one more at its end
  pub at_one_more : (l : List A) (a b : A) (j : ℕ) → get_elem? (l ++ a ∷ []) j ≡ some b → (get_elem? l j ≡ some b) ⊎ ((j ≡ length l) × (a ≡ b))
  at_one_more [] a b zero e = inr (refl, some-injective a b e)
  at_one_more [] a b (suc j) e = absurd (some-ne-none b (sym e))
  at_one_more (x ∷ xs) a b zero e = inl e
  at_one_more (x ∷ xs) a b (suc j) e = ⊎_elim (λ p. inl p) (λ (t : (j ≡ length xs) × (a ≡ b)). inr (omega (arith, t.0), t.1)) (at_one_more xs a b j e)

  pub at_below : (l : List A) (i : ℕ) (a : A) → get_elem? l i ≡ some a → i < length l
  at_below [] i a e = absurd (some-ne-none a (sym e))
  at_below (x ∷ xs) zero a e = omega arith
  at_below (x ∷ xs) (suc i) a e = let l = at_below xs i a e in omega arith

module _ {E : Type 0} where
  pub prefix_entries : (by : ℕ) (xs ys : List (Given E)) → IsPrefix xs ys → IsPrefix (entries_of by xs) (entries_of by ys)
  prefix_entries by xs ys p = (entries_of by p.0, sym (filter-append (λ g. g.by == by) xs p.0) ∙ ap (entries_of by) p.1)

  -- where the whole has no entry of a number, no prefix has
  pub no_entries : (by : ℕ) (xs ys : List (Given E)) → IsPrefix xs ys → entries_of by ys ≡ [] → entries_of by xs ≡ []
  no_entries by xs ys p e = prefix_empty (entries_of by xs) (subst (IsPrefix (entries_of by xs)) e (prefix_entries by xs ys p))

  -- a list between a prefix with all entries of a number and the whole has all of them
  pub entries_between : (by : ℕ) (xs ys zs : List (Given E)) → IsPrefix xs ys → IsPrefix ys zs → entries_of by xs ≡ entries_of by zs → entries_of by ys ≡ entries_of by zs
  entries_between by xs ys zs p q e =
      let a : length (entries_of by xs) ≤ length (entries_of by ys) = prefix_length (entries_of by xs) (entries_of by ys) (prefix_entries by xs ys p) in
      let b : length (entries_of by xs) ≡ length (entries_of by zs) = ap length e in
      prefix_whole (entries_of by ys) (entries_of by zs) (prefix_entries by ys zs q) (omega arith)

  one_else : (by j : ℕ) (e : E) → j ≢ by → entries_of j (given by e ∷ []) ≡ []
  one_else by j e ne = ap (λ (b : Bool). if b then given by e ∷ [] else []) (ne_eqb by j (λ is. ne (sym is)))

  -- an entry of another number adds nothing to the entries of a number
  pub entries_else : (by j : ℕ) (log : List (Given E)) (e : E) → j ≢ by → entries_of j (log ++ given by e ∷ []) ≡ entries_of j log
  entries_else by j log e ne = filter-append (λ g. g.by == j) log (given by e ∷ []) ∙ (ap (λ l. entries_of j log ++ l) (one_else by j e ne) ∙ append-nil (entries_of j log))

  -- an entry of a number stands behind its earlier entries
  pub entries_own : (by : ℕ) (log : List (Given E)) (e : E) → entries_of by (log ++ given by e ∷ []) ≡ entries_of by log ++ given by e ∷ []
  entries_own by log e = filter-append (λ g. g.by == by) log (given by e ∷ []) ∙ ap (λ (b : Bool). entries_of by log ++ (if b then given by e ∷ [] else [])) (eq-eqb by by refl)

  -- a longer history has no fewer entries of a number
  pub entries_grow : (by : ℕ) (xs ys : List (Given E)) → IsPrefix xs ys → length (entries_of by xs) ≤ length (entries_of by ys)
  entries_grow by xs ys p = prefix_length (entries_of by xs) (entries_of by ys) (prefix_entries by xs ys p)

  longer_by : (xs ys log : List (Given E)) → IsPrefix xs log → IsPrefix ys log → (b : Bool) → nat_lt (length xs) (length ys) ≡ b
      → IsPrefix xs (if b then ys else xs) × IsPrefix ys (if b then ys else xs) × IsPrefix (if b then ys else xs) log
  longer_by xs ys log p q true is = (prefix_shorter xs ys log p q (grind (arith, nat_tests)), prefix_self ys, q)
  longer_by xs ys log p q false is = (prefix_self xs, prefix_shorter ys xs log q p (grind (arith, nat_tests)), p)

  -- the longer of two prefixes of one list begins with each, and is a prefix too
  pub longer_prefix : (xs ys log : List (Given E)) → IsPrefix xs log → IsPrefix ys log → IsPrefix xs (longer xs ys) × IsPrefix ys (longer xs ys) × IsPrefix (longer xs ys) log
  longer_prefix xs ys log p q = longer_by xs ys log p q (nat_lt (length xs) (length ys)) refl

  -- of two prefixes of which one is the whole, the longer is the whole
  pub longer_whole : (xs ys log : List (Given E)) → IsPrefix xs log → IsPrefix ys log → (xs ≡ log) ⊎ (ys ≡ log) → longer xs ys ≡ log
  longer_whole xs ys log p q w = let l = longer_prefix xs ys log p q in
      ⊎_elim (λ e. prefix_whole (longer xs ys) log l.2 (subst (λ z. length z ≤ length (longer xs ys)) e (prefix_length xs (longer xs ys) l.0)))
      (λ e. prefix_whole (longer xs ys) log l.2 (subst (λ z. length z ≤ length (longer xs ys)) e (prefix_length ys (longer xs ys) l.1))) w
