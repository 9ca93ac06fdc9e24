-- What slots count, after one of them changed.
use Rattle.std.proofs.Common.{◌≡◌, ◌≢◌, ℕ, zero, suc, ◌+◌, ◌-◌, ◌<◌, ◌≤◌, ◌⊎◌, List, [], ◌∷◌, ◌++◌, length, get_or, take, drop, Bool, true, false, cond, ◌==◌, is_some, Option, Some, None, refl, sym, ap, subst, ◌∙◌, inl, inr, ⊎_elim, arith}
use Rattle.ap_content.specs.declared.node.Number.{Number}
use Rattle.ap_content.specs.declared.slots.Interned.{Interned}
use Rattle.ap_content.specs.Counting.{total, one_if, kid_times, living, spent, raised, lowered}
use Rattle.std.proofs.lemmas.List.{take_all}
use Rattle.std.proofs.lemmas.Bool.Decides.{nat_tests, Decides-eqb, not_from_Decides}

module _ {X : Type 0} (f : Option X → ℕ) (none : f None ≡ 0) where
  -- lists with the same at each place come to the same
  pub total-same : (xs ys : List (Option X)) → ((j : ℕ) → f (get_or ys j None) ≡ f (get_or xs j None)) → total f ys ≡ total f xs
  total-same [] [] h = refl
  total-same [] (y ∷ ys) h =
      let here : f y ≡ 0 = h 0 ∙ none in
      let later : total f ys ≡ 0 = total-same [] ys (λ j. h (suc j)) in
      omega arith
  total-same (x ∷ xs) [] h =
      let here : f x ≡ 0 = sym (h 0) ∙ none in
      let later : 0 ≡ total f xs = total-same xs [] (λ j. h (suc j)) in
      omega arith
  total-same (x ∷ xs) (y ∷ ys) h =
      let here : f y ≡ f x = h 0 in
      let later : total f ys ≡ total f xs = total-same xs ys (λ j. h (suc j)) in
      omega arith

  -- lists that differ at one place alone differ by what that place counts
  pub total-at : (k : ℕ) (xs ys : List (Option X)) → ((j : ℕ) → j ≢ k → f (get_or ys j None) ≡ f (get_or xs j None))
      → total f ys + f (get_or xs k None) ≡ total f xs + f (get_or ys k None)
  total-at k [] [] h = refl
  total-at zero [] (y ∷ ys) h =
      let later : total f ys ≡ 0 = total-same [] ys (λ j. h (suc j) (λ e. omega arith)) in
      omega arith
  total-at zero (x ∷ xs) [] h =
      let later : 0 ≡ total f xs = total-same xs [] (λ j. h (suc j) (λ e. omega arith)) in
      omega arith
  total-at zero (x ∷ xs) (y ∷ ys) h =
      let later : total f ys ≡ total f xs = total-same xs ys (λ j. h (suc j) (λ e. omega arith)) in
      omega arith
  total-at (suc k) [] (y ∷ ys) h =
      let here : f y ≡ 0 = h 0 (λ e. omega arith) ∙ none in
      let later : total f ys + f None ≡ 0 + f (get_or ys k None) = total-at k [] ys (λ j ne. h (suc j) (λ e. ne (omega arith))) in
      omega arith
  total-at (suc k) (x ∷ xs) [] h =
      let here : f x ≡ 0 = sym (h 0 (λ e. omega arith)) ∙ none in
      let later : 0 + f (get_or xs k None) ≡ total f xs + f None = total-at k xs [] (λ j ne. h (suc j) (λ e. ne (omega arith))) in
      omega arith
  total-at (suc k) (x ∷ xs) (y ∷ ys) h =
      let here : f y ≡ f x = h 0 (λ e. omega arith) in
      let later : total f ys + f (get_or xs k None) ≡ total f xs + f (get_or ys k None) = total-at k xs ys (λ j ne. h (suc j) (λ e. ne (omega arith))) in
      omega arith

  -- where all comes to nothing, each place does
  pub total-none : (xs : List (Option X)) → total f xs ≡ 0 → (k : ℕ) → f (get_or xs k None) ≡ 0
  total-none [] e k = none
  total-none (x ∷ xs) e zero = omega arith
  total-none (x ∷ xs) e (suc k) = let rest : total f xs ≡ 0 = omega arith in total-none xs rest k

  -- where it comes to something, some place does
  pub total-some : (xs : List (Option X)) → 0 < total f xs → (k : ℕ) × (0 < f (get_or xs k None))
  total-some [] e = absurd (omega arith)
  total-some (x ∷ xs) e = step (f x) refl (total-some xs)
    where
      step : (n : ℕ) → f x ≡ n → (0 < total f xs → (k : ℕ) × (0 < f (get_or xs k None))) → (k : ℕ) × (0 < f (get_or (x ∷ xs) k None))
      step zero h later = let r = later (omega arith) in (suc r.0, r.1)
      step (suc n) h later = (0, omega arith)

-- where each place comes to nothing, all does
pub total-zero : {X : Type 0} (f : Option X → ℕ) → f None ≡ 0 → (xs : List (Option X)) → ((j : ℕ) → f (get_or xs j None) ≡ 0) → total f xs ≡ 0
total-zero f none xs h = sym (total-same f none xs [] (λ j. none ∙ sym (h j)))

-- what one function gives less than another at each item, it gives less over all
pub total-le : {X : Type 0} (f g : X → ℕ) → ((x : X) → f x ≤ g x) → (xs : List X) → total f xs ≤ total g xs
total-le f g h [] = omega arith
total-le f g h (x ∷ xs) = let a = h x in let b = total-le f g h xs in omega arith

pub spent-le-living : (s : Option Interned) → spent s ≤ living s
spent-le-living None = omega arith
spent-le-living (Some x) = grind (arith, nat_tests)

pub total-append : {X : Type 0} (f : X → ℕ) (xs ys : List X) → total f (xs ++ ys) ≡ total f xs + total f ys
total-append f [] ys = omega arith
total-append f (x ∷ xs) ys = let h = total-append f xs ys in omega arith

-- the front of a list and the others are the list
pub cons-again : {X : Type 0} (d : X) (xs : List X) → 1 ≤ length xs → get_or xs 0 d ∷ take (length xs - 1) (drop 1 xs) ≡ xs
cons-again d [] h = absurd (omega arith)
cons-again d (x ∷ xs) h = ap (λ ys. x ∷ ys) (take_all (suc (length xs) - 1) xs (omega arith))

module _ (change : ℕ → Option Interned → Option Interned) (none : (s : Option Interned) → change 0 s ≡ s)
    (twice : (a : ℕ) (s : Option Interned) → change a (change 1 s) ≡ change (1 + a) s) where
  -- one change, and then the others
  change-step : (k n a : ℕ) (old new : Option Interned) → (n ≡ k → new ≡ change 1 old) → (n ≢ k → new ≡ old) → change a new ≡ change (one_if n k + a) old
  change-step k n a old new here other = step (n == k) refl
    where
      step : (b : Bool) → n == k ≡ b → change a new ≡ change (cond b 1 0 + a) old
      step true e = ap (change a) (here ((Decides-eqb n k).0 e)) ∙ twice a old
      step false e =
          let apart : n ≢ k = not_from_Decides (n == k) (Decides-eqb n k) e in
          let same : a ≡ 0 + a = omega arith in
          ap (change a) (other apart) ∙ ap (λ m. change m old) same

pub raised-step : (k n a : ℕ) (old new : Option Interned) → (n ≡ k → new ≡ raised 1 old) → (n ≢ k → new ≡ old) → raised a new ≡ raised (one_if n k + a) old
raised-step = change-step raised none twice
  where
    none : (s : Option Interned) → raised 0 s ≡ s
    none None = refl
    none (Some x) = let same : x.parents + 0 ≡ x.parents = omega arith in ap (λ p. Some (record x { parents = p })) same

    twice : (a : ℕ) (s : Option Interned) → raised a (raised 1 s) ≡ raised (1 + a) s
    twice a None = refl
    twice a (Some x) = let same : x.parents + 1 + a ≡ x.parents + (1 + a) = omega arith in ap (λ p. Some (record x { parents = p })) same

pub lowered-step : (k n a : ℕ) (old new : Option Interned) → (n ≡ k → new ≡ lowered 1 old) → (n ≢ k → new ≡ old) → lowered a new ≡ lowered (one_if n k + a) old
lowered-step = change-step lowered none twice
  where
    none : (s : Option Interned) → lowered 0 s ≡ s
    none None = refl
    none (Some x) = let same : x.parents - 0 ≡ x.parents = omega arith in ap (λ p. Some (record x { parents = p })) same

    twice : (a : ℕ) (s : Option Interned) → lowered a (lowered 1 s) ≡ lowered (1 + a) s
    twice a None = refl
    twice a (Some x) = let same : x.parents - 1 - a ≡ x.parents - (1 + a) = omega arith in ap (λ p. Some (record x { parents = p })) same

pub one_if-same : (n : ℕ) → one_if n n ≡ 1
one_if-same n = ap (λ b. cond b 1 0) ((Decides-eqb n n).1 refl)

pub one_if-apart : (n m : ℕ) → n ≢ m → one_if n m ≡ 0
one_if-apart n m apart = step (n == m) refl
  where
    step : (b : Bool) → n == m ≡ b → ◌≡◌ {A = ℕ} (cond b 1 0) 0
    step true e = absurd (apart ((Decides-eqb n m).0 e))
    step false e = refl

-- one of two cases of two numbers
pub equal_or_not : (m n : ℕ) → (m ≡ n) ⊎ (m ≢ n)
equal_or_not m n = step (m == n) refl
  where
    step : (b : Bool) → m == n ≡ b → (m ≡ n) ⊎ (m ≢ n)
    step true e = inl ((Decides-eqb m n).0 e)
    step false e = inr (not_from_Decides (m == n) (Decides-eqb m n) e)

pub same-one_if : (n m : ℕ) → 0 < one_if n m → n ≡ m
same-one_if n m h = ⊎_elim (λ e. e) (λ apart. let none = one_if-apart n m apart in absurd (omega arith)) (equal_or_not n m)

pub one_if-le : (n m : ℕ) → one_if n m ≤ 1
one_if-le n m = grind (arith, nat_tests)

-- how many parents a slot counts
abbrev parents_of : Option Interned → ℕ
parents_of None = 0
parents_of (Some z) = z.parents

-- what one more would come to, where the others are still to come
pub raised-room : (t all : ℕ) (x : Interned) (first : Option Interned) (most : ℕ) → raised (1 + t) (Some x) ≡ raised all first
    → ((y : Interned) → first ≡ Some y → y.parents + all < most) → x.parents + 1 < most
raised-room t all x None most e h = absurd (never (ap is_some e))
  where
    never : true ≡ false → ⊥
    never e = cc
raised-room t all x (Some y) most e h =
    let low = h y refl in
    let same : x.parents + (1 + t) ≡ y.parents + all = ap (λ s. parents_of s) e in
    omega arith

pub kid_times-le-length : (n : ℕ) (kids : List Number) → kid_times n kids ≤ length kids
kid_times-le-length n [] = omega arith
kid_times-le-length n (kid ∷ kids) =
    let here = one_if-le n kid.0 in
    let later = kid_times-le-length n kids in
    omega arith

pub nothing-left : {X : Type 0} (xs : List X) → length xs < 1 → xs ≡ []
nothing-left [] h = refl
nothing-left (x ∷ xs) h = absurd (omega arith)

-- there are still as many parents as the others come to
pub lowered-left : (k n t : ℕ) (old new : Option Interned) → (n ≡ k → new ≡ lowered 1 old) → (n ≢ k → new ≡ old)
    → ((x : Interned) → old ≡ Some x → one_if n k + t ≤ x.parents) → (y : Interned) → new ≡ Some y → t ≤ y.parents
lowered-left k n t old new here other enough y there = step (n == k) refl
  where
    less : (s : Option Interned) → ((x : Interned) → s ≡ Some x → 1 + t ≤ x.parents) → lowered 1 s ≡ Some y → t ≤ y.parents
    less None h e = absurd (cc)
    less (Some x) h e =
        let low = h x refl in
        let same : x.parents - 1 ≡ y.parents = ap (λ s. parents_of s) e in
        omega arith

    step : (b : Bool) → n == k ≡ b → t ≤ y.parents
    step true e =
        let same = (Decides-eqb n k).0 e in
        less old (λ x f. subst (λ m. m + t ≤ x.parents) (ap (λ b. cond b 1 0) e) (enough x f)) (sym (here same) ∙ there)
    step false e =
        let apart : n ≢ k = not_from_Decides (n == k) (Decides-eqb n k) e in
        let h = enough y (sym (other apart) ∙ there) in
        omega arith
