-- Lists that stand for one another, as they change; totals over them; and rows that rise.
use Rattle.std.proofs.Common.{◌≡◌, ◌+◌, ℕ, suc, Bool, true, false, not, cond, List, [], ◌∷◌, ◌++◌, length, map, Some, None, refl, sym, ◌∙◌, ap, subst, arith}
use Rattle.std.specs.Prelude.{filter, find}
use Rattle.std.specs.List.{AllByRecursion, flat_map}
use Rattle.std.specs.List.Sorted.{IsStrictlySortedBy}
use Rattle.std.specs.Cmp.{IsTotalOrder}
use Rattle.std.specs.declared.cmp.Ordering.{Ordering}
use Rattle.std.specs.declared.cmp.Ordering.TheVariants.{Less, Equal, Greater}
use Rattle.std.specs.Ordering.{is_eq, on, ordering_reverse, match_ordering}
use Rattle.ap_text.specs.Order.{put_in_order}
use Rattle.ap_db.specs.Listed.{AreAll, AreBoth, total, part, replaced}

module _ {X Y : Type 0} (Is : X → Y → Type 0) where
  pub alike_follows : (Also : X → Y → Type 0) → ((x : X) (y : Y) → Is x y → Also x y) → (xs : List X) (ys : List Y) → AreAll Is xs ys → AreAll Also xs ys
  alike_follows Also f [] [] h = tt
  alike_follows Also f [] (y ∷ ys) h = h
  alike_follows Also f (x ∷ xs) [] h = h
  alike_follows Also f (x ∷ xs) (y ∷ ys) h = (f x y h.0, alike_follows Also f xs ys h.1)

  pub alike_length : (xs : List X) (ys : List Y) → AreAll Is xs ys → length xs ≡ length ys
  alike_length [] [] h = refl
  alike_length [] (y ∷ ys) h = absurd h
  alike_length (x ∷ xs) [] h = absurd h
  alike_length (x ∷ xs) (y ∷ ys) h = ap suc (alike_length xs ys h.1)

  pub alike_keys : {K : Type 0} (f : X → K) (g : Y → K) → ((x : X) (y : Y) → Is x y → f x ≡ g y) → (xs : List X) (ys : List Y) → AreAll Is xs ys → map f xs ≡ map g ys
  alike_keys f g keys [] [] h = refl
  alike_keys f g keys [] (y ∷ ys) h = absurd h
  alike_keys f g keys (x ∷ xs) [] h = absurd h
  alike_keys f g keys (x ∷ xs) (y ∷ ys) h = λ i. keys x y h.0 i ∷ alike_keys f g keys xs ys h.1 i

  module _ (cmpX : X → X → Ordering) (cmpY : Y → Y → Ordering) (ranks : (x x' : X) (y y' : Y) → Is x y → Is x' y' → cmpX x x' ≡ cmpY y y') (x : X) (y : Y) (is : Is x y) where
    pub put_alike : (xs : List X) (ys : List Y) → AreAll Is xs ys → AreAll Is (put_in_order cmpX x xs) (put_in_order cmpY y ys)
    put_alike [] [] h = (is, tt)
    put_alike [] (b ∷ ys) h = absurd h
    put_alike (a ∷ xs) [] h = absurd h
    put_alike (a ∷ xs) (b ∷ ys) h = subst (λ o. AreAll Is (match_ordering o (x ∷ a ∷ xs) (x ∷ xs) (a ∷ put_in_order cmpX x xs)) (put_in_order cmpY y (b ∷ ys))) (sym (ranks x a y b is h.0)) (step (cmpY y b) (put_alike xs ys h.1))
      where
        step : (o : Ordering) → AreAll Is (put_in_order cmpX x xs) (put_in_order cmpY y ys) → AreAll Is (match_ordering o (x ∷ a ∷ xs) (x ∷ xs) (a ∷ put_in_order cmpX x xs)) (match_ordering o (y ∷ b ∷ ys) (y ∷ ys) (b ∷ put_in_order cmpY y ys))
        step Less rest = (is, h)
        step Equal rest = (is, h.1)
        step Greater rest = (h.0, rest)

    pub replaced_alike : (xs : List X) (ys : List Y) → AreAll Is xs ys → AreBoth Is (replaced cmpX x xs) (replaced cmpY y ys)
    replaced_alike [] [] h = tt
    replaced_alike [] (b ∷ ys) h = absurd h
    replaced_alike (a ∷ xs) [] h = absurd h
    replaced_alike (a ∷ xs) (b ∷ ys) h = subst (λ o. AreBoth Is (match_ordering o None (Some a) (replaced cmpX x xs)) (replaced cmpY y (b ∷ ys))) (sym (ranks x a y b is h.0)) (step (cmpY y b) (replaced_alike xs ys h.1))
      where
        step : (o : Ordering) → AreBoth Is (replaced cmpX x xs) (replaced cmpY y ys) → AreBoth Is (match_ordering o None (Some a) (replaced cmpX x xs)) (match_ordering o None (Some b) (replaced cmpY y ys))
        step Less rest = tt
        step Equal rest = h.0
        step Greater rest = rest

  module _ (p : X → Bool) (q : Y → Bool) (tests : (x : X) (y : Y) → Is x y → p x ≡ q y) where
    pub filter_alike : (xs : List X) (ys : List Y) → AreAll Is xs ys → AreAll Is (filter (λ x. not (p x)) xs) (filter (λ y. not (q y)) ys)
    filter_alike [] [] h = tt
    filter_alike [] (b ∷ ys) h = absurd h
    filter_alike (a ∷ xs) [] h = absurd h
    filter_alike (a ∷ xs) (b ∷ ys) h =
        subst (λ t. AreAll Is (cond (not t) (a ∷ filter (λ x. not (p x)) xs) (filter (λ x. not (p x)) xs)) (filter (λ y. not (q y)) (b ∷ ys))) (sym (tests a b h.0)) (step (q b) (filter_alike xs ys h.1))
      where
        step : (t : Bool) → AreAll Is (filter (λ x. not (p x)) xs) (filter (λ y. not (q y)) ys) → AreAll Is (cond (not t) (a ∷ filter (λ x. not (p x)) xs) (filter (λ x. not (p x)) xs)) (cond (not t) (b ∷ filter (λ y. not (q y)) ys) (filter (λ y. not (q y)) ys))
        step true rest = rest
        step false rest = (h.0, rest)

    pub find_alike : (xs : List X) (ys : List Y) → AreAll Is xs ys → AreBoth Is (find p xs) (find q ys)
    find_alike [] [] h = tt
    find_alike [] (b ∷ ys) h = absurd h
    find_alike (a ∷ xs) [] h = absurd h
    find_alike (a ∷ xs) (b ∷ ys) h = subst (λ t. AreBoth Is (cond t (Some a) (find p xs)) (find q (b ∷ ys))) (sym (tests a b h.0)) (step (q b) (find_alike xs ys h.1))
      where
        step : (t : Bool) → AreBoth Is (find p xs) (find q ys) → AreBoth Is (cond t (Some a) (find p xs)) (cond t (Some b) (find q ys))
        step true rest = h.0
        step false rest = rest

-- ---- totals

module _ {X : Type 0} where
  pub total_append : (f : X → ℕ) (xs ys : List X) → total f (xs ++ ys) ≡ total f xs + total f ys
  total_append f [] ys = omega arith
  total_append f (x ∷ xs) ys = omega (arith, total_append f xs ys)

  pub total_flat : {Y : Type 0} (f : X → ℕ) (g : Y → List X) (ys : List Y) → total f (flat_map g ys) ≡ total (λ y. total f (g y)) ys
  total_flat f g [] = refl
  total_flat f g (y ∷ ys) = omega (arith, total_append f (g y) (flat_map g ys), total_flat f g ys)

  pub total_map : {Y : Type 0} (f : X → ℕ) (g : Y → X) (ys : List Y) → total f (map g ys) ≡ total (λ y. f (g y)) ys
  total_map f g [] = refl
  total_map f g (y ∷ ys) = omega (arith, total_map f g ys)

  pub total_one : (xs : List X) → total (λ x. 1) xs ≡ length xs
  total_one [] = refl
  total_one (x ∷ xs) = omega (arith, total_one xs)

  -- a put adds the one and takes away the one that it replaces
  pub put_total : (f : X → ℕ) (cmp : X → X → Ordering) (x : X) (ys : List X) → total f (put_in_order cmp x ys) + part f (replaced cmp x ys) ≡ total f ys + f x
  put_total f cmp x [] = omega arith
  put_total f cmp x (y ∷ ys) = step (cmp x y) (put_total f cmp x ys)
    where
      step : (o : Ordering) → total f (put_in_order cmp x ys) + part f (replaced cmp x ys) ≡ total f ys + f x
          → total f (match_ordering o (x ∷ y ∷ ys) (x ∷ ys) (y ∷ put_in_order cmp x ys)) + part f (match_ordering o None (Some y) (replaced cmp x ys)) ≡ f y + total f ys + f x
      step Less rest = omega arith
      step Equal rest = omega arith
      step Greater rest = omega (arith, rest)

-- ---- rows that rise

module _ {X K : Type 0} (cmp : K → K → Ordering) (total_order : IsTotalOrder cmp) (key : X → K) where
  all_put : (P : K → Type 0) (x : X) (ys : List X) → P (key x) → AllByRecursion P (map key ys) → AllByRecursion P (map key (put_in_order (on key cmp) x ys))
  all_put P x [] p h = (p, tt)
  all_put P x (y ∷ ys) p h = step (cmp (key x) (key y)) (all_put P x ys p h.1)
    where
      step : (o : Ordering) → AllByRecursion P (map key (put_in_order (on key cmp) x ys)) → AllByRecursion P (map key (match_ordering o (x ∷ y ∷ ys) (x ∷ ys) (y ∷ put_in_order (on key cmp) x ys)))
      step Less rest = (p, h)
      step Equal rest = (p, h.1)
      step Greater rest = (h.0, rest)

  behind_all : (P Q : K → Type 0) (ys : List X) → ((k : K) → P k → Q k) → AllByRecursion P (map key ys) → AllByRecursion Q (map key ys)
  behind_all P Q [] f h = tt
  behind_all P Q (y ∷ ys) f h = (f (key y) h.0, behind_all P Q ys f h.1)

  pub put_rises : (x : X) (ys : List X) → IsStrictlySortedBy cmp (map key ys) → IsStrictlySortedBy cmp (map key (put_in_order (on key cmp) x ys))
  unfolding IsStrictlySortedBy
  put_rises x [] h = (tt, tt)
  put_rises x (y ∷ ys) h = step (cmp (key x) (key y)) refl (put_rises x ys h.1)
    where
      step : (o : Ordering) → cmp (key x) (key y) ≡ o → IsStrictlySortedBy cmp (map key (put_in_order (on key cmp) x ys)) → IsStrictlySortedBy cmp (map key (match_ordering o (x ∷ y ∷ ys) (x ∷ ys) (y ∷ put_in_order (on key cmp) x ys)))
      step Less e rest = ((e, behind_all (λ k. cmp (key y) k ≡ Less) (λ k. cmp (key x) k ≡ Less) ys (λ k less. total_order.trans (key x) (key y) k e less) h.0), h)
      step Equal e rest = (behind_all (λ k. cmp (key y) k ≡ Less) (λ k. cmp (key x) k ≡ Less) ys (λ k less. total_order.congr (key x) (key y) k e ∙ less) h.0, h.1)
      step Greater e rest = (all_put (λ k. cmp (key y) k ≡ Less) x ys (total_order.antisymm (key y) (key x) ∙ ap ordering_reverse e) h.0, rest)

  all_filter : (P : K → Type 0) (p : X → Bool) (ys : List X) → AllByRecursion P (map key ys) → AllByRecursion P (map key (filter p ys))
  all_filter P p [] h = tt
  all_filter P p (y ∷ ys) h = step (p y) (all_filter P p ys h.1)
    where
      step : (b : Bool) → AllByRecursion P (map key (filter p ys)) → AllByRecursion P (map key (cond b (y ∷ filter p ys) (filter p ys)))
      step true rest = (h.0, rest)
      step false rest = rest

  pub filter_rises : (p : X → Bool) (ys : List X) → IsStrictlySortedBy cmp (map key ys) → IsStrictlySortedBy cmp (map key (filter p ys))
  unfolding IsStrictlySortedBy
  filter_rises p [] h = tt
  filter_rises p (y ∷ ys) h = step (p y) (filter_rises p ys h.1)
    where
      step : (b : Bool) → IsStrictlySortedBy cmp (map key (filter p ys)) → IsStrictlySortedBy cmp (map key (cond b (y ∷ filter p ys) (filter p ys)))
      step true rest = (all_filter (λ k. cmp (key y) k ≡ Less) p ys h.0, rest)
      step false rest = rest

  module _ (k : K) (test : X → Bool) (tests : (y : X) → test y ≡ is_eq (cmp (key y) k)) where
    none_pass : (f : X → ℕ) (ys : List X) → AllByRecursion (λ w. cmp k w ≡ Less) (map key ys) → total f (filter (λ y. not (test y)) ys) ≡ total f ys
    none_pass f [] h = refl
    none_pass f (y ∷ ys) h =
        let fails : test y ≡ false = tests y ∙ ap is_eq (total_order.antisymm (key y) k ∙ ap ordering_reverse h.0) in
        ap (λ b. total f (cond (not b) (y ∷ filter (λ y. not (test y)) ys) (filter (λ y. not (test y)) ys))) fails ∙ ap (λ n. f y + n) (none_pass f ys h.1)

    -- of rows that rise a removal takes away the one of the key
    pub filter_total : (f : X → ℕ) (ys : List X) → IsStrictlySortedBy cmp (map key ys) → total f (filter (λ y. not (test y)) ys) + part f (find test ys) ≡ total f ys
    unfolding IsStrictlySortedBy
    filter_total f [] h = refl
    filter_total f (y ∷ ys) h = step (cmp (key y) k) refl (filter_total f ys h.1)
      where
        goal : Bool → Type 0
        goal b = total f (cond (not b) (y ∷ filter (λ y. not (test y)) ys) (filter (λ y. not (test y)) ys)) + part f (cond b (Some y) (find test ys)) ≡ f y + total f ys

        fails : test y ≡ false → total f (filter (λ y. not (test y)) ys) + part f (find test ys) ≡ total f ys → goal (test y)
        fails e rest = subst goal (sym e) (omega (arith, rest))

        step : (o : Ordering) → cmp (key y) k ≡ o → total f (filter (λ y. not (test y)) ys) + part f (find test ys) ≡ total f ys → goal (test y)
        step Less e rest = fails (tests y ∙ ap is_eq e) rest
        step Equal e rest =
            let is : test y ≡ true = tests y ∙ ap is_eq e in
            let all = none_pass f ys (behind_all (λ w. cmp (key y) w ≡ Less) (λ w. cmp k w ≡ Less) ys (λ w less. sym (total_order.congr (key y) k w e) ∙ less) h.0) in
            subst goal (sym is) (omega (arith, all))
        step Greater e rest = fails (tests y ∙ ap is_eq e) rest
