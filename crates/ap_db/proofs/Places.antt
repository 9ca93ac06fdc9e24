-- Where a search ends among rows that rise by their keys, and what a put or a removal there makes of them.
use Rattle.std.proofs.Common.{◌≡◌, ◌<◌, ◌≤◌, ◌+◌, ℕ, zero, suc, Bool, true, false, not, cond, List, [], ◌∷◌, ◌++◌, length, map, take, drop, Option, Some, None, Result, ◌-◌, Ok, Err, refl, sym, ◌∙◌, ap, subst, arith, add-one}
use Rattle.std.specs.Prelude.{slice_index_or, slice_set, filter, find}
use Rattle.std.specs.List.{AllByRecursion, insert, remove}
use Rattle.std.specs.List.Sorted.{IsSortedBy, IsStrictlySortedBy, IsBinarySearchResult, IsSearchInRange}
use Rattle.std.specs.Cmp.{IsTotalOrder}
use Rattle.std.specs.declared.cmp.Ordering.{Ordering}
use Rattle.std.specs.declared.cmp.Ordering.TheVariants.{Less, Equal, Greater}
use Rattle.std.specs.Ordering.{is_lt, is_eq, ordering_reverse, match_ordering}
use Rattle.std.proofs.lemmas.List.{take_at, drop_at}
use Rattle.std.proofs.lemmas.List.Sorted.{searchable_from_sorted}
use Rattle.ap_text.specs.Order.{put_in_order}
use Rattle.ap_db.specs.Listed.{IsPlaceOf, IsPutAt, IsTakenAt, replaced}

module _ {X : Type 0} where
  -- a list around one of its places
  pub split : (xs : List X) (i : ℕ) → i < length xs → (x : X) × ((d : X) → slice_index_or xs i d ≡ x) × (xs ≡ take i xs ++ x ∷ drop (suc i) xs)
  split [] i lt = absurd (omega (arith, lt))
  split (y ∷ ys) zero lt = (y, λ d. refl, refl)
  split (y ∷ ys) (suc i) lt = let r = split ys i (omega (arith, lt)) in (r.0, r.1, ap (λ l. y ∷ l) r.2)

  pub long_front : (xs : List X) (i : ℕ) → i ≤ length xs → length (take i xs) ≡ i
  long_front xs zero le = refl
  long_front [] (suc i) le = absurd (omega (arith, le))
  long_front (x ∷ xs) (suc i) le = ap suc (long_front xs i (omega (arith, le)))

  pub halves : (xs : List X) (i : ℕ) → i ≤ length xs → xs ≡ take i xs ++ drop i xs
  halves xs zero le = refl
  halves [] (suc i) le = absurd (omega (arith, le))
  halves (x ∷ xs) (suc i) le = ap (λ l. x ∷ l) (halves xs i (omega (arith, le)))

  all_take : (P : X → Type 0) (xs : List X) (i : ℕ) → i ≤ length xs → ((j : ℕ) (d : X) → j < i → P (slice_index_or xs j d)) → AllByRecursion P (take i xs)
  all_take P xs zero le h = tt
  all_take P [] (suc i) le h = absurd (omega (arith, le))
  all_take P (x ∷ xs) (suc i) le h = (h 0 x (omega arith), all_take P xs i (omega (arith, le)) (λ j d lt. h (suc j) d (omega (arith, lt))))

  all_drop : (P : X → Type 0) (xs : List X) (i : ℕ) → ((j : ℕ) (d : X) → i ≤ j → j < length xs → P (slice_index_or xs j d)) → AllByRecursion P (drop i xs)
  all_drop P [] zero h = tt
  all_drop P [] (suc i) h = tt
  all_drop P (x ∷ xs) zero h = (h 0 x (omega arith) (omega arith), all_drop P xs zero (λ j d le lt. h (suc j) d (omega (arith, le)) (omega (arith, lt))))
  all_drop P (x ∷ xs) (suc i) h = all_drop P xs i (λ j d le lt. h (suc j) d (omega (arith, le)) (omega (arith, lt)))

  pub all_follows : (P Q : X → Type 0) (xs : List X) → ((x : X) → P x → Q x) → AllByRecursion P xs → AllByRecursion Q xs
  all_follows P Q [] f h = tt
  all_follows P Q (x ∷ xs) f h = (f x h.0, all_follows P Q xs f h.1)

module _ {X K : Type 0} (cmp : K → K → Ordering) (total : IsTotalOrder cmp) (key : X → K) where
  sorted_by_key : (xs : List X) → IsStrictlySortedBy cmp (map key xs) → IsSortedBy (λ a b. is_lt (cmp (key a) (key b))) xs
  unfolding IsStrictlySortedBy
  sorted_by_key [] h k d low within = absurd (omega (arith, within))
  sorted_by_key (a ∷ []) h k d low within = absurd (omega (arith, within))
  sorted_by_key (a ∷ b ∷ xs) h zero d low within = ap is_lt (total.antisymm (key b) (key a) ∙ ap ordering_reverse h.0.0)
  sorted_by_key (a ∷ b ∷ xs) h (suc k) d low within =
      let next : slice_index_or (a ∷ b ∷ xs) (suc k + 1) d ≡ slice_index_or (b ∷ xs) (k + 1) d = rw (add-one (suc k), add-one k) refl in
      ap (λ (y : X). is_lt (cmp (key y) (key (slice_index_or (b ∷ xs) k d)))) next ∙ sorted_by_key (b ∷ xs) h.1 k d (omega arith) (omega (arith, within))

  unmapped : (P : K → Type 0) (xs : List X) → AllByRecursion P (map key xs) → AllByRecursion (λ x. P (key x)) xs
  unmapped P [] h = tt
  unmapped P (x ∷ xs) h = (h.0, unmapped P xs h.1)

  in_middle : (P : K → Type 0) (front : List X) (x : X) (back : List X) → AllByRecursion P (map key (front ++ x ∷ back)) → P (key x)
  in_middle P [] x back h = h.0
  in_middle P (f ∷ front) x back h = in_middle P front x back h.1

  pub around : (front : List X) (x : X) (back : List X) → IsStrictlySortedBy cmp (map key (front ++ x ∷ back))
      → AllByRecursion (λ y. cmp (key y) (key x) ≡ Less) front × AllByRecursion (λ y. cmp (key x) (key y) ≡ Less) back
  unfolding IsStrictlySortedBy
  around [] x back h = (tt, unmapped (λ k. cmp (key x) k ≡ Less) back h.0)
  around (f ∷ front) x back h = let rest = around front x back h.1 in ((in_middle (λ k. cmp (key f) k ≡ Less) front x back h.0, rest.0), rest.1)

  alike : (a b z : K) → cmp a b ≡ Equal → cmp z a ≡ cmp z b
  alike a b z tied = total.antisymm z a ∙ ap ordering_reverse (total.congr a b z tied) ∙ sym (total.antisymm z b)

  -- a search by a key ends at its place
  pub place_found : (k : K) (xs : List X) (r : Result ℕ ℕ) → IsStrictlySortedBy cmp (map key xs) → IsSearchInRange r (length xs) → IsBinarySearchResult (λ y. cmp (key y) k) xs r
      → IsPlaceOf (λ y. cmp (key y) k) xs r
  place_found k xs (Ok i) rises range found =
      let cut = split xs i range in
      let tied : cmp (key cut.0) k ≡ Equal = subst (λ (y : X). cmp (key y) k ≡ Equal) (cut.1 cut.0) (found cut.0) in
      let sides = around (take i xs) cut.0 (drop (suc i) xs) (subst (λ (l : List X). IsStrictlySortedBy cmp (map key l)) cut.2 rises) in
      record {
        front = take i xs;
        here = cut.0;
        back = drop (suc i) xs;
        are = cut.2;
        long = long_front xs i (omega (arith, range));
        below = all_follows _ (λ y. cmp (key y) k ≡ Less) (take i xs) (λ y less. sym (alike (key cut.0) k (key y) tied) ∙ less) sides.0;
        same = tied;
        above = all_follows _ (λ y. cmp (key y) k ≡ Greater) (drop (suc i) xs) (λ y less. total.antisymm (key y) k ∙ ap ordering_reverse (sym (total.congr (key cut.0) k (key y) tied) ∙ less)) sides.1;
      }
  place_found k xs (Err i) rises range found =
      let point = found (searchable_from_sorted total key xs k (sorted_by_key xs rises)) in
      record {
        front = take i xs;
        back = drop i xs;
        are = halves xs i range;
        long = long_front xs i range;
        below = all_take (λ y. cmp (key y) k ≡ Less) xs i range (λ j d lt. point.0 j d (omega arith) lt);
        above = all_drop (λ y. cmp (key y) k ≡ Greater) xs i (λ j d le lt. point.1 j d le lt);
      }

pub is_less : (o : Ordering) → is_lt o ≡ true → o ≡ Less
is_less Less is = refl
is_less Equal is = absurd (cc is)
is_less Greater is = absurd (cc is)

module _ {X K : Type 0} (cmp : K → K → Ordering) (total : IsTotalOrder cmp) (key : X → K) (k : K) where
  -- where the last row is below, all are
  all_below : (xs : List X) (x : X) → IsStrictlySortedBy cmp (map key (xs ++ x ∷ [])) → cmp (key x) k ≡ Less → AllByRecursion (λ y. cmp (key y) k ≡ Less) (xs ++ x ∷ [])
  unfolding IsStrictlySortedBy
  all_below [] x rises less = (less, tt)
  all_below (y ∷ xs) x rises less = (total.trans (key y) (key x) k (last_of xs rises.0) less, all_below xs x rises.1 less)
    where
      last_of : (ys : List X) → AllByRecursion (λ z. cmp (key y) z ≡ Less) (map key (ys ++ x ∷ [])) → cmp (key y) (key x) ≡ Less
      last_of [] all = all.0
      last_of (z ∷ ys) all = last_of ys all.1

  pub behind_last : (xs : List X) (d : X) → IsStrictlySortedBy cmp (map key xs) → 1 ≤ length xs → cmp (key (slice_index_or xs (length xs - 1) d)) k ≡ Less → IsPlaceOf (λ y. cmp (key y) k) xs (Err (length xs))
  behind_last xs d rises some less =
      let cut = split xs (length xs - 1) (omega (arith, some)) in
      let none : drop (suc (length xs - 1)) xs ≡ [] = drop_all (suc (length xs - 1)) xs (omega (arith, some)) in
      let are : xs ≡ take (length xs - 1) xs ++ cut.0 ∷ [] = cut.2 ∙ ap (λ (l : List X). take (length xs - 1) xs ++ cut.0 ∷ l) none in
      record {
        front = xs;
        back = [];
        are = sym (append_nil xs);
        long = refl;
        below = subst (AllByRecursion (λ y. cmp (key y) k ≡ Less)) (sym are)
            (all_below (take (length xs - 1) xs) cut.0 (subst (λ (l : List X). IsStrictlySortedBy cmp (map key l)) are rises) (ap (λ (y : X). cmp (key y) k) (sym (cut.1 d)) ∙ less));
        above = tt;
      }
    where
      append_nil : (l : List X) → l ++ [] ≡ l
      append_nil [] = refl
      append_nil (x ∷ l) = ap (λ r. x ∷ r) (append_nil l)

      drop_all : (n : ℕ) (l : List X) → length l ≤ n → drop n l ≡ []
      drop_all zero [] le = refl
      drop_all zero (x ∷ l) le = absurd (omega (arith, le))
      drop_all (suc n) [] le = refl
      drop_all (suc n) (x ∷ l) le = drop_all n l (omega (arith, le))

module _ {X : Type 0} (rank : X → Ordering) where
  set_here : (front : List X) (here x : X) (back : List X) → slice_set (front ++ here ∷ back) (length front) x ≡ front ++ x ∷ back
  set_here [] here x back = refl
  set_here (f ∷ front) here x back = ap (λ l. f ∷ l) (set_here front here x back)

  index_here : (front : List X) (here d : X) (back : List X) → slice_index_or (front ++ here ∷ back) (length front) d ≡ here
  index_here [] here d back = refl
  index_here (f ∷ front) here d back = index_here front here d back

  drop_here : (front : List X) (here : X) (back : List X) → drop (suc (length front)) (front ++ here ∷ back) ≡ back
  drop_here [] here back = refl
  drop_here (f ∷ front) here back = drop_here front here back

  module _ (cmp : X → X → Ordering) (x : X) (turned : (y : X) → cmp x y ≡ ordering_reverse (rank y)) where
    step : (y : X) (o : Ordering) → rank y ≡ o → cmp x y ≡ ordering_reverse o
    step y o e = turned y ∙ ap ordering_reverse e

    put_there : (front : List X) (here : X) (back : List X) → AllByRecursion (λ y. rank y ≡ Less) front → rank here ≡ Equal
        → (put_in_order cmp x (front ++ here ∷ back) ≡ front ++ x ∷ back) × (replaced cmp x (front ++ here ∷ back) ≡ Some here)
    put_there [] here back below same = (
      ap (λ o. match_ordering o (x ∷ here ∷ back) (x ∷ back) (here ∷ put_in_order cmp x back)) (step here Equal same),
      ap (λ o. match_ordering o None (Some here) (replaced cmp x back)) (step here Equal same),
    )
    put_there (f ∷ front) here back below same =
        let rest = put_there front here back below.1 same in
        let more = front ++ here ∷ back in (
          ap (λ o. match_ordering o (x ∷ f ∷ more) (x ∷ more) (f ∷ put_in_order cmp x more)) (step f Less below.0) ∙ ap (λ l. f ∷ l) rest.0,
          ap (λ o. match_ordering o None (Some f) (replaced cmp x more)) (step f Less below.0) ∙ rest.1,
        )

    put_between : (front back : List X) → AllByRecursion (λ y. rank y ≡ Less) front → AllByRecursion (λ y. rank y ≡ Greater) back
        → (put_in_order cmp x (front ++ back) ≡ front ++ x ∷ back) × (replaced cmp x (front ++ back) ≡ None)
    put_between [] [] below above = (refl, refl)
    put_between [] (y ∷ back) below above = (
      ap (λ o. match_ordering o (x ∷ y ∷ back) (x ∷ back) (y ∷ put_in_order cmp x back)) (step y Greater above.0),
      ap (λ o. match_ordering o None (Some y) (replaced cmp x back)) (step y Greater above.0),
    )
    put_between (f ∷ front) back below above =
        let rest = put_between front back below.1 above in
        let more = front ++ back in (
          ap (λ o. match_ordering o (x ∷ f ∷ more) (x ∷ more) (f ∷ put_in_order cmp x more)) (step f Less below.0) ∙ ap (λ l. f ∷ l) rest.0,
          ap (λ o. match_ordering o None (Some f) (replaced cmp x more)) (step f Less below.0) ∙ rest.1,
        )

    -- a put at the place of a row is the put in order
    pub put_placed : (items : List X) (place : Result ℕ ℕ) (new : List X) (old : Option X) → IsPlaceOf rank items place → IsPutAt items place x new old
        → (new ≡ put_in_order cmp x items) × (old ≡ replaced cmp x items)
    put_placed items (Ok i) new old is put =
        let there = put_there is.front is.here is.back is.below is.same in
        let set : slice_set items i x ≡ is.front ++ x ∷ is.back = ap (λ l. slice_set l i x) is.are ∙ ap (λ (n : ℕ). slice_set (is.front ++ is.here ∷ is.back) n x) (sym is.long) ∙ set_here is.front is.here x is.back in
        let index : slice_index_or items i x ≡ is.here = ap (λ l. slice_index_or l i x) is.are ∙ ap (λ (n : ℕ). slice_index_or (is.front ++ is.here ∷ is.back) n x) (sym is.long) ∙ index_here is.front is.here x is.back in (
          put.0 ∙ set ∙ sym there.0 ∙ ap (put_in_order cmp x) (sym is.are),
          put.1 ∙ ap (λ y. Some y) index ∙ sym there.1 ∙ ap (replaced cmp x) (sym is.are),
        )
    put_placed items (Err i) new old is put =
        let between = put_between is.front is.back is.below is.above in
        let set : insert items i x ≡ is.front ++ x ∷ is.back = ap (λ l. insert l i x) is.are ∙ ap (λ l. l ++ x ∷ drop i (is.front ++ is.back)) (take_at is.front is.back i is.long) ∙ ap (λ l. is.front ++ x ∷ l) (drop_at is.front is.back i is.long) in (
          put.0 ∙ set ∙ sym between.0 ∙ ap (put_in_order cmp x) (sym is.are),
          put.1 ∙ sym between.1 ∙ ap (replaced cmp x) (sym is.are),
        )

  module _ (test : X → Bool) (tests : (y : X) → test y ≡ is_eq (rank y)) where
    passes : (y : X) (o : Ordering) → rank y ≡ o → test y ≡ is_eq o
    passes y o e = tests y ∙ ap is_eq e

    all_stay : (o : Ordering) → is_eq o ≡ false → (back : List X) → AllByRecursion (λ y. rank y ≡ o) back → (filter (λ y. not (test y)) back ≡ back) × (find test back ≡ None)
    all_stay o differs [] above = (refl, refl)
    all_stay o differs (y ∷ back) above =
        let rest = all_stay o differs back above.1 in
        let fails : test y ≡ false = passes y o above.0 ∙ differs in (
          ap (λ b. cond (not b) (y ∷ filter (λ y. not (test y)) back) (filter (λ y. not (test y)) back)) fails ∙ ap (λ l. y ∷ l) rest.0,
          ap (λ b. cond b (Some y) (find test back)) fails ∙ rest.1,
        )

    one_goes : (front : List X) (here : X) (back : List X) → AllByRecursion (λ y. rank y ≡ Less) front → rank here ≡ Equal → AllByRecursion (λ y. rank y ≡ Greater) back
        → (filter (λ y. not (test y)) (front ++ here ∷ back) ≡ front ++ back) × (find test (front ++ here ∷ back) ≡ Some here)
    one_goes [] here back below same above =
        let is : test here ≡ true = passes here Equal same in (
          ap (λ b. cond (not b) (here ∷ filter (λ y. not (test y)) back) (filter (λ y. not (test y)) back)) is ∙ (all_stay Greater refl back above).0,
          ap (λ b. cond b (Some here) (find test back)) is,
        )
    one_goes (f ∷ front) here back below same above =
        let rest = one_goes front here back below.1 same above in
        let fails : test f ≡ false = passes f Less below.0 in
        let more = front ++ here ∷ back in (
          ap (λ b. cond (not b) (f ∷ filter (λ y. not (test y)) more) (filter (λ y. not (test y)) more)) fails ∙ ap (λ l. f ∷ l) rest.0,
          ap (λ b. cond b (Some f) (find test more)) fails ∙ rest.1,
        )

    none_goes : (front back : List X) → AllByRecursion (λ y. rank y ≡ Less) front → AllByRecursion (λ y. rank y ≡ Greater) back
        → (filter (λ y. not (test y)) (front ++ back) ≡ front ++ back) × (find test (front ++ back) ≡ None)
    none_goes [] back below above = all_stay Greater refl back above
    none_goes (f ∷ front) back below above =
        let rest = none_goes front back below.1 above in
        let fails : test f ≡ false = passes f Less below.0 in
        let more = front ++ back in (
          ap (λ b. cond (not b) (f ∷ filter (λ y. not (test y)) more) (filter (λ y. not (test y)) more)) fails ∙ ap (λ l. f ∷ l) rest.0,
          ap (λ b. cond b (Some f) (find test more)) fails ∙ rest.1,
        )

    -- taking the row at a place is the removal of its key
    pub taken_placed : (items : List X) (place : Result ℕ ℕ) (new : List X) (old : Option X) → IsPlaceOf rank items place → IsTakenAt items place new old
        → (new ≡ filter (λ y. not (test y)) items) × (old ≡ find test items)
    taken_placed items (Ok i) new old is taken =
        let goes = one_goes is.front is.here is.back is.below is.same is.above in
        let left : remove items i ≡ is.front ++ is.back =
        ap (λ l. remove l i) is.are ∙ ap (λ l. l ++ drop (suc i) (is.front ++ is.here ∷ is.back)) (take_at is.front (is.here ∷ is.back) i is.long)
        ∙ ap (λ (n : ℕ). is.front ++ drop (suc n) (is.front ++ is.here ∷ is.back)) (sym is.long) ∙ ap (λ l. is.front ++ l) (drop_here is.front is.here is.back) in
        let gave : taken.1 ≡ is.here = taken.3 ∙ ap (λ l. slice_index_or l i taken.1) is.are ∙ ap (λ (n : ℕ). slice_index_or (is.front ++ is.here ∷ is.back) n taken.1) (sym is.long) ∙ index_here is.front is.here taken.1 is.back in (
          taken.0 ∙ left ∙ sym goes.0 ∙ ap (filter (λ y. not (test y))) (sym is.are),
          taken.2 ∙ ap (λ y. Some y) gave ∙ sym goes.1 ∙ ap (find test) (sym is.are),
        )
    taken_placed items (Err i) new old is taken =
        let goes = none_goes is.front is.back is.below is.above in (
          taken.0 ∙ is.are ∙ sym goes.0 ∙ ap (filter (λ y. not (test y))) (sym is.are),
          taken.1 ∙ sym goes.1 ∙ ap (find test) (sym is.are),
        )
