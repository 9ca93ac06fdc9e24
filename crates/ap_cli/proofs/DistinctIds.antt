-- Sorted ids are distinct just where they rise.
use Rattle.std.proofs.Common.{◌≡◌, ◌<◌, ◌+◌, ℕ, Bool, true, false, ◌==◌, List, [], ◌∷◌, map, length, get_or, nat_lt, cond, refl, sym, ◌∙◌, ap, subst, arith}
use Rattle.std.specs.Prelude.{IsPermutation, Decides, IsTrue}
use Rattle.std.specs.Cmp.{IsTotalOrder, then_total, on_total, eq_by_cmp_equiv, nat_cmp_total}
use Rattle.std.specs.Cmp.Lexicographic.{nat_list_cmp_total}
use Rattle.std.specs.List.{IsAllAdjacentAnswer, IsDistinct}
use Rattle.std.specs.List.Sorted.{IsSorted, IsStrictlySortedBy}
use Rattle.std.specs.Ordering.{ordering_then, ordering_reverse, is_lt, is_eq, nat_cmp, eq_by_cmp}
use Rattle.std.specs.declared.cmp.Ordering.{Ordering}
use Rattle.std.specs.declared.cmp.Ordering.TheVariants.{Less, Equal, Greater}
use Rattle.std.proofs.lemmas.List.{get_or-map, length-map}
use Rattle.std.proofs.lemmas.List.Sorted.{IsPermutation-sym, IsPermutation-map}
use Rattle.std.proofs.lemmas.Map.Keys.{IsDistinct-IsPermutation, IsDistinct-from_sorted, apart_from_distinct, sorted_from_all_adjacent}
use Rattle.std.proofs.lemmas.Map.Made.{AllPairs-from_IsDistinct, IsDistinct-from_AllPairs}
use Rattle.std.proofs.lemmas.Map.Text.{is_eq-slice_cmp}
use Rattle.std.proofs.lemmas.Slice.Eq.{bytes_eq-Decides}
use Rattle.std.proofs.lemmas.Bool.Decides.{Decides-eqb}
use Rattle.ap_cli.specs.declared.layout.ProductId.{ProductId as BorrowedId}
use Rattle.ap_text.specs.Order.{bytes_cmp}
use Rattle.ap_cli.specs.ProductIds.{ProductId, AreDistinct, plain_id}

-- the order of ids
abbrev pub id_cmp : ProductId → ProductId → Ordering
id_cmp a b = ordering_then (bytes_cmp a.source b.source) (ordering_then (bytes_cmp a.platform b.platform) (nat_cmp a.sub b.sub))

id_total : IsTotalOrder id_cmp
id_total = then_total (on_total (λ (a : ProductId). a.source) nat_list_cmp_total)
    (then_total (on_total (λ (a : ProductId). a.platform) nat_list_cmp_total) (on_total (λ (a : ProductId). a.sub) nat_cmp_total))

first_is_eq : (a b : Ordering) → is_eq (ordering_then a b) ≡ true → is_eq a ≡ true
first_is_eq Less b is = is
first_is_eq Equal b is = refl
first_is_eq Greater b is = is

second_is_eq : (a b : Ordering) → is_eq (ordering_then a b) ≡ true → is_eq b ≡ true
second_is_eq Less b is = absurd (cc is)
second_is_eq Equal b is = is
second_is_eq Greater b is = absurd (cc is)

same_bytes : (xs ys : List ℕ) → is_eq (bytes_cmp xs ys) ≡ true → xs ≡ ys
same_bytes xs ys is = (bytes_eq-Decides xs ys).0 (sym (is_eq-slice_cmp xs ys) ∙ is)

same_number : (n m : ℕ) → is_eq (nat_cmp n m) ≡ true → n ≡ m
same_number n m is = by_tests (nat_lt n m) (n == m) refl refl is
  where
    by_tests : (lt eq : Bool) → nat_lt n m ≡ lt → (n == m) ≡ eq → is_eq (cond lt Less (cond eq Equal Greater)) ≡ true → n ≡ m
    by_tests true eq lt eq' is = absurd (cc is)
    by_tests false true lt eq is = (Decides-eqb n m).0 eq
    by_tests false false lt eq is = absurd (cc is)

-- it answers `Equal` just where two are the same
id_Decides : (a b : ProductId) → Decides (eq_by_cmp id_cmp a b) (a ≡ b)
id_Decides a b = (same, λ is. subst (λ (c : ProductId). eq_by_cmp id_cmp a c ≡ true) is ((eq_by_cmp_equiv id_total).refl a))
  where
    same : eq_by_cmp id_cmp a b ≡ true → a ≡ b
    same is =
        let source = same_bytes a.source b.source (first_is_eq (bytes_cmp a.source b.source) _ is) in
        let rest = second_is_eq (bytes_cmp a.source b.source) _ is in
        let platform = same_bytes a.platform b.platform (first_is_eq (bytes_cmp a.platform b.platform) _ rest) in
        let sub = same_number a.sub b.sub (second_is_eq (bytes_cmp a.platform b.platform) _ rest) in
        λ i. record { source = source i; platform = platform i; sub = sub i }

is_less : (o : Ordering) → true ≡ is_lt o → o ≡ Less
is_less Less is = refl
is_less Equal is = absurd (cc is)
is_less Greater is = absurd (cc is)

-- the order of ids as they are borrowed
abbrev pub borrowed_cmp : BorrowedId → BorrowedId → Ordering
borrowed_cmp x y = id_cmp (plain_id x) (plain_id y)

-- whether each is less than the next
abbrev pub IsRisingAnswer : List BorrowedId → Bool → Type 0
IsRisingAnswer ids rise = IsAllAdjacentAnswer (λ x y b. b ≡ is_lt (borrowed_cmp x y)) ids rise

strictly : (ids : List BorrowedId) → IsRisingAnswer ids true → IsStrictlySortedBy id_cmp (map plain_id ids)
unfolding IsStrictlySortedBy
strictly [] rise = tt
strictly (id ∷ ids) rise = sorted_from_all_adjacent id_total (map plain_id (id ∷ ids)) (plain_id id) each
  where
    each : (k : ℕ) → k + 1 < length (map plain_id (id ∷ ids)) → id_cmp (get_or (map plain_id (id ∷ ids)) k (plain_id id)) (get_or (map plain_id (id ∷ ids)) (k + 1) (plain_id id)) ≡ Less
    each k within =
        let inside : k + 1 < length (id ∷ ids) = subst (λ (n : ℕ). k + 1 < n) (length-map (id ∷ ids) plain_id) within in
        rw (get_or-map plain_id (id ∷ ids) k id (plain_id id) (omega (arith, inside)), get_or-map plain_id (id ∷ ids) (k + 1) id (plain_id id) inside) (is_less _ (rise k id inside))

-- where one isn't less than the next, nor this one less than it, they are the same
level : (next before : Ordering) → before ≡ ordering_reverse next → is_lt next ≡ false → false ≡ is_lt before → is_eq before ≡ true
level Less before flips sorted not_less = absurd (cc sorted)
level Equal before flips sorted not_less = ap is_eq flips
level Greater before flips sorted not_less = absurd (cc (not_less ∙ ap is_lt flips))

module _ (ids sorted : List BorrowedId) (moved : IsPermutation ids sorted) where
  plain_moved : IsPermutation (map plain_id ids) (map plain_id sorted)
  plain_moved = IsPermutation-map plain_id ids sorted moved

  flips : (a b : ProductId) → eq_by_cmp id_cmp a b ≡ eq_by_cmp id_cmp b a
  flips = (eq_by_cmp_equiv id_total).symm

  -- ids that rise once they are sorted are distinct
  pub distinct_where_rising : (rise : Bool) → IsRisingAnswer sorted rise → IsTrue rise → AreDistinct (map plain_id ids)
  distinct_where_rising true answer is = AllPairs-from_IsDistinct id_Decides (map plain_id ids)
      (IsDistinct-IsPermutation (eq_by_cmp id_cmp) flips (map plain_id sorted) (map plain_id ids) (IsPermutation-sym _ _ plain_moved)
      (IsDistinct-from_sorted id_cmp (map plain_id sorted) (strictly sorted answer)))
  distinct_where_rising false answer is = absurd (cc is)

  -- and those that don't are not
  pub shared_where_level : (rise : Bool) → IsRisingAnswer sorted rise → IsSorted borrowed_cmp sorted → rise ≡ false → ¬ AreDistinct (map plain_id ids)
  shared_where_level true answer rises is all = cc is
  shared_where_level false (k, within, not_less) rises is all = by_items sorted refl
    where
      distinct : IsDistinct (eq_by_cmp id_cmp) (map plain_id sorted)
      distinct = IsDistinct-IsPermutation (eq_by_cmp id_cmp) flips (map plain_id ids) (map plain_id sorted) plain_moved (IsDistinct-from_AllPairs id_Decides (map plain_id ids) all)

      by_items : (items : List BorrowedId) → sorted ≡ items → ⊥
      by_items [] are = absurd (omega (arith, subst (λ (l : List BorrowedId). k + 1 < length l) are within))
      by_items (id ∷ items) are =
          let one = plain_id (get_or sorted k id) in
          let next = plain_id (get_or sorted (k + 1) id) in
          let apart : eq_by_cmp id_cmp (get_or (map plain_id sorted) k (plain_id id)) (get_or (map plain_id sorted) (k + 1) (plain_id id)) ≡ false =
          apart_from_distinct (eq_by_cmp id_cmp) (map plain_id sorted) k (k + 1) (plain_id id) distinct (omega arith) (subst (λ (n : ℕ). k + 1 < n) (sym (length-map sorted plain_id)) within) in
          let differ : eq_by_cmp id_cmp one next ≡ false =
          subst (λ (x : ProductId). eq_by_cmp id_cmp x next ≡ false) (get_or-map plain_id sorted k id (plain_id id) (omega (arith, within)))
          (subst (λ (y : ProductId). eq_by_cmp id_cmp (get_or (map plain_id sorted) k (plain_id id)) y ≡ false) (get_or-map plain_id sorted (k + 1) id (plain_id id) within) apart) in
          cc (level (id_cmp next one) (id_cmp one next) (id_total.antisymm one next) (rises k id (omega arith) within) (not_less id), differ)
