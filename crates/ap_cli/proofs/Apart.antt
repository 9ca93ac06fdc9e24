-- In a sorted list of texts one begins another exactly where one begins the next.
use Rattle.std.proofs.Common.{◌≡◌, ◌<◌, ℕ, Bool, true, false, not, ◌&&◌, ◌||◌, nat_eq, List, [], ◌∷◌, map, refl, sym, ◌∙◌, ap, subst, arith}
use Rattle.std.specs.Prelude.{IsPermutation, nat_lt, ◌==◌, cond, bytes_eq, None, IsTrue}
use Rattle.std.specs.List.{starts_with, IsDistinct, AllByRecursion}
use Rattle.std.specs.List.Sorted.{IsSorted}
use Rattle.std.specs.declared.cmp.Ordering.{Ordering}
use Rattle.std.specs.declared.cmp.Ordering.TheVariants.{Less, Equal, Greater}
use Rattle.std.specs.Ordering.{ordering_then, ordering_reverse, is_lt, nat_cmp}
use Rattle.std.proofs.lemmas.Cmp.{nat_list_cmp_total}
use Rattle.std.proofs.lemmas.Map.Keys.{IsDistinct-IsPermutation}
use Rattle.std.proofs.lemmas.List.Sorted.{IsPermutation-sym}
use Rattle.std.proofs.lemmas.Slice.Eq.{bytes_eq-Decides}
use Rattle.std.proofs.lemmas.Grind.{common_steps}
use Rattle.ap_text.specs.Order.{bytes_cmp}
use Rattle.ap_cli.specs.Layout.{conflict, closed, AreApart}
use Rattle.ap_cli.specs.Neighbours.{has_front_next}
use Rattle.ap_scan.specs.Winners.{Files}
use Rattle.ap_tree.specs.Files.{content_at, has_distinct_paths}
use Rattle.ap_cli.proofs.Sorting.{tail_sorted}

-- one text begins the other
abbrev pub meets : List ℕ → List ℕ → Bool
meets a b = starts_with nat_eq b a || starts_with nat_eq a b

or_comm : (s t : Bool) → (s || t) ≡ (t || s)
or_comm true true = refl
or_comm true false = refl
or_comm false true = refl
or_comm false false = refl

or_left : (s t : Bool) → (s || t) ≡ false → s ≡ false
or_left true t is = is
or_left false t is = refl

or_right : (s t : Bool) → (s || t) ≡ false → t ≡ false
or_right true t is = cc
or_right false t is = is

-- the heads of two texts, the first of which isn't less
data Heads (a b : ℕ) (rest : Ordering) : Type 0 where
  more : b < a → Heads a b rest
  level : a ≡ b → is_lt rest ≡ false → Heads a b rest

heads : (a b : ℕ) (rest : Ordering) → is_lt (ordering_then (nat_cmp a b) rest) ≡ false → Heads a b rest
heads a b rest not_less = by_tests (nat_lt a b) (a == b) refl refl not_less
  where
    by_tests : (lt eq : Bool) → nat_lt a b ≡ lt → (a == b) ≡ eq → is_lt (ordering_then (cond lt Less (cond eq Equal Greater)) rest) ≡ false → Heads a b rest
    by_tests true eq is_l is_e not_less = cc
    by_tests false true is_l is_e not_less = level (grind (arith, common_steps, is_e)) not_less
    by_tests false false is_l is_e not_less = more (grind (arith, common_steps, is_l, is_e))

and_left : (s t : Bool) → (s && t) ≡ true → s ≡ true
and_left true t is = refl
and_left false t is = is

and_right : (s t : Bool) → (s && t) ≡ true → t ≡ true
and_right true t is = is
and_right false t is = cc

same_head : (a b : ℕ) → nat_eq a b ≡ true → a ≡ b
same_head a b is = grind (arith, common_steps, is)

nat_eq_itself : (a : ℕ) → nat_eq a a ≡ true
nat_eq_itself a = grind (arith, common_steps)

-- a text between another one and one that this begins is begun by it too
between : (p x q : List ℕ) → is_lt (bytes_cmp x p) ≡ false → is_lt (bytes_cmp q x) ≡ false → starts_with nat_eq q p ≡ true → starts_with nat_eq x p ≡ true
between [] x q over under begins = refl
between (a ∷ p) x [] over under begins = cc
between (a ∷ p) [] (c ∷ q) over under begins = cc
between (a ∷ p) (b ∷ x) (c ∷ q) over under begins =
    by_heads (heads b a (bytes_cmp x p) over) (heads c b (bytes_cmp q x) under)
    (λ o u. between p x q o u (and_right (nat_eq a c) (starts_with nat_eq q p) begins))
  where
    same : a ≡ c
    same = same_head a c (and_left (nat_eq a c) (starts_with nat_eq q p) begins)

    by_heads : Heads b a (bytes_cmp x p) → Heads c b (bytes_cmp q x) →
        (is_lt (bytes_cmp x p) ≡ false → is_lt (bytes_cmp q x) ≡ false → starts_with nat_eq x p ≡ true) → starts_with nat_eq (b ∷ x) (a ∷ p) ≡ true
    by_heads (more over) (more under) rest = absurd (omega (arith, same))
    by_heads (more over) (level e u) rest = absurd (omega (arith, same, e))
    by_heads (level e o) (more under) rest = absurd (omega (arith, same, e))
    by_heads (level e o) (level e' u) rest = rw (e, nat_eq_itself a) (rest o u)

-- a text that begins one that isn't greater is that one
begins_less : (x y : List ℕ) → is_lt (bytes_cmp y x) ≡ false → starts_with nat_eq x y ≡ true → starts_with nat_eq y x ≡ true
begins_less [] y not_less begins = refl
begins_less (a ∷ x) [] not_less begins = cc
begins_less (a ∷ x) (b ∷ y) not_less begins =
    by_heads (heads b a (bytes_cmp y x) not_less) (λ n. begins_less x y n (and_right (nat_eq b a) (starts_with nat_eq x y) begins))
  where
    same : b ≡ a
    same = same_head b a (and_left (nat_eq b a) (starts_with nat_eq x y) begins)

    by_heads : Heads b a (bytes_cmp y x) → (is_lt (bytes_cmp y x) ≡ false → starts_with nat_eq y x ≡ true) → starts_with nat_eq (b ∷ y) (a ∷ x) ≡ true
    by_heads (more over) rest = absurd (omega (arith, same))
    by_heads (level e n) rest = rw (e, nat_eq_itself a) (rest n)

not_less_trans : (z y x : List ℕ) → is_lt (bytes_cmp z y) ≡ false → is_lt (bytes_cmp y x) ≡ false → is_lt (bytes_cmp z x) ≡ false
not_less_trans z y x zy yx = by_order (bytes_cmp z x) refl
  where
    by_middle : (o : Ordering) → bytes_cmp z y ≡ o → bytes_cmp z x ≡ Less → ⊥
    by_middle Less is less = cc
    by_middle Equal is less = cc (nat_list_cmp_total.congr z y x is)
    by_middle Greater is less =
        let back : bytes_cmp y z ≡ Less = nat_list_cmp_total.antisymm y z ∙ ap ordering_reverse is in
        cc (nat_list_cmp_total.trans y z x back less)

    by_order : (o : Ordering) → bytes_cmp z x ≡ o → is_lt (bytes_cmp z x) ≡ false
    by_order Less is = absurd (by_middle (bytes_cmp z y) refl is)
    by_order Equal is = ap is_lt is
    by_order Greater is = ap is_lt is

-- a text that isn't less than x, and that x doesn't begin
abbrev pub Clear : List ℕ → List ℕ → Type 0
Clear x z = (is_lt (bytes_cmp z x) ≡ false) × (starts_with nat_eq z x ≡ false)

clear_next : (x y z : List ℕ) → Clear x y → is_lt (bytes_cmp z y) ≡ false → Clear x z
clear_next x y z clear zy = (not_less_trans z y x zy clear.0, by_test (starts_with nat_eq z x) refl)
  where
    by_test : (t : Bool) → starts_with nat_eq z x ≡ t → starts_with nat_eq z x ≡ false
    by_test true is = cc (between x y z clear.0 zy is)
    by_test false is = is

meets_none : (x z : List ℕ) → Clear x z → meets x z ≡ false
meets_none x z clear = by_test (starts_with nat_eq x z) refl
  where
    by_test : (t : Bool) → starts_with nat_eq x z ≡ t → meets x z ≡ false
    by_test true is = cc (begins_less x z clear.0 is)
    by_test false is = rw (clear.1, is) refl

all_clear : (x y : List ℕ) (rest : List (List ℕ)) → Clear x y → IsSorted bytes_cmp (y ∷ rest) → AllByRecursion (λ z. meets x z ≡ false) (y ∷ rest)
all_clear x y [] clear sorted = (meets_none x y clear, tt)
all_clear x y (z ∷ rest) clear sorted =
    (meets_none x y clear, all_clear x z rest (clear_next x y z clear (sorted 0 y (omega arith) (omega arith))) (tail_sorted (λ a b. is_lt (bytes_cmp a b)) y (z ∷ rest) sorted))

distinct_from_neighbours : (texts : List (List ℕ)) → IsSorted bytes_cmp texts → has_front_next texts ≡ false → IsDistinct meets texts
unfolding IsDistinct
distinct_from_neighbours [] sorted none = tt
distinct_from_neighbours (x ∷ []) sorted none = (tt, tt)
distinct_from_neighbours (x ∷ y ∷ rest) sorted none = (
  all_clear x y rest (sorted 0 x (omega arith) (omega arith), or_left (starts_with nat_eq y x) (has_front_next (y ∷ rest)) none) (tail_sorted (λ a b. is_lt (bytes_cmp a b)) x (y ∷ rest) sorted),
  distinct_from_neighbours (y ∷ rest) (tail_sorted (λ a b. is_lt (bytes_cmp a b)) x (y ∷ rest) sorted) (or_right (starts_with nat_eq y x) (has_front_next (y ∷ rest)) none),
)

neighbours_from_distinct : (texts : List (List ℕ)) → IsDistinct meets texts → has_front_next texts ≡ false
unfolding IsDistinct
neighbours_from_distinct [] distinct = refl
neighbours_from_distinct (x ∷ []) distinct = refl
neighbours_from_distinct (x ∷ y ∷ rest) distinct =
    rw (or_left (starts_with nat_eq y x) (starts_with nat_eq x y) distinct.0.0) (neighbours_from_distinct (y ∷ rest) distinct.1)

-- ---- closed paths

all_open : (p : List ℕ) (files : Files) → AllByRecursion (λ y. meets (closed p) y ≡ false) (map (λ file. closed file.0) files) →
    AllByRecursion (λ y. conflict p y ≡ false) (map (λ file. file.0) files)
all_open p [] all = tt
all_open p (file ∷ files) all = (all.0, all_open p files all.1)

all_closed : (p : List ℕ) (files : Files) → AllByRecursion (λ y. conflict p y ≡ false) (map (λ file. file.0) files) →
    AllByRecursion (λ y. meets (closed p) y ≡ false) (map (λ file. closed file.0) files)
all_closed p [] all = tt
all_closed p (file ∷ files) all = (all.0, all_closed p files all.1)

apart_open : (files : Files) → IsDistinct meets (map (λ file. closed file.0) files) → AreApart files
unfolding IsDistinct
apart_open [] distinct = tt
apart_open (file ∷ files) distinct = (all_open file.0 files distinct.0, apart_open files distinct.1)

apart_closed : (files : Files) → AreApart files → IsDistinct meets (map (λ file. closed file.0) files)
unfolding IsDistinct
apart_closed [] apart = tt
apart_closed (file ∷ files) apart = (all_closed file.0 files apart.0, apart_closed files apart.1)

meets_flips : (a b : List ℕ) → meets a b ≡ meets b a
meets_flips a b = or_comm (starts_with nat_eq b a) (starts_with nat_eq a b)

module _ (files : Files) (paths sorted : List (List ℕ)) (are : paths ≡ map (λ file. closed file.0) files)
    (same : IsPermutation paths sorted) (rises : IsSorted bytes_cmp sorted) where
  pub apart_where_none : has_front_next sorted ≡ false → AreApart files
  apart_where_none none =
      apart_open files (subst (λ (l : List (List ℕ)). IsDistinct meets l) are
      (IsDistinct-IsPermutation meets meets_flips sorted paths (IsPermutation-sym paths sorted same) (distinct_from_neighbours sorted rises none)))

  pub not_apart_where_some : has_front_next sorted ≡ true → ¬ AreApart files
  not_apart_where_some some apart =
      cc (neighbours_from_distinct sorted (IsDistinct-IsPermutation meets meets_flips paths sorted same
      (subst (λ (l : List (List ℕ)). IsDistinct meets l) (sym are) (apart_closed files apart))))

-- ---- distinct paths

begins_itself : (x : List ℕ) → starts_with nat_eq x x ≡ true
begins_itself [] = refl
begins_itself (a ∷ x) = rw (nat_eq_itself a) (begins_itself x)

none_there : (p : List ℕ) (files : Files) → AllByRecursion (λ y. conflict p y ≡ false) (map (λ file. file.0) files) → content_at files p ≡ None
none_there p [] all = refl
none_there p (file ∷ files) all = by_test (bytes_eq file.0 p) refl (none_there p files all.1)
  where
    by_test : (t : Bool) → bytes_eq file.0 p ≡ t → content_at files p ≡ None → content_at (file ∷ files) p ≡ None
    by_test true is rest =
        let e : file.0 ≡ p = (bytes_eq-Decides file.0 p).0 is in
        let here : starts_with nat_eq (closed file.0) (closed p) ≡ true = subst (λ (q : List ℕ). starts_with nat_eq (closed file.0) (closed q) ≡ true) e (begins_itself (closed file.0)) in
        cc (or_left (starts_with nat_eq (closed file.0) (closed p)) (starts_with nat_eq (closed p) (closed file.0)) all.0)
    by_test false is rest = rw is rest

pub distinct_paths : (files : Files) → AreApart files → has_distinct_paths files ≡ true
unfolding IsDistinct
distinct_paths [] apart = refl
distinct_paths (file ∷ files) apart = rw (none_there file.0 files apart.0) (distinct_paths files apart.1)

-- ---- a test and its denial

pub is_false : (t : Bool) → IsTrue (not t) → t ≡ false
is_false true h = cc
is_false false h = refl

pub is_true : (t : Bool) → not t ≡ false → t ≡ true
is_true true h = refl
is_true false h = cc
