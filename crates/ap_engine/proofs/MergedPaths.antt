-- The changes of sources and rows that rise by path, the first path before the others.
use Rattle.std.proofs.Common.{◌≡◌, ◌≢◌, ◌⊎◌, ℕ, cond, List, [], ◌∷◌, ◌++◌, map, Contains, Option, Some, None, refl, sym, ◌∙◌, ap, subst, inl, inr, ⊎_elim}
use Rattle.std.specs.Prelude.{bytes_eq}
use Rattle.std.specs.List.{find, flat_map}
use Rattle.std.specs.List.Sorted.{IsStrictlySortedBy}
use Rattle.std.specs.Cmp.Lexicographic.{nat_list_cmp_total}
use Rattle.std.specs.declared.cmp.Ordering.TheVariants.{Less}
use Rattle.std.proofs.lemmas.Cmp.{tied_itself}
use Rattle.std.proofs.lemmas.List.{map-id}
use Rattle.std.proofs.lemmas.List.Elements.{Contains-append_left, Contains-append_right, Contains-append_cases}
use Rattle.std.proofs.lemmas.Slice.Eq.{bytes_eq-Decides}
use Rattle.ap_text.specs.Order.{bytes_cmp, in_order}
use Rattle.ap_text.proofs.Members.{Contains-cons_cases, Contains-head, Contains-tail_of, AllByRecursion-at, AllByRecursion-from}
use Rattle.ap_scan.specs.declared.results.Winner.{Winner}
use Rattle.ap_db.specs.Changes.{Whole, put_source, remove_source}
use Rattle.ap_db.specs.Rising.{put_keeps}
use Rattle.ap_db.specs.Tables.{PlainSource}
use Rattle.ap_engine.specs.Changes.{source_change}
use Rattle.ap_engine.specs.Rows.{same_source}
use Rattle.ap_engine.specs.Settled.{source_row}
use Rattle.ap_engine.specs.SourceSteps.{changes_among}
use Rattle.ap_engine.proofs.LookUps.{at_first, past_first}
use Rattle.ap_engine.proofs.RisingLists.{in_order_only, in_order_has, one_list}
use Rattle.ap_engine.proofs.Steps.{bytes_tied}

-- ---- paths in order

pub in_order_rises : (qs : List (List ℕ)) → IsStrictlySortedBy bytes_cmp (in_order bytes_cmp qs)
unfolding IsStrictlySortedBy
in_order_rises [] = tt
in_order_rises (q ∷ qs) = subst (IsStrictlySortedBy bytes_cmp) (map-id (in_order bytes_cmp (q ∷ qs)))
    (put_keeps bytes_cmp nat_list_cmp_total (λ k. k) q (in_order bytes_cmp qs) (subst (IsStrictlySortedBy bytes_cmp) (sym (map-id (in_order bytes_cmp qs))) (in_order_rises qs)))

-- a path below others
abbrev pub IsBelow : List ℕ → List (List ℕ) → Type 0
IsBelow p qs = (q : List ℕ) → Contains qs q → bytes_cmp p q ≡ Less

pub below_differs : (p q : List ℕ) → bytes_cmp p q ≡ Less → p ≢ q
below_differs p q less e = cc (sym less ∙ ap (λ w. bytes_cmp w q) e ∙ tied_itself nat_list_cmp_total q)

module _ (p : List ℕ) (qs rs : List (List ℕ)) (above : IsBelow p rs) (is : Contains qs p) (more : (q : List ℕ) → Contains rs q → Contains qs q) (only : (q : List ℕ) → Contains qs q → (p ≡ q) ⊎ Contains rs q) where
  pub first_in_order : in_order bytes_cmp qs ≡ p ∷ in_order bytes_cmp rs
  unfolding IsStrictlySortedBy
  first_in_order = one_list bytes_cmp nat_list_cmp_total (in_order bytes_cmp qs) (p ∷ in_order bytes_cmp rs) (in_order_rises qs)
      (AllByRecursion-from (λ q. bytes_cmp p q ≡ Less) (in_order bytes_cmp rs) (λ q m. above q (in_order_only bytes_cmp rs q m)), in_order_rises rs)
      (λ q m. ⊎_elim (λ e. subst (λ w. Contains (p ∷ in_order bytes_cmp rs) w) e (Contains-head p (in_order bytes_cmp rs)))
      (λ later. Contains-tail_of p (in_order bytes_cmp rs) q (in_order_has bytes_cmp bytes_tied rs q later)) (only q (in_order_only bytes_cmp qs q m)))
      (λ q m. in_order_has bytes_cmp bytes_tied qs q (⊎_elim (λ e. subst (λ w. Contains qs w) e is) (λ later. more q (in_order_only bytes_cmp rs q later)) (Contains-cons_cases p (in_order bytes_cmp rs) q m)))

same_changes : (f g : List ℕ → List Whole) (qs : List (List ℕ)) → ((q : List ℕ) → Contains qs q → f q ≡ g q) → flat_map f qs ≡ flat_map g qs
same_changes f g [] same = refl
same_changes f g (q ∷ qs) same =
    let first : f q ≡ g q = same q (Contains-head q qs) in
    let others : flat_map f qs ≡ flat_map g qs = same_changes f g qs (λ k m. same k (Contains-tail_of q qs k m)) in
    λ i. first i ++ others i

-- ---- rows and sources by path

module _ {X : Type 0} (key : X → List ℕ) where
  abbrev pub at : List X → List ℕ → Option X
  at xs q = find (λ x. bytes_eq (key x) q) xs

  pub none_below : (xs : List X) (p : List ℕ) → IsBelow p (map key xs) → at xs p ≡ None
  none_below [] p below = refl
  none_below (x ∷ xs) p below =
      past_first bytes_cmp nat_list_cmp_total bytes_eq bytes_eq-Decides key x xs p (λ e. below_differs p (key x) (below (key x) (Contains-head (key x) (map key xs))) (sym e))
      ∙ none_below xs p (λ q m. below q (Contains-tail_of (key x) (map key xs) q m))

  first_at : (x : X) (xs : List X) (p : List ℕ) → key x ≡ p → at (x ∷ xs) p ≡ Some x
  first_at x xs p e = at_first bytes_cmp nat_list_cmp_total bytes_eq bytes_eq-Decides key x xs p e

  others_at : (x : X) (xs : List X) (q : List ℕ) → key x ≢ q → at (x ∷ xs) q ≡ at xs q
  others_at x xs q differ = past_first bytes_cmp nat_list_cmp_total bytes_eq bytes_eq-Decides key x xs q differ

  pub tail_rises : (x : X) (xs : List X) → IsStrictlySortedBy bytes_cmp (map key (x ∷ xs)) → IsStrictlySortedBy bytes_cmp (map key xs)
  unfolding IsStrictlySortedBy
  tail_rises x xs rise = rise.1

  pub first_below : (x : X) (xs : List X) → IsStrictlySortedBy bytes_cmp (map key (x ∷ xs)) → IsBelow (key x) (map key xs)
  unfolding IsStrictlySortedBy
  first_below x xs rise q m = AllByRecursion-at (λ k. bytes_cmp (key x) k ≡ Less) (map key xs) q rise.0 m

  -- what is below the first is below all
  pub below_all : (p : List ℕ) (x : X) (xs : List X) → IsStrictlySortedBy bytes_cmp (map key (x ∷ xs)) → bytes_cmp p (key x) ≡ Less → IsBelow p (map key (x ∷ xs))
  below_all p x xs rise less q m = ⊎_elim (λ e. subst (λ w. bytes_cmp p w ≡ Less) e less) (λ later. nat_list_cmp_total.trans p (key x) q less (first_below x xs rise q later)) (Contains-cons_cases (key x) (map key xs) q m)

-- ---- the first path

abbrev path_of : Winner → List ℕ
path_of winner = winner.path

abbrev old_path : PlainSource → List ℕ
old_path row = row.path

abbrev paths : List Winner → List PlainSource → List (List ℕ)
paths winners olds = map path_of winners ++ map old_path olds

both_below : (p : List ℕ) (winners : List Winner) (olds : List PlainSource) → IsBelow p (map path_of winners) → IsBelow p (map old_path olds) → IsBelow p (paths winners olds)
both_below p winners olds one two q m = ⊎_elim (one q) (two q) (Contains-append_cases (map path_of winners) (map old_path olds) q m)

module _ (p : List ℕ) (winners winners' : List Winner) (olds olds' : List PlainSource) (above : IsBelow p (paths winners' olds')) (is : Contains (paths winners olds) p)
    (more : (q : List ℕ) → Contains (paths winners' olds') q → Contains (paths winners olds) q) (only : (q : List ℕ) → Contains (paths winners olds) q → (p ≡ q) ⊎ Contains (paths winners' olds') q)
    (same_winners : (q : List ℕ) → p ≢ q → at path_of winners q ≡ at path_of winners' q) (same_olds : (q : List ℕ) → p ≢ q → at old_path olds q ≡ at old_path olds' q) where
  first_change : changes_among winners olds ≡ source_change p (at path_of winners p) (at old_path olds p) ++ changes_among winners' olds'
  first_change =
      ap (flat_map (λ path. source_change path (at path_of winners path) (at old_path olds path))) (first_in_order p (paths winners olds) (paths winners' olds') above is more only)
      ∙ ap (λ l. source_change p (at path_of winners p) (at old_path olds p) ++ l)
      (same_changes (λ path. source_change path (at path_of winners path) (at old_path olds path)) (λ path. source_change path (at path_of winners' path) (at old_path olds' path)) (in_order bytes_cmp (paths winners' olds'))
      (λ q m. let differ = below_differs p q (above q (in_order_only bytes_cmp (paths winners' olds') q m)) in λ i. source_change q (same_winners q differ i) (same_olds q differ i)))

-- a winner without a row
pub new_first : (winner : Winner) (winners : List Winner) (olds : List PlainSource) → IsStrictlySortedBy bytes_cmp (map path_of (winner ∷ winners)) → IsBelow winner.path (map old_path olds)
    → changes_among (winner ∷ winners) olds ≡ put_source (source_row winner) ∷ changes_among winners olds
new_first winner winners olds rise below =
    first_change winner.path (winner ∷ winners) winners olds olds (both_below winner.path winners olds (first_below path_of winner winners rise) below) (Contains-head winner.path (paths winners olds))
    (λ q m. Contains-tail_of winner.path (paths winners olds) q m) (λ q m. Contains-cons_cases winner.path (paths winners olds) q m)
    (λ q differ. others_at path_of winner winners q differ) (λ q differ. refl)
    ∙ (let found = first_at path_of winner winners winner.path refl in let none = none_below old_path olds winner.path below in λ i. source_change winner.path (found i) (none i) ++ changes_among winners olds)

-- a row without a winner
pub gone_first : (winners : List Winner) (old : PlainSource) (olds : List PlainSource) → IsStrictlySortedBy bytes_cmp (map old_path (old ∷ olds)) → IsBelow old.path (map path_of winners)
    → changes_among winners (old ∷ olds) ≡ remove_source old.path ∷ changes_among winners olds
gone_first winners old olds rise below =
    first_change old.path winners winners (old ∷ olds) olds (both_below old.path winners olds below (first_below old_path old olds rise))
    (Contains-append_right (map path_of winners) (map old_path (old ∷ olds)) old.path (Contains-head old.path (map old_path olds)))
    (λ q m. ⊎_elim (Contains-append_left (map path_of winners) (map old_path (old ∷ olds)) q) (λ later. Contains-append_right (map path_of winners) (map old_path (old ∷ olds)) q (Contains-tail_of old.path (map old_path olds) q later)) (Contains-append_cases (map path_of winners) (map old_path olds) q m))
    (λ q m. ⊎_elim (λ one. inr (Contains-append_left (map path_of winners) (map old_path olds) q one)) (λ two. ⊎_elim inl (λ later. inr (Contains-append_right (map path_of winners) (map old_path olds) q later)) (Contains-cons_cases old.path (map old_path olds) q two)) (Contains-append_cases (map path_of winners) (map old_path (old ∷ olds)) q m))
    (λ q differ. refl) (λ q differ. others_at old_path old olds q differ)
    ∙ (let none = none_below path_of winners old.path below in let found = first_at old_path old olds old.path refl in λ i. source_change old.path (none i) (found i) ++ changes_among winners olds)

-- a winner with its row
pub both_first : (winner : Winner) (winners : List Winner) (old : PlainSource) (olds : List PlainSource) → IsStrictlySortedBy bytes_cmp (map path_of (winner ∷ winners)) → IsStrictlySortedBy bytes_cmp (map old_path (old ∷ olds)) → old.path ≡ winner.path
    → changes_among (winner ∷ winners) (old ∷ olds) ≡ cond (same_source old (source_row winner)) [] (put_source (source_row winner) ∷ []) ++ changes_among winners olds
both_first winner winners old olds rise rise_too same =
    first_change winner.path (winner ∷ winners) winners (old ∷ olds) olds (both_below winner.path winners olds (first_below path_of winner winners rise) (subst (λ w. IsBelow w (map old_path olds)) same (first_below old_path old olds rise_too)))
    (Contains-head winner.path (paths winners (old ∷ olds)))
    (λ q m. Contains-tail_of winner.path (paths winners (old ∷ olds)) q (⊎_elim (Contains-append_left (map path_of winners) (map old_path (old ∷ olds)) q) (λ later. Contains-append_right (map path_of winners) (map old_path (old ∷ olds)) q (Contains-tail_of old.path (map old_path olds) q later)) (Contains-append_cases (map path_of winners) (map old_path olds) q m)))
    (λ q m. ⊎_elim inl (λ behind. ⊎_elim (λ one. inr (Contains-append_left (map path_of winners) (map old_path olds) q one))
    (λ two. ⊎_elim (λ e. inl (sym same ∙ e)) (λ later. inr (Contains-append_right (map path_of winners) (map old_path olds) q later)) (Contains-cons_cases old.path (map old_path olds) q two))
    (Contains-append_cases (map path_of winners) (map old_path (old ∷ olds)) q behind)) (Contains-cons_cases winner.path (paths winners (old ∷ olds)) q m))
    (λ q differ. others_at path_of winner winners q differ) (λ q differ. others_at old_path old olds q (λ e. differ (sym same ∙ e)))
    ∙ (let found = first_at path_of winner winners winner.path refl in let known = first_at old_path old olds winner.path same in λ i. source_change winner.path (found i) (known i) ++ changes_among winners olds)
