-- The row of a key: after a put, under a filter, and in tables that rise.
use Rattle.std.proofs.Common.{◌≡◌, ◌≢◌, ◌⊎◌, Bool, true, false, cond, List, [], ◌∷◌, Contains, Decides, Option, Some, None, map, refl, sym, ◌∙◌, ap, subst, ⊎_elim}
use Rattle.std.specs.Prelude.{is_some}
use Rattle.std.specs.List.{AllByRecursion, filter, find}
use Rattle.std.specs.List.Sorted.{IsStrictlySortedBy}
use Rattle.std.specs.Cmp.{IsTotalOrder}
use Rattle.std.specs.declared.cmp.Ordering.{Ordering}
use Rattle.std.specs.declared.cmp.Ordering.TheVariants.{Less, Equal, Greater}
use Rattle.std.specs.Ordering.{on, match_ordering}
use Rattle.std.proofs.lemmas.Bool.{true≢false}
use Rattle.std.proofs.lemmas.Cmp.{on_total, tied_itself}
use Rattle.ap_text.specs.Order.{put_in_order}
use Rattle.ap_text.proofs.Members.{Contains-none, Contains-cons_cases, Contains-head, Contains-tail_of}
use Rattle.ap_engine.proofs.RisingLists.{one_list, rises_by_key}

pub some_one : {X : Type 0} (x y : X) → Some x ≡ Some y → x ≡ y
some_one x y e = ap (value_or x) e
  where
    value_or : {X : Type 0} → X → Option X → X
    value_or x None = x
    value_or x (Some y) = y

pub none_some : {X : Type 0} (x : X) → None ≡ Some x → ⊥
none_some x e = cc e

-- what is found passes and is there
pub found_passes : {X : Type 0} (test : X → Bool) (xs : List X) (x : X) → find test xs ≡ Some x → Contains xs x × (test x ≡ true)
found_passes test [] x e = absurd (none_some x e)
found_passes {X = X} test (y ∷ ys) x e = by_case (test y) refl e (found_passes test ys x)
  where
    by_case : (b : Bool) → test y ≡ b → cond b (Some y) (find test ys) ≡ Some x → (find test ys ≡ Some x → Contains ys x × (test x ≡ true)) → Contains (y ∷ ys) x × (test x ≡ true)
    by_case true t e more = let is : y ≡ x = some_one y x e in (subst (λ w. Contains (y ∷ ys) w) is (Contains-head y ys), ap test (sym is) ∙ t)
    by_case false t e more = (Contains-tail_of y ys x (more e).0, (more e).1)

-- something passes where one of them does, and nothing where none does
pub passing_found : {X : Type 0} (test : X → Bool) (xs : List X) (x : X) → Contains xs x → test x ≡ true → is_some (find test xs) ≡ true
passing_found test [] x has e = absurd (Contains-none x has)
passing_found test (y ∷ ys) x has e = by_case (test y) refl (Contains-cons_cases y ys x has) (passing_found test ys x)
  where
    by_case : (b : Bool) → test y ≡ b → (y ≡ x) ⊎ Contains ys x → (Contains ys x → test x ≡ true → is_some (find test ys) ≡ true) → is_some (cond b (Some y) (find test ys)) ≡ true
    by_case true t k more = refl
    by_case false t k more = ⊎_elim (λ s. absurd (true≢false (sym e ∙ ap test (sym s) ∙ t))) (λ later. more later e) k

pub none_found : {X : Type 0} (test : X → Bool) (xs : List X) → ((x : X) → Contains xs x → test x ≡ false) → find test xs ≡ None
none_found test [] fails = refl
none_found test (y ∷ ys) fails = ap (λ b. cond b (Some y) (find test ys)) (fails y (Contains-head y ys)) ∙ none_found test ys (λ x has. fails x (Contains-tail_of y ys x has))

module _ {X K : Type 0} (cmp : K → K → Ordering) (order : IsTotalOrder cmp) (eq : K → K → Bool) (same : (a b : K) → Decides (eq a b) (a ≡ b)) (key : X → K) where
  -- the row of a key
  abbrev pub row_at : List X → K → Option X
  row_at rows k = find (λ row. eq (key row) k) rows

  equal : (a b : K) → a ≡ b → eq a b ≡ true
  equal a b e = (same a b).1 e

  unequal : (a b : K) → a ≢ b → eq a b ≡ false
  unequal a b differ = by_case (eq a b) refl
    where
      by_case : (t : Bool) → eq a b ≡ t → eq a b ≡ false
      by_case true e = absurd (differ ((same a b).0 e))
      by_case false e = e

  pub found_there : (rows : List X) (k : K) (x : X) → row_at rows k ≡ Some x → Contains rows x × (key x ≡ k)
  found_there rows k x e = let r = found_passes (λ row. eq (key row) k) rows x e in (r.0, (same (key x) k).0 r.1)

  pub at_first : (x : X) (ys : List X) (k : K) → key x ≡ k → row_at (x ∷ ys) k ≡ Some x
  at_first x ys k e = ap (λ b. cond b (Some x) (row_at ys k)) (equal (key x) k e)

  pub past_first : (x : X) (ys : List X) (k : K) → key x ≢ k → row_at (x ∷ ys) k ≡ row_at ys k
  past_first x ys k differ = ap (λ b. cond b (Some x) (row_at ys k)) (unequal (key x) k differ)

  -- ---- puts

  pub put_there : (x : X) (ys : List X) (k : K) → key x ≡ k → row_at (put_in_order (on key cmp) x ys) k ≡ Some x
  put_there x [] k e = at_first x [] k e
  put_there x (y ∷ ys) k e = by_case (cmp (key x) (key y)) refl (put_there x ys k e)
    where
      greater_equal : cmp (key x) (key y) ≡ Greater → key y ≡ k → ⊥
      greater_equal g f = cc (sym g ∙ ap (λ w. cmp (key x) w) (f ∙ sym e) ∙ tied_itself order (key x))

      by_case : (o : Ordering) → cmp (key x) (key y) ≡ o → row_at (put_in_order (on key cmp) x ys) k ≡ Some x
          → row_at (match_ordering o (x ∷ y ∷ ys) (x ∷ ys) (y ∷ put_in_order (on key cmp) x ys)) k ≡ Some x
      by_case Less o more = at_first x (y ∷ ys) k e
      by_case Equal o more = at_first x ys k e
      by_case Greater o more = past_first y (put_in_order (on key cmp) x ys) k (greater_equal o) ∙ more

  module _ (tied : (a b : K) → cmp a b ≡ Equal → a ≡ b) where
    pub put_elsewhere : (x : X) (ys : List X) (k : K) → key x ≢ k → row_at (put_in_order (on key cmp) x ys) k ≡ row_at ys k
    put_elsewhere x [] k differ = past_first x [] k differ
    put_elsewhere x (y ∷ ys) k differ = by_case (cmp (key x) (key y)) refl (put_elsewhere x ys k differ)
      where
        by_case : (o : Ordering) → cmp (key x) (key y) ≡ o → row_at (put_in_order (on key cmp) x ys) k ≡ row_at ys k
            → row_at (match_ordering o (x ∷ y ∷ ys) (x ∷ ys) (y ∷ put_in_order (on key cmp) x ys)) k ≡ row_at (y ∷ ys) k
        by_case Less o more = past_first x (y ∷ ys) k differ
        by_case Equal o more = past_first x ys k differ ∙ sym (past_first y ys k (λ f. differ (tied (key x) (key y) o ∙ f)))
        by_case Greater o more = ap (λ rest. cond (eq (key y) k) (Some y) rest) more

  -- ---- filters

  -- a filter that lets the rows of a key through
  pub passed : (test : X → Bool) (k : K) → ((row : X) → key row ≡ k → test row ≡ true) → (rows : List X) → row_at (filter test rows) k ≡ row_at rows k
  passed test k through [] = refl
  passed test k through (y ∷ ys) = by_case (eq (key y) k) refl (passed test k through ys)
    where
      other : (b : Bool) → key y ≢ k → row_at (filter test ys) k ≡ row_at ys k → row_at (cond b (y ∷ filter test ys) (filter test ys)) k ≡ row_at ys k
      other true differ more = past_first y (filter test ys) k differ ∙ more
      other false differ more = more

      by_case : (b : Bool) → eq (key y) k ≡ b → row_at (filter test ys) k ≡ row_at ys k → row_at (cond (test y) (y ∷ filter test ys) (filter test ys)) k ≡ row_at (y ∷ ys) k
      by_case true e more = let is : key y ≡ k = (same (key y) k).0 e in
          ap (λ b. row_at (cond b (y ∷ filter test ys) (filter test ys)) k) (through y is) ∙ at_first y (filter test ys) k is ∙ sym (at_first y ys k is)
      by_case false e more = let differ : key y ≢ k = (λ f. true≢false (sym (equal (key y) k f) ∙ e)) in
          other (test y) differ more ∙ sym (past_first y ys k differ)

  -- one that lets none of them through
  pub stopped : (test : X → Bool) (k : K) → ((row : X) → key row ≡ k → test row ≡ false) → (rows : List X) → row_at (filter test rows) k ≡ None
  stopped test k against [] = refl
  stopped test k against (y ∷ ys) = by_case (eq (key y) k) refl (stopped test k against ys)
    where
      other : (b : Bool) → key y ≢ k → row_at (filter test ys) k ≡ None → row_at (cond b (y ∷ filter test ys) (filter test ys)) k ≡ None
      other true differ more = past_first y (filter test ys) k differ ∙ more
      other false differ more = more

      by_case : (b : Bool) → eq (key y) k ≡ b → row_at (filter test ys) k ≡ None → row_at (cond (test y) (y ∷ filter test ys) (filter test ys)) k ≡ None
      by_case true e more = ap (λ b. row_at (cond b (y ∷ filter test ys) (filter test ys)) k) (against y ((same (key y) k).0 e)) ∙ more
      by_case false e more = other (test y) (λ f. true≢false (sym (equal (key y) k f) ∙ e)) more

  -- where there is none, a filter leaves none
  pub still_none : (test : X → Bool) (k : K) (rows : List X) → row_at rows k ≡ None → row_at (filter test rows) k ≡ None
  still_none test k [] e = refl
  still_none test k (y ∷ ys) e = by_case (eq (key y) k) refl e (still_none test k ys)
    where
      other : (b : Bool) → key y ≢ k → row_at (filter test ys) k ≡ None → row_at (cond b (y ∷ filter test ys) (filter test ys)) k ≡ None
      other true differ more = past_first y (filter test ys) k differ ∙ more
      other false differ more = more

      by_case : (b : Bool) → eq (key y) k ≡ b → cond b (Some y) (row_at ys k) ≡ None → (row_at ys k ≡ None → row_at (filter test ys) k ≡ None) → row_at (cond (test y) (y ∷ filter test ys) (filter test ys)) k ≡ None
      by_case true e f more = absurd (none_some y (sym f))
      by_case false e f more = other (test y) (λ g. true≢false (sym (equal (key y) k g) ∙ e)) (more f)

  -- ---- rows that rise

  below_first : (y : X) (ys : List X) (x : X) → AllByRecursion (λ k. cmp (key y) k ≡ Less) (map key ys) → Contains ys x → cmp (key y) (key x) ≡ Less
  below_first y [] x h m = absurd (Contains-none x m)
  below_first y (z ∷ zs) x h m = ⊎_elim (λ e. subst (λ w. cmp (key y) (key w) ≡ Less) e h.0) (λ later. below_first y zs x h.1 later) (Contains-cons_cases z zs x m)

  pub is_row_at : (rows : List X) (x : X) → IsStrictlySortedBy cmp (map key rows) → Contains rows x → row_at rows (key x) ≡ Some x
  unfolding IsStrictlySortedBy
  is_row_at [] x h m = absurd (Contains-none x m)
  is_row_at (y ∷ ys) x h m = ⊎_elim
      (λ e. subst (λ w. row_at (y ∷ ys) (key w) ≡ Some w) e (at_first y ys (key y) refl))
      (λ later. past_first y ys (key x) (less_differs (below_first y ys x h.0 later)) ∙ is_row_at ys x h.1 later)
      (Contains-cons_cases y ys x m)
    where
      less_differs : cmp (key y) (key x) ≡ Less → key y ≢ key x
      less_differs less e = cc (sym less ∙ ap (λ w. cmp w (key x)) e ∙ tied_itself order (key x))

  -- tables that rise and have the same row at each key are one
  pub one_table : (xs ys : List X) → IsStrictlySortedBy cmp (map key xs) → IsStrictlySortedBy cmp (map key ys) → ((k : K) → row_at xs k ≡ row_at ys k) → xs ≡ ys
  one_table xs ys h g at = one_list (on key cmp) (on_total key order) xs ys (rises_by_key cmp key xs h) (rises_by_key cmp key ys g)
      (λ q m. (found_there ys (key q) q (sym (at (key q)) ∙ is_row_at xs q h m)).0)
      (λ q m. (found_there xs (key q) q (at (key q) ∙ is_row_at ys q g m)).0)
