-- Lists of rows.
use Rattle.std.proofs.Common.{◌≡◌, ◌≢◌, ◌<◌, ◌≤◌, ◌+◌, ◌==◌, ℕ, suc, zero, Bool, true, false, cond, List, [], ◌∷◌, ◌++◌, length, map, set, get_or, Vec, refl, sym, ◌∙◌, ap, subst, arith, inl, inr, ◌⊎◌, ⊎_elim, Contains, take, replicate, length-set, All}
use Rattle.std.specs.declared.alloc.Global.{Global}
use Rattle.std.proofs.lemmas.List.{map-set, get_or-map, get_or_past, length-map, get_or-set_same, get_or-set_other, take_more, get_or-take, length-take}
use Rattle.std.proofs.lemmas.Bool.{eq-eqb, eqb-true, cases_eq, cases_order}
use Rattle.ap_graph.specs.Rows.{row_at, count_of, AddsBack, IsClosed}
use Rattle.std.proofs.lemmas.List.Elements.{Contains-get_or}
use Rattle.ap_text.proofs.Members.{Contains-none, Contains-cons_cases, Contains-head, Contains-tail_of}

pub added : (rows : List (Vec ℕ Global)) (self : List (List ℕ)) (from to : ℕ) (old new : Vec ℕ Global) →
    map (λ row. row.items) rows ≡ self → from < length self → old ≡ get_or rows from old → new.items ≡ old.items ++ to ∷ [] →
    map (λ row. row.items) (set rows from new) ≡ set self from (row_at self from ++ to ∷ [])
added rows self from to old new view within read pushed =
    let f : Vec ℕ Global → List ℕ = λ row. row.items in
    let inside : from < length rows = omega (arith, ap length view, length-map rows f) in
    let here : row_at self from ≡ old.items = ap (λ (l : List (List ℕ)). get_or l from []) (sym view) ∙ get_or-map f rows from old [] inside ∙ ap f (sym read) in
    map-set f rows from new ∙ ap (λ (l : List (List ℕ)). set l from new.items) view ∙ ap (λ (r : List ℕ). set self from r) (pushed ∙ ap (λ (r : List ℕ). r ++ to ∷ []) (sym here))

-- one more at the end of a list is counted once
pub count_of-push : (x y : ℕ) (ys : List ℕ) → count_of x (ys ++ y ∷ []) ≡ count_of x ys + count_of x (y ∷ [])
count_of-push x y [] = by_case (y == x)
  where
    by_case : (t : Bool) → cond t (1 + 0) 0 ≡ 0 + cond t (1 + 0) 0
    by_case true = refl
    by_case false = refl
count_of-push x y (z ∷ zs) = by_case (z == x) (count_of-push x y zs)
  where
    by_case : (t : Bool) → count_of x (zs ++ y ∷ []) ≡ count_of x zs + count_of x (y ∷ []) →
        cond t (1 + count_of x (zs ++ y ∷ [])) (count_of x (zs ++ y ∷ [])) ≡ cond t (1 + count_of x zs) (count_of x zs) + count_of x (y ∷ [])
    by_case true h = omega (arith, h)
    by_case false h = h

pub count_of-same : (x : ℕ) (ys : List ℕ) → count_of x (x ∷ ys) ≡ 1 + count_of x ys
count_of-same x ys = ap (λ (t : Bool). cond t (1 + count_of x ys) (count_of x ys)) (eq-eqb x x refl)

pub count_of-other : (x y : ℕ) (ys : List ℕ) → y ≢ x → count_of x (y ∷ ys) ≡ count_of x ys
count_of-other x y ys other = by_case (y == x) refl
  where
    by_case : (t : Bool) → (y == x) ≡ t → cond t (1 + count_of x ys) (count_of x ys) ≡ count_of x ys
    by_case true e = absurd (other (eqb-true y x e))
    by_case false e = refl

-- what is counted is there
pub Contains-from_count : (x : ℕ) (ys : List ℕ) → 0 < count_of x ys → Contains ys x
Contains-from_count x [] h = absurd (omega arith)
Contains-from_count x (y ∷ ys) h = by_case (y == x) refl (Contains-from_count x ys) h
  where
    by_case : (t : Bool) → (y == x) ≡ t → (0 < count_of x ys → Contains ys x) → 0 < cond t (1 + count_of x ys) (count_of x ys) → Contains (y ∷ ys) x
    by_case true e later more = subst (λ (w : ℕ). Contains (y ∷ ys) w) (eqb-true y x e) (Contains-head y ys)
    by_case false e later more = Contains-tail_of y ys x (later more)

-- what is there is counted
pub count_from_Contains : (x : ℕ) (ys : List ℕ) → Contains ys x → 0 < count_of x ys
count_from_Contains x [] h = absurd (Contains-none x h)
count_from_Contains x (y ∷ ys) h = ⊎_elim
    (λ e. let one : count_of x (y ∷ ys) ≡ 1 + count_of x ys = subst (λ (w : ℕ). count_of x (w ∷ ys) ≡ 1 + count_of x ys) (sym e) (count_of-same x ys) in omega arith)
    (λ later. let more : 0 < count_of x ys = count_from_Contains x ys later in by_case (y == x) more)
    (Contains-cons_cases y ys x h)
  where
    by_case : (t : Bool) → 0 < count_of x ys → 0 < cond t (1 + count_of x ys) (count_of x ys)
    by_case true more = omega arith
    by_case false more = more

-- a row after another one was set
pub row_at-set_same : (rows : List (List ℕ)) (i : ℕ) (row : List ℕ) → i < length rows → row_at (set rows i row) i ≡ row
row_at-set_same rows i row within = get_or-set_same rows i row [] within

pub row_at-set_other : (rows : List (List ℕ)) (i j : ℕ) (row : List ℕ) → j ≢ i → row_at (set rows i row) j ≡ row_at rows j
row_at-set_other rows i j row other = get_or-set_other rows i j row [] other

-- one target more leads back
pub back_more : (old mid new : List (List ℕ)) (from : ℕ) (targets : List ℕ) (i target : ℕ) → i < length targets → target ≡ get_or targets i target → target < length mid →
    new ≡ set mid target (row_at mid target ++ from ∷ []) → AddsBack old mid from (take i targets) → AddsBack old new from (take (i + 1) targets)
back_more old mid new from targets i target within read inside is so_far = record {
  places = ap length is ∙ length-set mid target (row_at mid target ++ from ∷ []) ∙ so_far.places;
  counts = λ j. ap (λ (l : List (List ℕ)). count_of from (row_at l j)) is ∙ at_target j (cases_eq j target) ∙ ap (λ (l : List ℕ). count_of from (row_at old j) + count_of j l) (sym taken);
  others = λ k j other. ap (λ (l : List (List ℕ)). count_of k (row_at l j)) is ∙ of_other k j other (cases_eq j target) ∙ so_far.others k j other;
}
  where
    taken : take (i + 1) targets ≡ take i targets ++ target ∷ []
    taken = take_more targets i target within ∙ ap (λ (t : ℕ). take i targets ++ t ∷ []) (sym read)

    longer : List ℕ
    longer = row_at mid target ++ from ∷ []

    at_target : (j : ℕ) → (j ≡ target) ⊎ (j ≡ target → ⊥) → count_of from (row_at (set mid target (row_at mid target ++ from ∷ [])) j) ≡ count_of from (row_at old j) + count_of j (take i targets ++ target ∷ [])
    at_target j (inl e) =
        let row : row_at (set mid target (row_at mid target ++ from ∷ [])) j ≡ row_at mid target ++ from ∷ [] =
        ap (λ (w : ℕ). row_at (set mid target (row_at mid target ++ from ∷ [])) w) e ∙ row_at-set_same mid target (row_at mid target ++ from ∷ []) inside in
        let one : count_of from (from ∷ []) ≡ 1 + 0 = count_of-same from [] in
        let here : count_of j (target ∷ []) ≡ 1 + 0 = subst (λ (w : ℕ). count_of w (target ∷ []) ≡ 1 + 0) (sym e) (count_of-same target []) in
        let now : count_of from (row_at mid target) ≡ count_of from (row_at mid j) = ap (λ (w : ℕ). count_of from (row_at mid w)) (sym e) in
        omega (arith, ap (count_of from) row, count_of-push from from (row_at mid target), count_of-push j target (take i targets), so_far.counts j, one, here, now)
    at_target j (inr other) =
        let row : row_at (set mid target (row_at mid target ++ from ∷ [])) j ≡ row_at mid j = row_at-set_other mid target j (row_at mid target ++ from ∷ []) other in
        let none : count_of j (target ∷ []) ≡ 0 = count_of-other j target [] (λ e. other (sym e)) in
        omega (arith, ap (count_of from) row, count_of-push j target (take i targets), so_far.counts j, none)

    of_other : (k j : ℕ) → k ≢ from → (j ≡ target) ⊎ (j ≡ target → ⊥) → count_of k (row_at (set mid target (row_at mid target ++ from ∷ [])) j) ≡ count_of k (row_at mid j)
    of_other k j differs (inl e) =
        let row : row_at (set mid target (row_at mid target ++ from ∷ [])) j ≡ row_at mid target ++ from ∷ [] =
        ap (λ (w : ℕ). row_at (set mid target (row_at mid target ++ from ∷ [])) w) e ∙ row_at-set_same mid target (row_at mid target ++ from ∷ []) inside in
        let none : count_of k (from ∷ []) ≡ 0 = count_of-other k from [] (λ e. differs (sym e)) in
        let now : count_of k (row_at mid target) ≡ count_of k (row_at mid j) = ap (λ (w : ℕ). count_of k (row_at mid w)) (sym e) in
        omega (arith, ap (count_of k) row, count_of-push k from (row_at mid target), none, now)
    of_other k j differs (inr other) = ap (count_of k) (row_at-set_other mid target j (row_at mid target ++ from ∷ []) other)

pub row_at-replicate : (n i : ℕ) → row_at (replicate n []) i ≡ []
row_at-replicate zero i = refl
row_at-replicate (suc n) zero = refl
row_at-replicate (suc n) (suc i) = row_at-replicate n i

-- so many rows have been turned round
pub record ReversesFirst (rows back : List (List ℕ)) (n : ℕ) : Type 0 where
  pub places : length back ≡ length rows
  pub counts : (i j : ℕ) → count_of i (row_at back j) ≡ count_of j (row_at (take n rows) i)

pub reverses_more : (rows mid back : List (List ℕ)) (n : ℕ) → n < length rows → AddsBack mid back n (row_at rows n) → ReversesFirst rows mid n → ReversesFirst rows back (n + 1)
reverses_more rows mid back n within adds so_far = record {
  places = adds.places ∙ so_far.places;
  counts = λ i j. by_case i j (cases_order i n);
}
  where
    past : (k i : ℕ) → k ≤ i → row_at (take k rows) i ≡ []
    past k i beyond = get_or_past (take k rows) i [] (omega (arith, length-take k rows))

    by_case : (i j : ℕ) → (i ≡ n) ⊎ ((i < n) ⊎ (n < i)) → count_of i (row_at back j) ≡ count_of j (row_at (take (n + 1) rows) i)
    by_case i j (inl e) =
        let before : count_of j (row_at (take n rows) n) ≡ 0 = ap (count_of j) (past n n (omega arith)) in
        let after : row_at (take (n + 1) rows) n ≡ row_at rows n = get_or-take (n + 1) rows n [] (omega arith) in
        subst (λ (w : ℕ). count_of w (row_at back j) ≡ count_of j (row_at (take (n + 1) rows) w)) (sym e)
        (omega (arith, adds.counts j, so_far.counts n j, before, ap (count_of j) after))
    by_case i j (inr (inl less)) =
        let before : row_at (take n rows) i ≡ row_at rows i = get_or-take n rows i [] less in
        let after : row_at (take (n + 1) rows) i ≡ row_at rows i = get_or-take (n + 1) rows i [] (omega arith) in
        adds.others i j (λ e. omega arith) ∙ so_far.counts i j ∙ ap (count_of j) (before ∙ sym after)
    by_case i j (inr (inr more)) =
        adds.others i j (λ e. omega arith) ∙ so_far.counts i j ∙ ap (count_of j) (past n i (omega arith) ∙ sym (past (n + 1) i (omega arith)))

-- each target of a row has a row
pub targets_within : (rows : List (List ℕ)) (i : ℕ) (row : List ℕ) (n : ℕ) → IsClosed rows → row ≡ row_at rows i → n ≡ length rows → All (λ target. target < n) row
targets_within rows i row n closed is same k d within =
    let there : Contains (row_at rows i) (get_or row k d) = subst (λ (l : List ℕ). Contains l (get_or row k d)) is (Contains-get_or row k d within) in
    subst (λ (m : ℕ). get_or row k d < m) (sym same) (closed i (get_or row k d) there)
