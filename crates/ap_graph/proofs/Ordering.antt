-- A walk in depth that leaves every number.
use Rattle.std.proofs.Common.{◌≡◌, ◌<◌, ◌≤◌, ◌+◌, ◌*◌, ℕ, zero, suc, Bool, true, false, cond, List, [], ◌∷◌, ◌++◌, length, map, set, get_or, refl, sym, ◌∙◌, ap, subst, arith, inl, inr, ◌⊎◌, ⊎_elim, Contains, All, length-set}
use Rattle.std.specs.List.{sum_by}
use Rattle.std.proofs.lemmas.List.{get_or-set_same, get_or-set_other, length_push, length-append, length-map, get_or_default, get_or_append_left}
use Rattle.std.proofs.lemmas.List.Elements.{Contains-append_left, Contains-push, Contains-push_cases, All-append, All-map, All-push, All-contains, Contains-get_or}
use Rattle.std.proofs.lemmas.List.Sums.{get_or-le-sum_by}
use Rattle.std.proofs.lemmas.Bool.{cases_eq, cases_Bool, cond-true, cond-false}
use Rattle.ap_graph.specs.declared.order.Visit.{Visit}
use Rattle.ap_graph.specs.declared.order.Visit.TheVariants.{Enter, Leave}
use Rattle.ap_graph.specs.Rows.{row_at, IsClosed}
use Rattle.ap_graph.specs.Visits.{entered, IsWithin}
use Rattle.ap_text.proofs.Members.{Contains-none}

-- each number is still to be entered, or it was; and if it was, it is still to be left, or it is in the order
pub record Walking (n : ℕ) (seen : List Bool) (stack : List Visit) (order : List ℕ) : Type 0 where
  pub places : length seen ≡ n
  pub within : All (IsWithin n) stack
  pub left : All (λ v. v < n) order
  pub entering : (v : ℕ) → v < n → Contains stack (Enter v) ⊎ (get_or seen v false ≡ true)
  pub leaving : (v : ℕ) → v < n → get_or seen v false ≡ true → Contains stack (Leave v) ⊎ Contains order v

-- how many weren't entered yet
pub unseen : List Bool → ℕ
unseen [] = 0
unseen (b ∷ bs) = cond b 0 1 + unseen bs

-- each number that isn't entered yet weighs more than what its entry puts on the stack
pub weight : List (List ℕ) → List Bool → List Visit → ℕ
weight rows seen stack = unseen seen * (sum_by length rows + 2) + length stack

-- all but the last
pub All_front : {X : Type 0} (P : X → Type 0) (xs : List X) (x : X) → All P (xs ++ x ∷ []) → All P xs
All_front P xs x all k d within = subst P (get_or_append_left xs (x ∷ []) d k within) (all k d (omega (arith, length_push xs x)))

node_of : Visit → ℕ
node_of (Enter v) = v
node_of (Leave v) = v

same_node : (v w : ℕ) → Leave v ≡ Leave w → v ≡ w
unfolding node_of
same_node v w e = ap node_of e

entered_node : (v w : ℕ) → Enter v ≡ Enter w → v ≡ w
unfolding node_of
entered_node v w e = ap node_of e

one_more : (k m : ℕ) → (k + 1) * m ≡ k * m + m
one_more k m = omega arith

-- a number is left
pub walk_leaves : (n : ℕ) (seen : List Bool) (stack less : List Visit) (order order' : List ℕ) (node : ℕ) → stack ≡ less ++ Leave node ∷ [] → order' ≡ order ++ node ∷ [] →
    Walking n seen stack order → Walking n seen less order'
walk_leaves n seen stack less order order' node is pushed w = record {
  places = w.places;
  within = λ k d inside. all_less k d inside;
  left = subst (λ (l : List ℕ). All (λ v. v < n) l) (sym pushed) (All-push (λ v. v < n) order node w.left at_top);
  entering = λ v inside. ⊎_elim (λ on. inl (on_less v (Contains-push_cases less (Leave node) (Enter v) (subst (λ (l : List Visit). Contains l (Enter v)) is on)))) inr (w.entering v inside);
  leaving = λ v inside told. ⊎_elim (λ on. leaving v (Contains-push_cases less (Leave node) (Leave v) (subst (λ (l : List Visit). Contains l (Leave v)) is on)))
      (λ done. inr (subst (λ (l : List ℕ). Contains l v) (sym pushed) (Contains-append_left order (node ∷ []) v done))) (w.leaving v inside told);
}
  where
    whole : All (IsWithin n) (less ++ Leave node ∷ [])
    whole = subst (λ (l : List Visit). All (IsWithin n) l) is w.within

    all_less : All (IsWithin n) less
    all_less = All_front (IsWithin n) less (Leave node) whole

    at_top : node < n
    at_top = All-contains (IsWithin n) (less ++ Leave node ∷ []) (Leave node) whole (Contains-push less (Leave node))

    on_less : (v : ℕ) → Contains less (Enter v) ⊎ (Leave node ≡ Enter v) → Contains less (Enter v)
    on_less v (inl on) = on
    on_less v (inr e) = cc

    leaving : (v : ℕ) → Contains less (Leave v) ⊎ (Leave node ≡ Leave v) → Contains less (Leave v) ⊎ Contains order' v
    leaving v (inl on) = inl on
    leaving v (inr e) = inr (subst (λ (l : List ℕ). Contains l v) (sym pushed) (subst (λ (x : ℕ). Contains (order ++ node ∷ []) x) (same_node node v e) (Contains-push order node)))

-- a number is entered
pub walk_enters : (rows : List (List ℕ)) (n : ℕ) (seen seen' : List Bool) (stack less stack' : List Visit) (order : List ℕ) (node : ℕ) → n ≡ length rows → IsClosed rows →
    stack ≡ less ++ Enter node ∷ [] → seen' ≡ set seen node true → stack' ≡ entered rows seen less node → Walking n seen stack order → Walking n seen' stack' order
walk_enters rows n seen seen' stack less stack' order node places closed is saw enters w = record {
  places = ap length saw ∙ length-set seen node true ∙ w.places;
  within = within_by (cases_Bool (get_or seen node true));
  left = w.left;
  entering = λ v inside. entering v inside (cases_eq v node);
  leaving = λ v inside told. leaving v inside told (cases_eq v node) (cases_Bool (get_or seen node true));
}
  where
    whole : All (IsWithin n) (less ++ Enter node ∷ [])
    whole = subst (λ (l : List Visit). All (IsWithin n) l) is w.within

    all_less : All (IsWithin n) less
    all_less = All_front (IsWithin n) less (Enter node) whole

    at_top : node < n
    at_top = All-contains (IsWithin n) (less ++ Enter node ∷ []) (Enter node) whole (Contains-push less (Enter node))

    in_seen : node < length seen
    in_seen = omega (arith, w.places, at_top)

    longer : List Visit
    longer = less ++ Leave node ∷ [] ++ map Enter (row_at rows node)

    if_seen : get_or seen node true ≡ true → stack' ≡ less
    if_seen had = enters ∙ cond-true (get_or seen node true) less (less ++ Leave node ∷ [] ++ map Enter (row_at rows node)) had

    if_new : get_or seen node true ≡ false → stack' ≡ less ++ Leave node ∷ [] ++ map Enter (row_at rows node)
    if_new fresh = enters ∙ cond-false (get_or seen node true) less (less ++ Leave node ∷ [] ++ map Enter (row_at rows node)) fresh

    keeps_by : (x : Visit) → Contains less x → (get_or seen node true ≡ true) ⊎ (get_or seen node true ≡ false) → Contains stack' x
    keeps_by x on (inl had) = subst (λ (l : List Visit). Contains l x) (sym (if_seen had)) on
    keeps_by x on (inr fresh) = subst (λ (l : List Visit). Contains l x) (sym (if_new fresh)) (Contains-append_left (less ++ Leave node ∷ []) (map Enter (row_at rows node)) x (Contains-append_left less (Leave node ∷ []) x on))

    keeps : (x : Visit) → Contains less x → Contains stack' x
    keeps x on = keeps_by x on (cases_Bool (get_or seen node true))

    targets : All (IsWithin n) (map Enter (row_at rows node))
    targets = All-map (IsWithin n) Enter (row_at rows node) (λ k d inside. subst (λ (m : ℕ). get_or (row_at rows node) k d < m) (sym places) (closed node (get_or (row_at rows node) k d) (Contains-get_or (row_at rows node) k d inside)))

    within_by : (get_or seen node true ≡ true) ⊎ (get_or seen node true ≡ false) → All (IsWithin n) stack'
    within_by (inl had) = subst (λ (l : List Visit). All (IsWithin n) l) (sym (if_seen had)) all_less
    within_by (inr fresh) = subst (λ (l : List Visit). All (IsWithin n) l) (sym (if_new fresh))
        (All-append (IsWithin n) (less ++ Leave node ∷ []) (map Enter (row_at rows node)) (All-push (IsWithin n) less (Leave node) all_less at_top) targets)

    saw_other : (v : ℕ) → (v ≡ node → ⊥) → get_or seen' v false ≡ get_or seen v false
    saw_other v differs = ap (λ (l : List Bool). get_or l v false) saw ∙ get_or-set_other seen node v true false differs

    saw_node : get_or seen' node false ≡ true
    saw_node = ap (λ (l : List Bool). get_or l node false) saw ∙ get_or-set_same seen node true false in_seen

    on_less : (v : ℕ) → (v ≡ node → ⊥) → Contains less (Enter v) ⊎ (Enter node ≡ Enter v) → Contains less (Enter v)
    on_less v differs (inl on) = on
    on_less v differs (inr e) = absurd (differs (sym (entered_node node v e)))

    entering : (v : ℕ) → v < n → (v ≡ node) ⊎ (v ≡ node → ⊥) → Contains stack' (Enter v) ⊎ (get_or seen' v false ≡ true)
    entering v inside (inl e) = inr (ap (λ (x : ℕ). get_or seen' x false) e ∙ saw_node)
    entering v inside (inr differs) = ⊎_elim
        (λ on. inl (keeps (Enter v) (on_less v differs (Contains-push_cases less (Enter node) (Enter v) (subst (λ (l : List Visit). Contains l (Enter v)) is on)))))
        (λ told. inr (saw_other v differs ∙ told))
        (w.entering v inside)

    not_enter : (v : ℕ) → Contains less (Leave v) ⊎ (Enter node ≡ Leave v) → Contains less (Leave v)
    not_enter v (inl on) = on
    not_enter v (inr e) = cc

    still : (v : ℕ) → v < n → get_or seen v false ≡ true → Contains stack' (Leave v) ⊎ Contains order v
    still v inside told = ⊎_elim
        (λ on. inl (keeps (Leave v) (not_enter v (Contains-push_cases less (Enter node) (Leave v) (subst (λ (l : List Visit). Contains l (Leave v)) is on)))))
        inr
        (w.leaving v inside told)

    leaving : (v : ℕ) → v < n → get_or seen' v false ≡ true → (v ≡ node) ⊎ (v ≡ node → ⊥) → (get_or seen node true ≡ true) ⊎ (get_or seen node true ≡ false) → Contains stack' (Leave v) ⊎ Contains order v
    leaving v inside told (inl e) (inl had) = still v inside (ap (λ (x : ℕ). get_or seen x false) e ∙ get_or_default seen node false true in_seen ∙ had)
    leaving v inside told (inl e) (inr fresh) = inl (subst (λ (x : ℕ). Contains stack' (Leave x)) (sym e)
        (subst (λ (l : List Visit). Contains l (Leave node)) (sym (if_new fresh)) (Contains-append_left (less ++ Leave node ∷ []) (map Enter (row_at rows node)) (Leave node) (Contains-push less (Leave node)))))
    leaving v inside told (inr differs) had = still v inside (sym (saw_other v differs) ∙ told)

-- a number that is to be entered has a row
pub enter_within : (n : ℕ) (seen : List Bool) (stack less : List Visit) (order : List ℕ) (node : ℕ) → stack ≡ less ++ Enter node ∷ [] → Walking n seen stack order → node < n
enter_within n seen stack less order node is w = All-contains (IsWithin n) (less ++ Enter node ∷ []) (Enter node) (subst (λ (l : List Visit). All (IsWithin n) l) is w.within) (Contains-push less (Enter node))

-- everything was left
pub walk_ends : (n : ℕ) (seen : List Bool) (stack : List Visit) (order : List ℕ) → stack ≡ [] → Walking n seen stack order → (v : ℕ) → v < n → Contains order v
walk_ends n seen stack order empty w v inside = ⊎_elim (λ on. absurd (Contains-none (Enter v) (subst (λ (l : List Visit). Contains l (Enter v)) empty on)))
    (λ told. ⊎_elim (λ on. absurd (Contains-none (Leave v) (subst (λ (l : List Visit). Contains l (Leave v)) empty on))) (λ done. done) (w.leaving v inside told))
    (w.entering v inside)

-- the measure falls
unseen-set_new : (seen : List Bool) (i : ℕ) → i < length seen → get_or seen i true ≡ false → unseen (set seen i true) + 1 ≡ unseen seen
unfolding unseen
unseen-set_new [] i within fresh = absurd (omega arith)
unseen-set_new (b ∷ bs) zero within fresh = omega (arith, ap {B = ℕ} (λ (t : Bool). cond t 0 1) fresh)
unseen-set_new (b ∷ bs) (suc i) within fresh = omega (arith, unseen-set_new bs i (omega arith) fresh)

unseen-set_seen : (seen : List Bool) (i : ℕ) → get_or seen i true ≡ true → unseen (set seen i true) ≡ unseen seen
unfolding unseen
unseen-set_seen [] i had = refl
unseen-set_seen (b ∷ bs) zero had = omega (arith, ap {B = ℕ} (λ (t : Bool). cond t 0 1) had)
unseen-set_seen (b ∷ bs) (suc i) had = omega (arith, unseen-set_seen bs i had)

pub leaving_smaller : (rows : List (List ℕ)) (seen : List Bool) (stack less : List Visit) (node : Visit) → stack ≡ less ++ node ∷ [] → weight rows seen less < weight rows seen stack
unfolding weight
leaving_smaller rows seen stack less node is = omega (arith, ap length is, length_push less node)

pub entering_smaller : (rows : List (List ℕ)) (seen seen' : List Bool) (stack less stack' : List Visit) (node : ℕ) → node < length seen → node < length rows →
    stack ≡ less ++ Enter node ∷ [] → seen' ≡ set seen node true → stack' ≡ entered rows seen less node → weight rows seen' stack' < weight rows seen stack
unfolding weight
entering_smaller rows seen seen' stack less stack' node in_seen in_rows is saw enters = by_case (cases_Bool (get_or seen node true))
  where
    shorter : length stack ≡ length less + 1
    shorter = ap length is ∙ length_push less (Enter node)

    by_case : (get_or seen node true ≡ true) ⊎ (get_or seen node true ≡ false) → unseen seen' * (sum_by length rows + 2) + length stack' < unseen seen * (sum_by length rows + 2) + length stack
    by_case (inl had) =
        let same : unseen seen' ≡ unseen seen = ap unseen saw ∙ unseen-set_seen seen node had in
        let kept : stack' ≡ less = enters ∙ cond-true (get_or seen node true) less (less ++ Leave node ∷ [] ++ map Enter (row_at rows node)) had in
        let product : unseen seen' * (sum_by length rows + 2) ≡ unseen seen * (sum_by length rows + 2) = ap (λ (k : ℕ). k * (sum_by length rows + 2)) same in
        omega (arith, ap length kept, shorter)
    by_case (inr fresh) =
        let less_one : unseen seen' + 1 ≡ unseen seen = ap (λ (l : List Bool). unseen l + 1) saw ∙ unseen-set_new seen node in_seen fresh in
        let longer : stack' ≡ less ++ Leave node ∷ [] ++ map Enter (row_at rows node) = enters ∙ cond-false (get_or seen node true) less (less ++ Leave node ∷ [] ++ map Enter (row_at rows node)) fresh in
        let more : length stack' ≡ length less + 1 + length (row_at rows node) = ap length longer ∙ length-append (less ++ Leave node ∷ []) (map Enter (row_at rows node)) ∙ ap (λ (k : ℕ). k + length (map Enter (row_at rows node))) (length_push less (Leave node)) ∙ ap (λ (k : ℕ). length less + 1 + k) (length-map (row_at rows node) Enter) in
        let part : length (row_at rows node) ≤ sum_by length rows = get_or-le-sum_by length rows node [] in_rows in
        let product : unseen seen * (sum_by length rows + 2) ≡ unseen seen' * (sum_by length rows + 2) + (sum_by length rows + 2) = ap (λ (k : ℕ). k * (sum_by length rows + 2)) (sym less_one) ∙ one_more (unseen seen') (sum_by length rows + 2) in
        omega (arith, part, product, more, shorter)
