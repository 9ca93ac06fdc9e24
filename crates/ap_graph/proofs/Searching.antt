-- A search that moves what it reaches into a group of its own.
use Rattle.std.proofs.Common.{◌≡◌, ◌≢◌, ◌<◌, ◌≤◌, ◌+◌, ◌==◌, ℕ, zero, suc, Bool, true, false, cond, List, [], ◌∷◌, ◌++◌, length, set, get_or, sym, ◌∙◌, ap, subst, arith, inl, inr, ◌⊎◌, ⊎_elim, Contains, drop, All, length-set}
use Rattle.std.proofs.lemmas.List.{get_or-set_same, get_or-set_other, drop_more, drop_all, get_or_default, length_push}
use Rattle.std.proofs.lemmas.List.Elements.{Contains-push, Contains-push_cases, Contains-append_left}
use Rattle.std.proofs.lemmas.Bool.{cases_eq}
use Rattle.ap_text.specs.Chain.{Reaches}
use Rattle.ap_graph.specs.Rows.{row_at, count_of, IsClosed}
use Rattle.ap_graph.specs.Groups.{IsMoved}
use Rattle.ap_text.proofs.Members.{Contains-none, Contains-cons_cases}
use Rattle.ap_graph.proofs.RowFacts.{count_of-same, count_of-other, targets_within}
use Rattle.ap_graph.proofs.ChainFacts.{reach_push}

-- what was moved so far; each arrow out of it within the old group leads to what was moved, or it is still to be looked at:
-- its source is on the stack, or is the node whose targets are being looked at
pub record Searching (rows : List (List ℕ)) (start to : ℕ) (old group stack : List ℕ) (node : ℕ) (rest : List ℕ) : Type 0 where
  pub places : length group ≡ length old
  pub each : (x : ℕ) → x < length old → (get_or group x 0 ≡ get_or old x 0) ⊎ IsMoved rows start to old group x
  pub first : get_or group start 0 ≡ to
  pub stacked : (x : ℕ) → Contains stack x → (x < length old) × (get_or group x 0 ≡ to)
  pub pending : (x w : ℕ) → x < length old → get_or group x 0 ≡ to → Contains (row_at rows x) w → get_or old w 0 ≡ get_or old start 0 →
      (get_or group w 0 ≡ to) ⊎ (Contains stack x ⊎ ((x ≡ node) × Contains rest w))

-- the node whose targets are looked at
pub record Looking (rows : List (List ℕ)) (start to : ℕ) (old group stack : List ℕ) (node : ℕ) (rest : List ℕ) : Type 0 where
  pub searching : Searching rows start to old group stack node rest
  pub within : node < length old
  pub moved : get_or group node 0 ≡ to

-- a group that is new has no member yet
not_yet : (to : ℕ) (old : List ℕ) (x : ℕ) → All (λ g. g < to) old → x < length old → get_or old x 0 ≢ to
not_yet to old x new within e = let low : get_or old x 0 < to = new x 0 within in omega arith

-- what is in the new group was moved
moved_from_to : (rows : List (List ℕ)) (start to : ℕ) (old group : List ℕ) (x : ℕ) → All (λ g. g < to) old → x < length old → get_or group x 0 ≡ to →
    (get_or group x 0 ≡ get_or old x 0) ⊎ IsMoved rows start to old group x → IsMoved rows start to old group x
moved_from_to rows start to old group x new within at (inl same) = absurd (not_yet to old x new within (sym same ∙ at))
moved_from_to rows start to old group x new within at (inr moved) = moved

-- a node is taken off the stack
pub searching_pop : (rows : List (List ℕ)) (start to : ℕ) (old group stack less : List ℕ) (before node : ℕ) → stack ≡ less ++ node ∷ [] →
    Searching rows start to old group stack before [] → Looking rows start to old group less node (row_at rows node)
searching_pop rows start to old group stack less before node is s = record {
  searching = record {
    places = s.places;
    each = s.each;
    first = s.first;
    stacked = λ x on. s.stacked x (subst (λ (l : List ℕ). Contains l x) (sym is) (Contains-append_left less (node ∷ []) x on));
    pending = λ x w inside at arrow same. ⊎_elim inl (λ more. inr (⊎_elim (λ on. taken x w arrow (Contains-push_cases less node x (subst (λ (l : List ℕ). Contains l x) is on))) (λ none. absurd (Contains-none w none.1)) more))
        (s.pending x w inside at arrow same);
  };
  within = (s.stacked node top).0;
  moved = (s.stacked node top).1;
}
  where
    top : Contains stack node
    top = subst (λ (l : List ℕ). Contains l node) (sym is) (Contains-push less node)

    taken : (x w : ℕ) → Contains (row_at rows x) w → Contains less x ⊎ (node ≡ x) → Contains less x ⊎ ((x ≡ node) × Contains (row_at rows node) w)
    taken x w arrow (inl on) = inl on
    taken x w arrow (inr e) = inr (sym e, subst (λ (v : ℕ). Contains (row_at rows v) w) (sym e) arrow)

module _ (rows : List (List ℕ)) (start to : ℕ) (old group stack : List ℕ) (node : ℕ) (i target : ℕ) (new : All (λ g. g < to) old) (starts : start < length old)
    (inside : target < length old) (there : i < length (row_at rows node)) (read : target ≡ get_or (row_at rows node) i 0)
    (l : Looking rows start to old group stack node (drop i (row_at rows node))) where
  s : Searching rows start to old group stack node (drop i (row_at rows node))
  s = l.searching

  next_rest : (w : ℕ) → Contains (drop i (row_at rows node)) w → (target ≡ w) ⊎ Contains (drop (i + 1) (row_at rows node)) w
  next_rest w on = ⊎_elim (λ e. inl (read ∙ e)) inr
      (Contains-cons_cases (get_or (row_at rows node) i 0) (drop (i + 1) (row_at rows node)) w (subst (λ (r : List ℕ). Contains r w) (drop_more (row_at rows node) i 0 there) on))

  -- a target in the old group is moved, and goes onto the stack
  pub looking_moves : get_or group target 0 ≡ get_or old start 0 → (group' stack' : List ℕ) → group' ≡ set group target to → stack' ≡ stack ++ target ∷ [] →
      Looking rows start to old group' stack' node (drop (i + 1) (row_at rows node))
  looking_moves from group' stack' is pushed = record {
    searching = record {
      places = ap length is ∙ length-set group target to ∙ s.places;
      each = λ x in'. each x in' (cases_eq x target);
      first = stays start s.first;
      stacked = λ x on. ⊎_elim (λ was. ((s.stacked x was).0, stays x (s.stacked x was).1)) (λ e. (subst (λ (w : ℕ). w < length old) e inside, ap (λ (w : ℕ). get_or group' w 0) (sym e) ∙ here))
          (Contains-push_cases stack target x (subst (λ (r : List ℕ). Contains r x) pushed on));
      pending = λ x w in' at arrow same. pending x w in' at arrow same (cases_eq x target) (cases_eq w target);
    };
    within = l.within;
    moved = stays node l.moved;
  }
    where
      within : target < length group
      within = omega (arith, s.places, inside)

      here : get_or group' target 0 ≡ to
      here = ap (λ (r : List ℕ). get_or r target 0) is ∙ get_or-set_same group target to 0 within

      other : (x : ℕ) → (x ≡ target → ⊥) → get_or group' x 0 ≡ get_or group x 0
      other x differs = ap (λ (r : List ℕ). get_or r x 0) is ∙ get_or-set_other group target x to 0 differs

      stays_by : (x : ℕ) → get_or group x 0 ≡ to → (x ≡ target) ⊎ (x ≡ target → ⊥) → get_or group' x 0 ≡ to
      stays_by x at (inl e) = ap (λ (w : ℕ). get_or group' w 0) e ∙ here
      stays_by x at (inr differs) = other x differs ∙ at

      stays : (x : ℕ) → get_or group x 0 ≡ to → get_or group' x 0 ≡ to
      stays x at = stays_by x at (cases_eq x target)

      arrow_here : Contains (row_at rows node) target
      arrow_here = (i, there, sym (read_as (sym read)))
        where
          read_as : get_or (row_at rows node) i 0 ≡ target → target ≡ get_or (row_at rows node) i target
          read_as e = read ∙ get_or_default (row_at rows node) i 0 target there

      at_node : IsMoved rows start to old group node
      at_node = moved_from_to rows start to old group node new l.within l.moved (s.each node l.within)

      was_from : (get_or group target 0 ≡ get_or old target 0) ⊎ IsMoved rows start to old group target → get_or old target 0 ≡ get_or old start 0
      was_from (inl same) = sym same ∙ from
      was_from (inr moved) = moved.was

      each : (x : ℕ) → x < length old → (x ≡ target) ⊎ (x ≡ target → ⊥) → (get_or group' x 0 ≡ get_or old x 0) ⊎ IsMoved rows start to old group' x
      each x in' (inl e) = inr (record {
        was = ap (λ (w : ℕ). get_or old w 0) e ∙ was_from (s.each target inside);
        now = ap (λ (w : ℕ). get_or group' w 0) e ∙ here;
        reached = subst (λ (w : ℕ). Reaches (row_at rows) start w) (sym e) (inr (reach_push at_node.reached arrow_here));
      })
      each x in' (inr differs) = ⊎_elim (λ same. inl (other x differs ∙ same))
          (λ moved. inr (record { was = moved.was; now = stays x moved.now; reached = moved.reached }))
          (s.each x in')

      pending : (x w : ℕ) → x < length old → get_or group' x 0 ≡ to → Contains (row_at rows x) w → get_or old w 0 ≡ get_or old start 0 →
          (x ≡ target) ⊎ (x ≡ target → ⊥) → (w ≡ target) ⊎ (w ≡ target → ⊥) →
          (get_or group' w 0 ≡ to) ⊎ (Contains stack' x ⊎ ((x ≡ node) × Contains (drop (i + 1) (row_at rows node)) w))
      pending x w in' at arrow same cx (inl e) = inl (ap (λ (v : ℕ). get_or group' v 0) e ∙ here)
      pending x w in' at arrow same (inl e) (inr differs) = inr (inl (subst (λ (r : List ℕ). Contains r x) (sym pushed) (subst (λ (v : ℕ). Contains (stack ++ target ∷ []) v) (sym e) (Contains-push stack target))))
      pending x w in' at arrow same (inr dx) (inr dw) = ⊎_elim
          (λ done. inl (stays w done))
          (λ more. ⊎_elim
          (λ on. inr (inl (subst (λ (r : List ℕ). Contains r x) (sym pushed) (Contains-append_left stack (target ∷ []) x on))))
          (λ rest. ⊎_elim (λ e. absurd (dw (sym e))) (λ later. inr (inr (rest.0, later))) (next_rest w rest.1))
          more)
          (s.pending x w in' (sym (other x dx) ∙ at) arrow same)

  -- a target that isn't in the old group stays
  pub looking_stays : (get_or group target 0 ≡ get_or old start 0 → ⊥) → Looking rows start to old group stack node (drop (i + 1) (row_at rows node))
  looking_stays differs = record {
    searching = record {
      places = s.places;
      each = s.each;
      first = s.first;
      stacked = s.stacked;
      pending = λ x w in' at arrow same. ⊎_elim inl
          (λ more. ⊎_elim (λ on. inr (inl on)) (λ rest. ⊎_elim (λ e. inl (at_target w e same (s.each target inside))) (λ later. inr (inr (rest.0, later))) (next_rest w rest.1)) more)
          (s.pending x w in' at arrow same);
    };
    within = l.within;
    moved = l.moved;
  }
    where
      at_target : (w : ℕ) → target ≡ w → get_or old w 0 ≡ get_or old start 0 → (get_or group target 0 ≡ get_or old target 0) ⊎ IsMoved rows start to old group target → get_or group w 0 ≡ to
      at_target w e same (inl kept) = absurd (differs (kept ∙ ap (λ (v : ℕ). get_or old v 0) e ∙ same))
      at_target w e same (inr moved) = ap (λ (v : ℕ). get_or group v 0) (sym e) ∙ moved.now

-- all targets were looked at
pub looking_end : (rows : List (List ℕ)) (start to : ℕ) (old group stack : List ℕ) (node i : ℕ) (targets : List ℕ) → targets ≡ row_at rows node → length targets ≤ i →
    Looking rows start to old group stack node (drop i (row_at rows node)) → Searching rows start to old group stack start []
looking_end rows start to old group stack node i targets is whole l = record {
  places = l.searching.places;
  each = l.searching.each;
  first = l.searching.first;
  stacked = l.searching.stacked;
  pending = λ x w inside at arrow same. ⊎_elim inl (λ more. inr (⊎_elim inl (λ rest. absurd (Contains-none w (subst (λ (r : List ℕ). Contains r w) none rest.1))) more))
      (l.searching.pending x w inside at arrow same);
}
  where
    none : drop i (row_at rows node) ≡ []
    none = drop_all i (row_at rows node) (subst (λ (r : List ℕ). length r ≤ i) is whole)

-- each target has a group
pub looked_within : (rows : List (List ℕ)) (start to : ℕ) (old group stack : List ℕ) (node i : ℕ) (targets rest : List ℕ) → IsClosed rows → length old ≡ length rows →
    targets ≡ row_at rows node → i < length targets → Looking rows start to old group stack node rest → get_or targets i 0 < length group
looked_within rows start to old group stack node i targets rest closed places is there l =
    targets_within rows node targets (length group) closed is (l.searching.places ∙ places) i 0 there

-- one less is in the old group
pub count_of-set : (from to : ℕ) (group : List ℕ) (i : ℕ) → i < length group → get_or group i 0 ≡ from → to ≢ from → count_of from (set group i to) + 1 ≡ count_of from group
count_of-set from to [] i within at differs = absurd (omega arith)
count_of-set from to (x ∷ xs) zero within at differs = omega (arith, count_of-other from to xs differs, subst (λ (w : ℕ). count_of from (w ∷ xs) ≡ 1 + count_of from xs) (sym at) (count_of-same from xs))
count_of-set from to (x ∷ xs) (suc i) within at differs = by_case (x == from) (count_of-set from to xs i (omega arith) at differs)
  where
    by_case : (t : Bool) → count_of from (set xs i to) + 1 ≡ count_of from xs →
        cond t (1 + count_of from (set xs i to)) (count_of from (set xs i to)) + 1 ≡ cond t (1 + count_of from xs) (count_of from xs)
    by_case true e = omega (arith, e)
    by_case false e = e

-- what moves from the old group goes onto the stack
pub moving_counts : (old : List ℕ) (start to : ℕ) (group group' stack stack' : List ℕ) (target : ℕ) → All (λ g. g < to) old → start < length old → target < length group →
    get_or group target 0 ≡ get_or old start 0 → group' ≡ set group target to → stack' ≡ stack ++ target ∷ [] →
    count_of (get_or old start 0) group' + length stack' ≡ count_of (get_or old start 0) group + length stack
moving_counts old start to group group' stack stack' target new starts within from is pushed =
    let low : get_or old start 0 < to = new start 0 starts in
    let one : count_of (get_or old start 0) (set group target to) + 1 ≡ count_of (get_or old start 0) group = count_of-set (get_or old start 0) to group target within from (λ e. omega arith) in
    omega (arith, one, ap (count_of (get_or old start 0)) is, ap length pushed, length_push stack target)
