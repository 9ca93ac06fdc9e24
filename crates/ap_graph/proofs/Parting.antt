-- Groups are parted by two searches, one against the arrows and one along them.
use Rattle.std.proofs.Common.{◌≡◌, ◌≢◌, ◌<◌, ◌+◌, ◌==◌, ℕ, Bool, true, false, List, [], ◌∷◌, ◌++◌, length, get_or, refl, sym, ◌∙◌, ap, subst, arith, inl, inr, ◌⊎◌, ⊎_elim, Contains, All}
use Rattle.std.proofs.lemmas.List.{get_or_past, get_or_append_left, get_or_push, get_or_default, length_push}
use Rattle.std.proofs.lemmas.List.Elements.{Contains-push, Contains-push_cases, All-contains}
use Rattle.std.proofs.lemmas.Bool.{cases_eq, cases_lt, eqb-true, eq-eqb, true≢false, or_cases, or_left, or_right}
use Rattle.ap_text.specs.Chain.{Chain, step, through, Reaches}
use Rattle.ap_graph.specs.Rows.{row_at, IsClosed, IsReverse}
use Rattle.ap_graph.specs.Groups.{IsMoved, MovesReached, IsApart, IsWhole, AreParts, leads_into_lem, TellsInside, TellsCycles}
use Rattle.ap_text.proofs.Members.{Contains-none, Contains-cons_cases, Contains-head, Contains-tail_of}
use Rattle.ap_graph.proofs.RowFacts.{Contains-from_count, count_from_Contains}
use Rattle.ap_graph.proofs.Ordering.{All_front}
use Rattle.ap_graph.proofs.ChainFacts.{chain_join, chain_push, reach_first, reach_join}

-- a number that leads somewhere has a row
pub has_row : (rows : List (List ℕ)) (v w : ℕ) → Contains (row_at rows v) w → v < length rows
has_row rows v w arrow = ⊎_elim (λ less. less) (λ past. absurd (Contains-none w (subst (λ (r : List ℕ). Contains r w) (get_or_past rows v [] past) arrow))) (cases_lt v (length rows))

pub has_row_first : (rows : List (List ℕ)) {v w : ℕ} → Chain (row_at rows) v w → v < length rows
has_row_first rows {v = v} {w = w} (step h) = has_row rows v w h
has_row_first rows {v = v} (through {b = u} h more) = has_row rows v u h

-- an arrow the other way round
pub arrow_back : (rows back : List (List ℕ)) → IsReverse rows back → (v w : ℕ) → Contains (row_at rows v) w → Contains (row_at back w) v
arrow_back rows back turned v w arrow = Contains-from_count v (row_at back w) (subst (λ (n : ℕ). 0 < n) (sym (turned.counts v w)) (count_from_Contains w (row_at rows v) arrow))

pub arrow_forth : (rows back : List (List ℕ)) → IsReverse rows back → (v w : ℕ) → Contains (row_at back w) v → Contains (row_at rows v) w
arrow_forth rows back turned v w arrow = Contains-from_count w (row_at rows v) (subst (λ (n : ℕ). 0 < n) (turned.counts v w) (count_from_Contains v (row_at back w) arrow))

pub chain_forth : (rows back : List (List ℕ)) → IsReverse rows back → {v w : ℕ} → Chain (row_at back) v w → Chain (row_at rows) w v
chain_forth rows back turned {v = v} {w = w} (step h) = step (arrow_forth rows back turned w v h)
chain_forth rows back turned {v = v} (through {b = u} h more) = chain_push (chain_forth rows back turned more) (arrow_forth rows back turned u v h)

pub chain_back : (rows back : List (List ℕ)) → IsReverse rows back → {v w : ℕ} → Chain (row_at rows) v w → Chain (row_at back) w v
chain_back rows back turned {v = v} {w = w} (step h) = step (arrow_back rows back turned v w h)
chain_back rows back turned {v = v} (through {b = u} h more) = chain_push (chain_back rows back turned more) (arrow_back rows back turned v u h)

pub reach_forth : (rows back : List (List ℕ)) → IsReverse rows back → {v w : ℕ} → Reaches (row_at back) v w → Reaches (row_at rows) w v
reach_forth rows back turned (inl e) = inl (sym e)
reach_forth rows back turned (inr chain) = inr (chain_forth rows back turned chain)

pub closed_back : (rows back : List (List ℕ)) → IsReverse rows back → IsClosed rows → IsClosed back
closed_back rows back turned closed w v arrow =
    let there : v < length rows = has_row rows v w (arrow_forth rows back turned v w arrow) in
    omega (arith, turned.places)

apart_back : (rows back : List (List ℕ)) (group : List ℕ) → IsReverse rows back → IsApart rows group → IsApart back group
apart_back rows back group turned apart v w there here = apart v w (chain_forth rows back turned here) (chain_forth rows back turned there)

apart_forth : (rows back : List (List ℕ)) (group : List ℕ) → IsReverse rows back → IsApart back group → IsApart rows group
apart_forth rows back group turned apart v w there here = apart v w (chain_back rows back turned here) (chain_back rows back turned there)

-- what a search moves into a new group
module _ (rows : List (List ℕ)) (start to : ℕ) (old new : List ℕ) (fresh : All (λ g. g < to) old) (starts : start < length old) (moves : MovesReached rows start to old new) where
  pub is_moved : (x : ℕ) → x < length old → get_or new x 0 ≡ to → IsMoved rows start to old new x
  is_moved x within at = ⊎_elim
      (λ same. let low : get_or old x 0 < to = fresh x 0 within in absurd (omega arith))
      (λ moved. moved)
      (moves.each x within)

  pub is_kept : (x : ℕ) → x < length old → get_or new x 0 ≢ to → get_or new x 0 ≡ get_or old x 0
  is_kept x within other = ⊎_elim (λ same. same) (λ moved. absurd (other moved.now)) (moves.each x within)

  -- what leads to one another is moved together
  moved_along : length old ≡ length rows → IsApart rows old → {v w : ℕ} → Chain (row_at rows) v w → Chain (row_at rows) w v → get_or new v 0 ≡ to → get_or new w 0 ≡ to
  moved_along places apart {v = v} {w = w} (step h) here at =
      let within : v < length old = omega (arith, has_row rows v w h, places) in
      moves.closed v w within at h (sym (apart v w (step h) here) ∙ (is_moved v within at).was)
  moved_along places apart {v = v} {w = w} (through {b = u} h more) here at =
      let within : v < length old = omega (arith, has_row rows v u h, places) in
      let next : get_or new u 0 ≡ to = moves.closed v u within at h (sym (apart v u (step h) (chain_join more here)) ∙ (is_moved v within at).was) in
      moved_along places apart more (chain_push here h) next

  pub apart_still : length old ≡ length rows → IsApart rows old → IsApart rows new
  apart_still places apart v w there here = by_case (cases_eq (get_or new v 0) to) (cases_eq (get_or new w 0) to)
    where
      by_case : (get_or new v 0 ≡ to) ⊎ (get_or new v 0 ≡ to → ⊥) → (get_or new w 0 ≡ to) ⊎ (get_or new w 0 ≡ to → ⊥) → get_or new v 0 ≡ get_or new w 0
      by_case (inl at) other = at ∙ sym (moved_along places apart there here at)
      by_case (inr differs) (inl at) = absurd (differs (moved_along places apart here there at))
      by_case (inr differs) (inr none) =
          is_kept v (omega (arith, has_row_first rows there, places)) differs ∙ apart v w there here ∙ sym (is_kept w (omega (arith, has_row_first rows here, places)) none)

  -- the groups are below the next number
  pub known_still : All (λ g. g < to + 1) new
  known_still k d within =
      let inside : k < length old = omega (arith, moves.places) in
      let at : get_or new k d ≡ get_or new k 0 = get_or_default new k d 0 within in
      let low : get_or old k 0 < to = fresh k 0 inside in
      ⊎_elim (λ same. let e : get_or new k 0 ≡ get_or old k 0 = same in omega arith)
      (λ moved. let e : get_or new k 0 ≡ to = moved.now in omega arith)
      (moves.each k inside)

-- a group that was known before is as whole as it was
whole_before : (whole : List Bool) (t : Bool) (g : ℕ) → g < length whole → get_or (whole ++ t ∷ []) g false ≡ get_or whole g false
whole_before whole t g low = get_or_append_left whole (t ∷ []) false g low

whole_last : (whole : List Bool) (t : Bool) → get_or (whole ++ t ∷ []) (length whole) false ≡ t
whole_last whole t = get_or_push whole t false (length whole) refl

-- the search against the arrows
module _ (rows back : List (List ℕ)) (root : ℕ) (old mid : List ℕ) (whole : List Bool) (turned : IsReverse rows back) (parts : AreParts rows old whole) (rooted : root < length old)
    (moves : MovesReached back root (length whole) old mid) where
  places_mid : length mid ≡ length rows
  places_mid = moves.places ∙ parts.places

  pub parts_back : AreParts rows mid (whole ++ false ∷ [])
  parts_back = record {
    places = places_mid;
    known = subst (λ (n : ℕ). All (λ g. g < n) mid) (sym (length_push whole false)) (known_still back root (length whole) old mid parts.known rooted moves);
    apart = apart_forth rows back mid turned (apart_still back root (length whole) old mid parts.known rooted moves (parts.places ∙ sym turned.places) (apart_back rows back old turned parts.apart));
    strong = λ v w v_in w_in same full. strong v w v_in w_in same full (cases_eq (get_or mid v 0) (length whole));
  }
    where
      strong : (v w : ℕ) → v < length rows → w < length rows → get_or mid v 0 ≡ get_or mid w 0 → IsWhole mid (whole ++ false ∷ []) v →
          (get_or mid v 0 ≡ length whole) ⊎ (get_or mid v 0 ≡ length whole → ⊥) → Reaches (row_at rows) v w
      strong v w v_in w_in same full (inl at) = absurd (true≢false (sym full ∙ ap (λ (g : ℕ). get_or (whole ++ false ∷ []) g false) at ∙ whole_last whole false))
      strong v w v_in w_in same full (inr differs) =
          let v_old : v < length old = omega (arith, parts.places) in
          let w_old : w < length old = omega (arith, parts.places) in
          let kept_v : get_or mid v 0 ≡ get_or old v 0 = is_kept back root (length whole) old mid parts.known rooted moves v v_old differs in
          let kept_w : get_or mid w 0 ≡ get_or old w 0 = is_kept back root (length whole) old mid parts.known rooted moves w w_old (λ at. differs (same ∙ at)) in
          let low : get_or old v 0 < length whole = parts.known v 0 v_old in
          parts.strong v w v_in w_in (sym kept_v ∙ same ∙ kept_w)
          (sym (whole_before whole false (get_or old v 0) low) ∙ ap (λ (g : ℕ). get_or (whole ++ false ∷ []) g false) (sym kept_v) ∙ full)

  -- what it moved leads to the root
  pub leads_to_root : (x : ℕ) → x < length old → get_or mid x 0 ≡ length whole → Reaches (row_at rows) x root
  leads_to_root x within at = reach_forth rows back turned (is_moved back root (length whole) old mid parts.known rooted moves x within at).reached

  -- the search along them
  module _ (new : List ℕ) (again : MovesReached rows root (length (whole ++ false ∷ [])) mid new) where
    rooted_mid : root < length mid
    rooted_mid = omega (arith, moves.places)

    pub parts_forth : AreParts rows new ((whole ++ false ∷ []) ++ true ∷ [])
    parts_forth = record {
      places = again.places ∙ places_mid;
      known = subst (λ (n : ℕ). All (λ g. g < n) new) (sym (length_push (whole ++ false ∷ []) true)) (known_still rows root (length (whole ++ false ∷ [])) mid new parts_back.known rooted_mid again);
      apart = apart_still rows root (length (whole ++ false ∷ [])) mid new parts_back.known rooted_mid again places_mid parts_back.apart;
      strong = λ v w v_in w_in same full. strong v w v_in w_in same full (cases_eq (get_or new v 0) (length (whole ++ false ∷ [])));
    }
      where
        of_root : (x : ℕ) → x < length mid → get_or new x 0 ≡ length (whole ++ false ∷ []) → IsMoved rows root (length (whole ++ false ∷ [])) mid new x
        of_root = is_moved rows root (length (whole ++ false ∷ [])) mid new parts_back.known rooted_mid again

        to_root : (x : ℕ) → x < length mid → get_or new x 0 ≡ length (whole ++ false ∷ []) → Reaches (row_at rows) x root
        to_root x within at = leads_to_root x (omega (arith, moves.places)) ((of_root x within at).was ∙ moves.first)

        strong : (v w : ℕ) → v < length rows → w < length rows → get_or new v 0 ≡ get_or new w 0 → IsWhole new ((whole ++ false ∷ []) ++ true ∷ []) v →
            (get_or new v 0 ≡ length (whole ++ false ∷ [])) ⊎ (get_or new v 0 ≡ length (whole ++ false ∷ []) → ⊥) → Reaches (row_at rows) v w
        strong v w v_in w_in same full (inl at) =
            reach_join (to_root v (omega (arith, places_mid)) at) (of_root w (omega (arith, places_mid)) (sym same ∙ at)).reached
        strong v w v_in w_in same full (inr differs) =
            let v_mid : v < length mid = omega (arith, places_mid) in
            let w_mid : w < length mid = omega (arith, places_mid) in
            let kept_v : get_or new v 0 ≡ get_or mid v 0 = is_kept rows root (length (whole ++ false ∷ [])) mid new parts_back.known rooted_mid again v v_mid differs in
            let kept_w : get_or new w 0 ≡ get_or mid w 0 = is_kept rows root (length (whole ++ false ∷ [])) mid new parts_back.known rooted_mid again w w_mid (λ at. differs (same ∙ at)) in
            let low : get_or mid v 0 < length (whole ++ false ∷ []) = parts_back.known v 0 v_mid in
            parts_back.strong v w v_in w_in (sym kept_v ∙ same ∙ kept_w)
            (sym (whole_before (whole ++ false ∷ []) true (get_or mid v 0) low) ∙ ap (λ (g : ℕ). get_or ((whole ++ false ∷ []) ++ true ∷ []) g false) (sym kept_v) ∙ full)

-- the roots that are left
pub record Rooting (rows : List (List ℕ)) (group : List ℕ) (whole : List Bool) (order : List ℕ) : Type 0 where
  pub parts : AreParts rows group whole
  pub left : (v : ℕ) → v < length rows → Contains order v ⊎ IsWhole group whole v
  pub within : All (λ v. v < length rows) order

pub root_within : (rows : List (List ℕ)) (group : List ℕ) (whole : List Bool) (order less : List ℕ) (root : ℕ) → order ≡ less ++ root ∷ [] → Rooting rows group whole order → root < length rows
root_within rows group whole order less root is r = All-contains (λ v. v < length rows) (less ++ root ∷ []) root (subst (λ (l : List ℕ). All (λ v. v < length rows) l) is r.within) (Contains-push less root)

pub rooting_more : (rows : List (List ℕ)) (group group' : List ℕ) (whole whole' : List Bool) (order less : List ℕ) (root : ℕ) → order ≡ less ++ root ∷ [] → AreParts rows group' whole' →
    ((v : ℕ) → v < length group → IsWhole group whole v → IsWhole group' whole' v) → IsWhole group' whole' root → Rooting rows group whole order → Rooting rows group' whole' less
rooting_more rows group group' whole whole' order less root is parts keeps rooted r = record {
  parts = parts;
  left = λ v inside. ⊎_elim
      (λ on. ⊎_elim inl (λ e. inr (subst (λ (x : ℕ). IsWhole group' whole' x) e rooted)) (Contains-push_cases less root v (subst (λ (l : List ℕ). Contains l v) is on)))
      (λ full. inr (keeps v (omega (arith, r.parts.places)) full))
      (r.left v inside);
  within = All_front (λ v. v < length rows) less root (subst (λ (l : List ℕ). All (λ v. v < length rows) l) is r.within);
}

pub rooting_end : (rows : List (List ℕ)) (group : List ℕ) (whole : List Bool) (order : List ℕ) → order ≡ [] → Rooting rows group whole order → (v : ℕ) → v < length rows → IsWhole group whole v
rooting_end rows group whole order empty r v inside = ⊎_elim (λ on. absurd (Contains-none v (subst (λ (l : List ℕ). Contains l v) empty on))) (λ full. full) (r.left v inside)

-- what the code read of a root's group
pub whole_read : (group : List ℕ) (whole : List Bool) (root g : ℕ) (full : Bool) → root < length group → All (λ h. h < length whole) group → g ≡ get_or group root g → full ≡ get_or whole g full → full ≡ true → IsWhole group whole root
whole_read group whole root g full inside known read_group read_whole told =
    let at : g ≡ get_or group root 0 = read_group ∙ get_or_default group root g 0 inside in
    let low : get_or group root 0 < length whole = known root 0 inside in
    get_or_default whole (get_or group root 0) false full low ∙ ap (λ (h : ℕ). get_or whole h full) (sym at) ∙ sym read_whole ∙ told

-- whether some target is in the group
leads_into_at : (targets group : List ℕ) (own : ℕ) → leads_into_lem targets group own ≡ true → (w : ℕ) × Contains targets w × (get_or group w 0 ≡ own)
leads_into_at [] group own h = absurd (true≢false (sym h))
leads_into_at (t ∷ targets) group own h = by_case (leads_into_at targets group own) (or_cases (get_or group t 0 == own) (leads_into_lem targets group own) h)
  where
    by_case : (leads_into_lem targets group own ≡ true → (w : ℕ) × Contains targets w × (get_or group w 0 ≡ own)) →
        ((get_or group t 0 == own) ≡ true) ⊎ (leads_into_lem targets group own ≡ true) → (w : ℕ) × Contains (t ∷ targets) w × (get_or group w 0 ≡ own)
    by_case later (inl here) = (t, Contains-head t targets, eqb-true (get_or group t 0) own here)
    by_case later (inr more) = let r = later more in (r.0, Contains-tail_of t targets r.0 r.1, r.2)

leads_into_from : (targets group : List ℕ) (own w : ℕ) → Contains targets w → get_or group w 0 ≡ own → leads_into_lem targets group own ≡ true
leads_into_from [] group own w on at = absurd (Contains-none w on)
leads_into_from (t ∷ targets) group own w on at = ⊎_elim
    (λ e. or_left (get_or group t 0 == own) (leads_into_lem targets group own) (eq-eqb (get_or group t 0) own (ap (λ (v : ℕ). get_or group v 0) e ∙ at)))
    (λ later. or_right (get_or group t 0 == own) (leads_into_lem targets group own) (leads_into_from targets group own w later at))
    (Contains-cons_cases t targets w on)

-- where all groups are whole, who leads into its own group is on a cycle, and nobody else
pub cycles_told : (rows : List (List ℕ)) (group : List ℕ) (whole : List Bool) (told : List Bool) → IsClosed rows → AreParts rows group whole →
    ((v : ℕ) → v < length rows → IsWhole group whole v) → TellsInside rows group told → TellsCycles rows told
cycles_told rows group whole told closed parts full inside = record {
  places = inside.places;
  each = λ v within. (
    λ yes. let r = leads_into_at (row_at rows v) group (get_or group v 0) (sym (inside.each v within) ∙ yes) in
        reach_first r.1 (parts.strong r.0 v (closed v r.0 r.1) within r.2 (full r.0 (closed v r.0 r.1))),
    λ chain. inside.each v within ∙ from_chain v chain,
  );
}
  where
    from_chain : (v : ℕ) → Chain (row_at rows) v v → leads_into_lem (row_at rows v) group (get_or group v 0) ≡ true
    from_chain v (step h) = leads_into_from (row_at rows v) group (get_or group v 0) v h refl
    from_chain v (through {b = u} h more) = leads_into_from (row_at rows v) group (get_or group v 0) u h (parts.apart u v more (step h))
