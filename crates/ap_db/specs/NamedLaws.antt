-- Which live things go: those that nothing names, and then those that nothing names any more.
use Rattle.std.proofs.Common.{◌≡◌, true, false, List, [], ◌∷◌, ◌++◌, refl, sym, ◌∙◌, subst, ◌⊎◌, inl, inr, ⊎_elim, append_assoc}
use Rattle.std.specs.List.{AllByRecursion, flat_map}
use Rattle.ap_content.specs.Things.{Thing, Kids, thing, no_kids, kid}
use Rattle.ap_rows.specs.Forms.{kids_in, has_form}
use Rattle.ap_db.specs.Same.{is_among}
use Rattle.ap_db.specs.Stored.{Live, Stored, values, row_things, kids_of_thing, named_things, is_named}
use Rattle.ap_db.specs.Commit.{with_below, all_below}
use Rattle.ap_db.specs.States.{IsSound}
use Rattle.ap_db.specs.Members.{Has, in_front, in_back, in_either, in_middle, from_map, in_flat_map, from_flat_map, true_of_all}
use Rattle.ap_db.specs.SameThings.{has_if_among, has_not, among_if_has}
use Rattle.ap_db.specs.WellStored.{AreBuilt, things_of, IsWellStored}
use Rattle.ap_db.specs.LiveLaws.{kids_live}
use Rattle.ap_db.specs.NewThings.{no_more}
use Rattle.ap_db.specs.DropLaws.{reached, AreReached, named_reached, kids_reached, no_kid_behind}
use Rattle.ap_db.specs.CommitLaw.{reached_lives}

-- ---- where all that lives is named, rows reach it all

module _ (stored : Stored) (well : IsWellStored stored) (named : (live : Live) → Has stored.live live → is_named stored live.value ≡ true) where
  from_front : (back front : List Live) → stored.live ≡ front ++ back → AreReached (reached stored.tables) front → AreReached (reached stored.tables) stored.live
  from_front [] front are so_far live h = so_far live (subst (λ l. Has l live) (are ∙ sym (no_more front)) h)
  from_front (first ∷ back) front are so_far live h =
      from_front back (front ++ first ∷ []) (are ∙ sym (append_assoc front (first ∷ []) back)) (λ l m. one_more l (in_either front (first ∷ []) l m)) live h
    where
      first_reached : Has (reached stored.tables) first.value
      first_reached = ⊎_elim
          (λ row. named_reached stored.tables first.value row)
          (λ kids.
          let parent = from_flat_map kids_of_thing (values stored) first.value kids in
          let lives = from_map (λ (l : Live). l.value) stored.live parent.0 parent.1 in
          let is_kid : Has (kids_of_thing lives.0.value) first.value = subst (λ y. Has (kids_of_thing y) first.value) (sym lives.2) parent.2 in
          ⊎_elim
          (λ a. kids_reached stored.tables lives.0.value first.value (so_far lives.0 a) is_kid)
          (λ b. absurd (no_kid_behind front first back lives.0 (subst AreBuilt are well.built) b is_kid))
          (in_either front (first ∷ back) lives.0 (subst (λ l. Has l lives.0) are lives.1)))
          (in_either (row_things stored.tables) (flat_map kids_of_thing (values stored)) first.value
          (has_if_among (named_things stored) first.value (named first (subst (λ l. Has l first) (sym are) (in_middle front back first)))))

      one_more : (l : Live) → Has front l ⊎ Has (first ∷ []) l → Has (reached stored.tables) l.value
      one_more l (inl a) = so_far l a
      one_more l (inr (inl e)) = subst (λ (q : Live). Has (reached stored.tables) q.value) e first_reached
      one_more l (inr (inr none)) = absurd none

  pub all_named_reached : AreReached (reached stored.tables) stored.live
  all_named_reached live h = from_front stored.live [] refl (λ l m. absurd m) live h

-- ---- what nothing names no row reaches

mutual
  below_is : (x y : Thing) → Has (with_below x) y → (x ≡ y) ⊎ ((p : Thing) × Has (with_below x) p × Has (kids_of_thing p) y)
  below_is (thing tag text kids) y (inl e) = inl e
  below_is (thing tag text kids) y (inr h) = sort (below_kids_is kids y h)
    where
      sort : Has (kids_in kids) y ⊎ ((p : Thing) × Has (all_below kids) p × Has (kids_of_thing p) y) → (thing tag text kids ≡ y) ⊎ ((p : Thing) × Has (with_below (thing tag text kids)) p × Has (kids_of_thing p) y)
      sort (inl m) = inr (thing tag text kids, inl refl, m)
      sort (inr found) = inr (found.0, inr found.1, found.2)

  below_kids_is : (xs : Kids) (y : Thing) → Has (all_below xs) y → Has (kids_in xs) y ⊎ ((p : Thing) × Has (all_below xs) p × Has (kids_of_thing p) y)
  below_kids_is no_kids y h = absurd h
  below_kids_is (kid x xs) y h = ⊎_elim (λ a. first (below_is x y a)) (λ b. others (below_kids_is xs y b)) (in_either (with_below x) (all_below xs) y h)
    where
      first : (x ≡ y) ⊎ ((p : Thing) × Has (with_below x) p × Has (kids_of_thing p) y) → Has (x ∷ kids_in xs) y ⊎ ((p : Thing) × Has (with_below x ++ all_below xs) p × Has (kids_of_thing p) y)
      first (inl e) = inl (inl e)
      first (inr found) = inr (found.0, in_front (with_below x) (all_below xs) found.0 found.1, found.2)

      others : Has (kids_in xs) y ⊎ ((p : Thing) × Has (all_below xs) p × Has (kids_of_thing p) y) → Has (x ∷ kids_in xs) y ⊎ ((p : Thing) × Has (with_below x ++ all_below xs) p × Has (kids_of_thing p) y)
      others (inl m) = inl (inr m)
      others (inr found) = inr (found.0, in_back (with_below x) (all_below xs) found.0 found.1, found.2)

pub unnamed_unreached : (stored : Stored) → IsWellStored stored → (y : Thing) → is_named stored y ≡ false → Has (reached stored.tables) y → ⊥
unnamed_unreached stored well y none h =
    let top = from_flat_map with_below (row_things stored.tables) y h in
    has_not (named_things stored) y none (named top.0 top.1 (below_is top.0 y top.2))
  where
    named : (x : Thing) → Has (row_things stored.tables) x → (x ≡ y) ⊎ ((p : Thing) × Has (with_below x) p × Has (kids_of_thing p) y) → Has (named_things stored) y
    named x row (inl e) = in_front (row_things stored.tables) (flat_map kids_of_thing (values stored)) y (subst (Has (row_things stored.tables)) e row)
    named x row (inr found) =
        let lives = reached_lives stored well found.0 (in_flat_map with_below (row_things stored.tables) x found.0 row found.1) in
        in_back (row_things stored.tables) (flat_map kids_of_thing (values stored)) y (in_flat_map kids_of_thing (values stored) found.0 y lives found.2)

-- ---- what is well stored is sound

pub well_stored_is_sound : (stored : Stored) → IsWellStored stored → IsSound stored
well_stored_is_sound stored well = record {
  falls = well.falls;
  rise = well.rise;
  formed = formed stored.live well.built;
  closed = true_of_all (λ k. is_among (values stored) k ≡ true) (flat_map kids_of_thing (values stored)) (λ k m. among_if_has (values stored) k (lives k m));
}
  where
    formed : (lives : List Live) → AreBuilt lives → AllByRecursion (λ x. has_form x ≡ true) (things_of lives)
    formed [] built = tt
    formed (live ∷ others) built = (built.0.formed, formed others built.1)

    lives : (k : Thing) → Has (flat_map kids_of_thing (values stored)) k → Has (values stored) k
    lives k m =
        let parent = from_flat_map kids_of_thing (values stored) k m in
        let live = from_map (λ (l : Live). l.value) stored.live parent.0 parent.1 in
        kids_live stored.live live.0 well.built live.1 k (subst (λ y. Has (kids_of_thing y) k) (sym live.2) parent.2)
