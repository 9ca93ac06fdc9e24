-- Things that are taken out one after another, and come back the last first.
use Rattle.std.proofs.Common.{◌≡◌, ◌<◌, ◌≤◌, ◌+◌, ◌-◌, ℕ, get_or, take, Option, ⊎_elim, List, [], ◌∷◌, ◌++◌, length, Some, None, cond, refl, sym, ◌∙◌, ap, subst, arith, inl, inr}
use Rattle.std.proofs.Math.Seq.{take-length}
use Rattle.std.proofs.lemmas.List.{take_more, length-take-le}
use Rattle.ap_content.specs.Things.{Thing}
use Rattle.ap_content.specs.Entries.{Entry}
use Rattle.ap_db.specs.declared.state.State.{State}
use Rattle.ap_db.specs.declared.drops.Dropped.{Dropped}
use Rattle.ap_db.specs.Stored.{Stored, named_things, kids_of_thing, and_no_thing}
use Rattle.ap_db.specs.Listed.{total}
use Rattle.ap_db.specs.Members.{Has, in_front, in_back, in_either}
use Rattle.ap_db.specs.WellStored.{IsWellStored}
use Rattle.ap_db.specs.Keeping.{keeps_without}
use Rattle.ap_db.specs.NamedLaws.{well_stored_is_sound}
use Rattle.ap_db.specs.TakenOut.{without_things, IsSpare, AreSpare, HasTakenOut}
use Rattle.ap_db.specs.States.{StandsFor}
use Rattle.ap_db.proofs.Alike.{total_one}
use Rattle.ap_db.proofs.Dropping.{left_names}

-- ---- the last of some

pub split_end : {X : Type 0} (d : X) (xs : List X) → 1 ≤ length xs → xs ≡ take (length xs - 1) xs ++ get_or xs (length xs - 1) d ∷ []
split_end d xs some =
    let at : length xs - 1 + 1 ≡ length xs = omega (arith, some) in
    sym (take-length xs) ∙ ap (λ (k : ℕ). take k xs) (sym at) ∙ take_more xs (length xs - 1) d (omega (arith, some))

pub shorter : {X : Type 0} (xs : List X) → 1 ≤ length xs → length (take (length xs - 1) xs) < length xs
shorter xs some = let long = length-take-le (length xs - 1) xs (omega arith) in omega (arith, long, some)

-- ---- one of them

module _ (contents : List (Option Entry)) (stored : Stored) (d : Dropped) (well : IsWellStored stored) (spare : IsSpare contents stored d) where
  pub well_without_one : IsWellStored (and_no_thing stored d.thing.number)
  well_without_one = keeps_without stored (and_no_thing stored d.thing.number) (record { 0 = d.thing.number }) spare.value spare.live well
      (ap (λ b. cond b None (Some (and_no_thing stored d.thing.number))) spare.unnamed)

  pub fewer_names : length (named_things (and_no_thing stored d.thing.number)) ≤ length (named_things stored)
  fewer_names =
      let all : total (λ (y : Thing). 1) (named_things stored) ≡ total (λ (y : Thing). 1) (named_things (and_no_thing stored d.thing.number)) + total (λ (y : Thing). 1) (kids_of_thing spare.value) =
      left_names stored d.thing.number spare.value (well_stored_is_sound stored well) spare.live (λ y. 1) in
      omega (arith, all, total_one (named_things stored), total_one (named_things (and_no_thing stored d.thing.number)))

-- ---- all of them

module _ (contents : List (Option Entry)) where
  pub well_without : (ds : List Dropped) (stored : Stored) → IsWellStored stored → AreSpare contents stored ds → IsWellStored (without_things stored ds)
  well_without [] stored well spare = well
  well_without (d ∷ ds) stored well spare = well_without ds (and_no_thing stored d.thing.number) (well_without_one contents stored d well spare.0) spare.1

  pub names_without : (ds : List Dropped) (stored : Stored) → IsWellStored stored → AreSpare contents stored ds → length (named_things (without_things stored ds)) ≤ length (named_things stored)
  names_without [] stored well spare = omega arith
  names_without (d ∷ ds) stored well spare =
      let one = fewer_names contents stored d well spare.0 in
      let others = names_without ds (and_no_thing stored d.thing.number) (well_without_one contents stored d well spare.0) spare.1 in
      omega (arith, one, others)

  pub spare_front : (ds es : List Dropped) (stored : Stored) → AreSpare contents stored (ds ++ es) → AreSpare contents stored ds
  spare_front [] es stored spare = tt
  spare_front (d ∷ ds) es stored spare = (spare.0, spare_front ds es (and_no_thing stored d.thing.number) spare.1)

  pub spare_back : (ds es : List Dropped) (stored : Stored) → AreSpare contents stored (ds ++ es) → AreSpare contents (without_things stored ds) es
  spare_back [] es stored spare = spare
  spare_back (d ∷ ds) es stored spare = spare_back ds es (and_no_thing stored d.thing.number) spare.1

  pub spare_both : (ds es : List Dropped) (stored : Stored) → AreSpare contents stored ds → AreSpare contents (without_things stored ds) es → AreSpare contents stored (ds ++ es)
  spare_both [] es stored front back = back
  spare_both (d ∷ ds) es stored front back = (front.0, spare_both ds es (and_no_thing stored d.thing.number) front.1 back)

  pub without_both : (ds es : List Dropped) (stored : Stored) → without_things stored (ds ++ es) ≡ without_things (without_things stored ds) es
  without_both [] es stored = refl
  without_both (d ∷ ds) es stored = without_both ds es (and_no_thing stored d.thing.number)

  -- the last one, where the others are gone
  pub last_out : (state : State) (stored : Stored) (ds : List Dropped) (d : Dropped) → HasTakenOut state contents stored (ds ++ d ∷ []) → HasTakenOut state contents (without_things stored ds) (d ∷ [])
  last_out state stored ds d has =
      let front = spare_front ds (d ∷ []) stored has.spare in
      record {
        well = well_without ds stored has.well front;
        room = let fewer = names_without ds stored has.well front in omega (arith, fewer, has.room);
        spare = spare_back ds (d ∷ []) stored has.spare;
        fit = λ e h. has.fit e (in_back ds (d ∷ []) e h);
        stands = subst (StandsFor state contents) (without_both ds (d ∷ []) stored) has.stands;
      }

  -- the others, where the last is back
  pub others_out : (state new : State) (stored : Stored) (ds : List Dropped) (d : Dropped) → HasTakenOut state contents stored (ds ++ d ∷ []) → length new.things.items ≡ length state.things.items
      → StandsFor new contents (without_things stored ds) → HasTakenOut new contents stored ds
  others_out state new stored ds d has long stands = record {
    well = has.well;
    room = has.room;
    spare = spare_front ds (d ∷ []) stored has.spare;
    fit = λ e h. let fits = has.fit e (in_front ds (d ∷ []) e h) in omega (arith, fits, long);
    stands = stands;
  }

  -- none is left
  pub nothing_out : (state : State) (stored : Stored) (ds : List Dropped) → length ds < 1 → HasTakenOut state contents stored ds → StandsFor state contents stored
  nothing_out state stored [] none has = has.stands
  nothing_out state stored (d ∷ ds) none has = absurd (omega (arith, none))

  -- one more
  pub one_more_out : (state new : State) (stored : Stored) (ds : List Dropped) (d : Dropped) → HasTakenOut state contents stored ds → IsSpare contents (without_things stored ds) d → d.m.0 < length state.things.items
      → length new.things.items ≡ length state.things.items → StandsFor new contents (and_no_thing (without_things stored ds) d.thing.number) → HasTakenOut new contents stored (ds ++ d ∷ [])
  one_more_out state new stored ds d has spare fits long stands = record {
    well = has.well;
    room = has.room;
    spare = spare_both ds (d ∷ []) stored has.spare (spare, tt);
    fit = λ e h. ⊎_elim
        (λ front. let before = has.fit e front in omega (arith, before, long))
        (λ back. last e back)
        (in_either ds (d ∷ []) e h);
    stands = subst (StandsFor new contents) (sym (without_both ds (d ∷ []) stored)) stands;
  }
    where
      last : (e : Dropped) → Has (d ∷ []) e → e.m.0 < length new.things.items
      last e (inl same) = subst (λ (f : Dropped). f.m.0 < length new.things.items) same (omega (arith, fits, long))
      last e (inr none) = absurd none
