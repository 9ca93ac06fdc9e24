-- The state when a thing of the contents becomes the file's next one.
use Rattle.std.proofs.Common.{◌≡◌, ◌≢◌, ◌<◌, ◌+◌, ◌==◌, ℕ, suc, Bool, true, false, cond, List, ◌∷◌, ◌++◌, length, Option, Some, None, refl, sym, ◌∙◌, ap, subst, arith, length-append}
use Rattle.std.specs.Prelude.{IsSome, option_map, find}
use Rattle.std.specs.List.{AllByRecursion, flat_map}
use Rattle.std.proofs.lemmas.Bool.Decides.{Decides-eqb, not_from_Decides}
use Rattle.ap_content.specs.Things.{Thing, Kids, thing}
use Rattle.ap_content.specs.Entries.{Entry, Stands, StandEach, node_at}
use Rattle.ap_content.specs.declared.node.Number.{Number}
use Rattle.ap_content.specs.declared.node.Node.{Node}
use Rattle.ap_rows.specs.Forms.{kids_in}
use Rattle.ap_db.specs.declared.things.FileThing.{FileThing}
use Rattle.ap_db.specs.declared.state.State.{State}
use Rattle.ap_db.specs.Same.{same_thing, is_among}
use Rattle.ap_db.specs.Stored.{Live, Stored, thing_at, values, named_things, kids_of_thing, row_things, and_thing}
use Rattle.ap_db.specs.Listed.{AreAll}
use Rattle.ap_db.specs.States.{file_thing, Names, IsFound, IsKnown, IsNewThing, StandsFor, times_in}
use Rattle.ap_db.specs.Naming.{raised, times_of}
use Rattle.ap_db.proofs.Alike.{alike_length, total_append}
use Rattle.ap_db.proofs.Renaming.{times_alike, tables_follow, all_follow}
use Rattle.ap_db.proofs.Filing.{Filed, filed_among, kids_filed, rows_filed, not_among_filed, found_below, all_append, or_second}

-- the node under the number of a thing has kids that stand for the thing's
pub kids_stand : (contents : List (Option Entry)) (m : Number) (x : Thing) (node : Node) → node_at contents m ≡ Some node → Stands contents m x
    → (kids : Kids) × (kids_of_thing x ≡ kids_in kids) × StandEach contents node.kids kids
kids_stand contents m (thing tag text kids) node at stands =
    let same : stands.0 ≡ node = cc (stands.1, at) in
    (kids, refl, subst (λ (n : Node). StandEach contents n.kids kids) same stands.4)

pub equal_or_not : {G : Type 0} (k m : Number) → (k ≡ m → G) → (k ≢ m → G) → G
equal_or_not {G} k m f g = step (k.0 == m.0) refl
  where
    step : (b : Bool) → k.0 == m.0 ≡ b → G
    step true e = f (ap (λ (n : ℕ). record { 0 = n }) ((Decides-eqb k.0 m.0).0 e))
    step false e = g (λ same. not_from_Decides (k.0 == m.0) (Decides-eqb k.0 m.0) e (ap (λ (n : Number). n.0) same))

some_raised : (n : ℕ) (o p : Option FileThing) → p ≡ raised n o → IsSome o → IsSome p
some_raised n None p e h = absurd (cc h)
some_raised n (Some t) p e h = subst IsSome (sym e) refl

module _ (state new : State) (contents : List (Option Entry)) (stored : Stored) (m : Number) (x : Thing) (node : Node) (stands : StandsFor state contents stored) (is : IsNewThing state contents stored m x)
    (at : node_at contents m ≡ Some node) (tables : new.tables ≡ state.tables) (defined : new.defined ≡ state.defined + 1) (names : new.names ≡ state.names + length node.kids)
    (here : file_thing new.things.items m ≡ Some (record { number = state.defined + 1; named = 0 }))
    (there : (k : Number) → k ≢ m → file_thing new.things.items k ≡ raised (times_of node.kids k) (file_thing state.things.items k)) where
  abbrev things : List (Option FileThing)
  things = state.things.items

  kids : (ks : Kids) × (kids_of_thing x ≡ kids_in ks) × StandEach contents node.kids ks
  kids = kids_stand contents m x node at is.stands

  kids_are : AreAll (Names things contents) node.kids (kids_of_thing x)
  kids_are = subst (λ l. AreAll (Names things contents) node.kids l) (sym kids.1)
      (kids_filed things contents stands.tidy stored.live stands.found node.kids kids.0 kids.2 (subst (AllByRecursion (λ k. is_among (values stored) k ≡ true)) kids.1 is.kids))

  not_filed : Filed (Names things contents) x → ⊥
  not_filed filed =
      let one : filed.0 ≡ m = stands.tidy.one_number filed.0 m x filed.1.stands is.stands in
      let gone : file_thing things filed.0 ≡ None = ap (λ (k : Number). file_thing things k) one ∙ is.not_yet in
      absurd (cc (subst IsSome gone filed.1.file))

  differs : (k : Number) → IsSome (file_thing things k) → k ≢ m
  differs k some same =
      let gone : file_thing things k ≡ None = ap (λ (n : Number). file_thing things n) same ∙ is.not_yet in
      absurd (cc (subst IsSome gone some))

  still_named : (k : Number) (y : Thing) → Names things contents k y → Names new.things.items contents k y
  still_named k y h = record { file = some_raised (times_of node.kids k) (file_thing things k) (file_thing new.things.items k) (there k (differs k h.file)) h.file; stands = h.stands }

  still_found : (live : Live) → IsFound things contents live → IsFound new.things.items contents live
  still_found live h = record {
    number = h.number;
    thing = record h.thing { named = h.thing.named + times_of node.kids h.number };
    file = there h.number (differs h.number (subst IsSome (sym h.file) refl)) ∙ ap (λ o. raised (times_of node.kids h.number) o) h.file;
    same = h.same;
    stands = h.stands;
  }

  filed_kids : (ys : List Thing) → AllByRecursion (λ k. is_among (values stored) k ≡ true) ys → AllByRecursion (Filed (Names things contents)) ys
  filed_kids ys h = all_follow (λ k. is_among (values stored) k ≡ true) (Filed (Names things contents)) ys (λ k among. filed_among things contents stored.live stands.found k among) h

  old_kids : List Thing
  old_kids = flat_map kids_of_thing (values stored)

  next : Stored
  next = and_thing stored x

  same_among : (k : Thing) → is_among (values stored) k ≡ true → is_among (x ∷ values stored) k ≡ true
  same_among k h = or_second (same_thing k x) (is_among (values stored) k) h

  -- how often a thing is named then
  names_then : (v : Thing) → times_in (named_things next) v ≡ times_in (row_things stored.tables) v + (times_in (kids_of_thing x) v + times_in old_kids v)
  unfolding old_kids next
  names_then v =
      let all : times_in (named_things next) v ≡ times_in (row_things stored.tables) v + times_in (kids_of_thing x ++ old_kids) v = total_append (λ y. cond (same_thing v y) 1 0) (row_things stored.tables) (kids_of_thing x ++ old_kids) in
      let rest : times_in (kids_of_thing x ++ old_kids) v ≡ times_in (kids_of_thing x) v + times_in old_kids v = total_append (λ y. cond (same_thing v y) 1 0) (kids_of_thing x) old_kids in
      omega (arith, all, rest)

  names_before : (v : Thing) → times_in (named_things stored) v ≡ times_in (row_things stored.tables) v + times_in old_kids v
  unfolding old_kids
  names_before v = total_append (λ y. cond (same_thing v y) 1 0) (row_things stored.tables) old_kids

  unnamed : times_in (named_things next) x ≡ 0
  unfolding old_kids
  unnamed =
      let rows = not_among_filed (Names things contents) x not_filed (row_things stored.tables) (rows_filed (Names things contents) state.tables stored.tables stands.tables) in
      let own = not_among_filed (Names things contents) x not_filed (kids_of_thing x) (filed_kids (kids_of_thing x) is.kids) in
      let others = not_among_filed (Names things contents) x not_filed old_kids (filed_kids old_kids stands.sound.closed) in
      omega (arith, rows, own, others, names_then x)

  known_here : (t : FileThing) → file_thing new.things.items m ≡ Some t → IsKnown next contents m t
  unfolding next
  known_here t e =
      let one : Some (record { number = state.defined + 1; named = 0 }) ≡ Some t = sym here ∙ e in
      let inside : record { number = state.defined + 1; named = 0 } ≡ t = cc one in
      let number : state.defined + 1 ≡ t.number = ap (λ (f : FileThing). f.number) inside in
      let named : 0 ≡ t.named = ap (λ (f : FileThing). f.named) inside in
      let top : suc stored.defined ≡ t.number = omega (arith, number, stands.defined) in
      let tested : suc stored.defined == t.number ≡ true = (Decides-eqb (suc stored.defined) t.number).1 top in
      record {
        value = x;
        live = ap (λ b. option_map (λ (live : Live). live.value) (cond b (Some (record { number = suc stored.defined; value = x })) (find (λ live. live.number == t.number) stored.live))) tested;
        stands = is.stands;
        named = sym named ∙ sym unnamed;
      }

  known_there : (k : Number) (t : FileThing) → k ≢ m → file_thing new.things.items k ≡ Some t → IsKnown next contents k t
  unfolding next
  known_there k t apart e = step (file_thing things k) refl
    where
      step : (o : Option FileThing) → file_thing things k ≡ o → IsKnown next contents k t
      step None was =
          let none : Some t ≡ None = sym e ∙ there k apart ∙ ap (λ o. raised (times_of node.kids k) o) was in
          absurd (cc none)
      step (Some old) was =
          let known = stands.known k old was in
          let now : Some (record old { named = old.named + times_of node.kids k }) ≡ Some t = sym (there k apart ∙ ap (λ o. raised (times_of node.kids k) o) was) ∙ e in
          let inside : record old { named = old.named + times_of node.kids k } ≡ t = cc now in
          let number : old.number ≡ t.number = ap (λ (f : FileThing). f.number) inside in
          let named : old.named + times_of node.kids k ≡ t.named = ap (λ (f : FileThing). f.named) inside in
          let below : old.number < suc stored.defined = found_below (suc stored.defined) old.number stored.live known.value stands.sound.falls known.live in
          let other : suc stored.defined == t.number ≡ false = grind (arith, below, number) in
          let kid_times : times_of node.kids k ≡ times_in (kids_of_thing x) known.value = times_alike contents stands.tidy things node.kids (kids_of_thing x) kids_are k known.value known.stands in
          let before : times_in (named_things stored) known.value ≡ times_in (row_things stored.tables) known.value + times_in old_kids known.value = names_before known.value in
          let after : times_in (named_things next) known.value ≡ times_in (row_things stored.tables) known.value + (times_in (kids_of_thing x) known.value + times_in old_kids known.value) = names_then known.value in
          let was_named : old.named ≡ times_in (named_things stored) known.value = known.named in
          let is_named : t.named ≡ times_in (named_things next) known.value = omega (arith, named, kid_times, before, after, was_named) in
          record {
            value = known.value;
            live = ap (λ b. option_map (λ (live : Live). live.value) (cond b (Some (record { number = suc stored.defined; value = x })) (find (λ live. live.number == t.number) stored.live))) other
                ∙ ap (λ (n : ℕ). thing_at stored (record { 0 = n })) (sym number) ∙ known.live;
            stands = known.stands;
            named = is_named;
          }

  pub is_defined : StandsFor new contents (and_thing stored x)
  unfolding next old_kids
  is_defined = record {
    sound = record {
      falls = (omega arith, stands.sound.falls);
      rise = stands.sound.rise;
      formed = (is.formed, stands.sound.formed);
      closed = all_append (λ k. is_among (x ∷ values stored) k ≡ true) (kids_of_thing x) old_kids
          (all_follow (λ k. is_among (values stored) k ≡ true) (λ k. is_among (x ∷ values stored) k ≡ true) (kids_of_thing x) same_among is.kids)
          (all_follow (λ k. is_among (values stored) k ≡ true) (λ k. is_among (x ∷ values stored) k ≡ true) old_kids same_among stands.sound.closed);
    };
    tidy = stands.tidy;
    defined = omega (arith, defined, stands.defined);
    names =
        let kid_count : length node.kids ≡ length (kids_of_thing x) = alike_length (Names things contents) node.kids (kids_of_thing x) kids_are in
        let before : length (named_things stored) ≡ length (row_things stored.tables) + length old_kids = length-append (row_things stored.tables) old_kids in
        let after : length (named_things (and_thing stored x)) ≡ length (row_things stored.tables) + length (kids_of_thing x ++ old_kids) = length-append (row_things stored.tables) (kids_of_thing x ++ old_kids) in
        let more : length (kids_of_thing x ++ old_kids) ≡ length (kids_of_thing x) + length old_kids = length-append (kids_of_thing x) old_kids in
        omega (arith, names, stands.names, kid_count, before, after, more);
    tables = tables_follow (Names things contents) (Names new.things.items contents) still_named new.tables stored.tables
        (subst (λ t. Rattle.ap_db.specs.States.TablesAre (Names things contents) t stored.tables) (sym tables) stands.tables);
    found = (
      record { number = m; thing = record { number = state.defined + 1; named = 0 }; file = here; same = omega (arith, stands.defined); stands = is.stands },
      all_follow (IsFound things contents) (IsFound new.things.items contents) stored.live still_found stands.found,
    );
    known = λ k t e. equal_or_not k m
        (λ same. subst (λ (n : Number). IsKnown (and_thing stored x) contents n t) (sym same) (known_here t (ap (λ (n : Number). file_thing new.things.items n) (sym same) ∙ e)))
        (λ apart. known_there k t apart e);
  }
