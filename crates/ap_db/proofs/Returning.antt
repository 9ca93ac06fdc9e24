-- The state when a thing that was taken out of the file comes back.
use Rattle.std.proofs.Common.{◌≡◌, ◌≢◌, ◌+◌, ◌==◌, ◌||◌, ℕ, Bool, true, false, not, cond, List, [], ◌∷◌, ◌++◌, length, Option, Some, None, refl, sym, ◌∙◌, ap, subst, arith}
use Rattle.std.specs.Prelude.{IsSome, option_map, find}
use Rattle.std.specs.List.{AllByRecursion, flat_map}
use Rattle.ap_content.specs.Things.{Thing, Kids}
use Rattle.ap_content.specs.Entries.{Entry, Stands, StandEach, node_at}
use Rattle.ap_content.specs.declared.node.Number.{Number}
use Rattle.ap_content.specs.declared.node.Node.{Node}
use Rattle.ap_rows.specs.Forms.{kids_in}
use Rattle.ap_db.specs.declared.things.FileThing.{FileThing}
use Rattle.ap_db.specs.declared.state.State.{State}
use Rattle.ap_db.specs.declared.drops.Dropped.{Dropped}
use Rattle.ap_db.specs.Same.{same_thing, is_among}
use Rattle.ap_db.specs.Stored.{Live, Stored, thing_at, values, named_things, kids_of_thing, row_things, and_no_thing}
use Rattle.ap_db.specs.Listed.{AreAll, total}
use Rattle.ap_db.specs.Members.{from_filter}
use Rattle.ap_db.specs.Options.{no_is}
use Rattle.ap_db.specs.LiveLaws.{live_of, one_value, equal_numbers}
use Rattle.ap_db.specs.NamedLaws.{well_stored_is_sound}
use Rattle.ap_db.specs.TakenOut.{IsSpare, HasTakenOut}
use Rattle.ap_db.specs.States.{file_thing, Names, IsFound, IsKnown, IsSound, StandsFor, TablesAre, times_in}
use Rattle.ap_db.specs.Naming.{raised, times_of}
use Rattle.ap_db.proofs.Alike.{alike_length, total_one}
use Rattle.ap_db.proofs.Renaming.{times_alike, tables_follow, all_follow}
use Rattle.ap_db.proofs.Filing.{kids_filed}
use Rattle.ap_db.proofs.Defining.{kids_stand, equal_or_not}
use Rattle.ap_db.proofs.Dropping.{IsCut, cut_of, own_kids_left, left_names, find_without, split_all}

all_with : {X : Type 0} (P : X → Type 0) (front : List X) (x : X) (back : List X) → AllByRecursion P (front ++ back) → P x → AllByRecursion P (front ++ x ∷ back)
all_with P [] x back h p = (p, h)
all_with P (f ∷ front) x back h p = (h.0, all_with P front x back h.1 p)

some_raised : (n : ℕ) (o p : Option FileThing) → p ≡ raised n o → IsSome o → IsSome p
some_raised n None p e h = absurd (cc h)
some_raised n (Some t) p e h = subst IsSome (sym e) refl

-- what isn't among things isn't one of them, and is there no time
pub apart_from_all : (x : Thing) (ys : List Thing) → is_among ys x ≡ false → AllByRecursion (λ y. same_thing x y ≡ false) ys
apart_from_all x [] e = tt
apart_from_all x (y ∷ ys) e = step (same_thing x y) refl (λ rest. apart_from_all x ys rest) e
  where
    step : (b : Bool) → same_thing x y ≡ b → (is_among ys x ≡ false → AllByRecursion (λ y. same_thing x y ≡ false) ys) → (b || is_among ys x) ≡ false → AllByRecursion (λ y. same_thing x y ≡ false) (y ∷ ys)
    step true is rest h = absurd (cc h)
    step false is rest h = (is, rest h)

pub no_times : (x : Thing) (ys : List Thing) → AllByRecursion (λ y. same_thing x y ≡ false) ys → times_in ys x ≡ 0
no_times x [] h = refl
no_times x (y ∷ ys) h =
    let none : cond {A = ℕ} (same_thing x y) 1 0 ≡ 0 = ap (λ b. cond b 1 0) h.0 in
    omega (arith, none, no_times x ys h.1)

module _ (state : State) (contents : List (Option Entry)) (stored : Stored) (d : Dropped) (has : HasTakenOut state contents stored (d ∷ [])) (node : Node) (at : node_at contents d.m ≡ Some node) where
  abbrev things : List (Option FileThing)
  things = state.things.items

  abbrev n : ℕ
  n = d.thing.number

  abbrev next : Stored
  next = and_no_thing stored n

  stands : StandsFor state contents next
  stands = has.stands

  spare : IsSpare contents stored d
  spare = has.spare.0

  abbrev x : Thing
  x = spare.value

  sound : IsSound stored
  sound = well_stored_is_sound stored has.well

  abbrev cut : IsCut n stored.live x
  cut = cut_of stored n x sound spare.live

  unnamed : AllByRecursion (λ y. same_thing x y ≡ false) (named_things stored)
  unnamed = apart_from_all x (named_things stored) spare.unnamed

  unnamed_kids : AllByRecursion (λ y. same_thing x y ≡ false) (flat_map kids_of_thing (values stored))
  unnamed_kids = (split_all (λ n y. Unit {0}) (λ y. same_thing x y ≡ false) (row_things stored.tables) (flat_map kids_of_thing (values stored)) unnamed).1

  own_unnamed : AllByRecursion (λ y. same_thing x y ≡ false) (kids_of_thing x)
  own_unnamed = no_more (left_names stored n x sound spare.live)
    where
      no_more : ((f : Thing → ℕ) → total f (named_things stored) ≡ total f (named_things next) + total f (kids_of_thing x)) → AllByRecursion (λ y. same_thing x y ≡ false) (kids_of_thing x)
      no_more split =
          let all : times_in (named_things stored) x ≡ times_in (named_things next) x + times_in (kids_of_thing x) x = split (λ y. cond (same_thing x y) 1 0) in
          let none : times_in (named_things stored) x ≡ 0 = no_times x (named_things stored) unnamed in
          Rattle.ap_db.proofs.Dropping.not_one_of x (kids_of_thing x) (omega (arith, all, none))

  kids : (ks : Kids) × (kids_of_thing x ≡ kids_in ks) × StandEach contents node.kids ks
  kids = kids_stand contents d.m x node at spare.stands

  kids_are : AreAll (Names things contents) node.kids (kids_of_thing x)
  kids_are = subst (λ l. AreAll (Names things contents) node.kids l) (sym kids.1)
      (kids_filed things contents stands.tidy next.live stands.found node.kids kids.0 kids.2
      (subst (AllByRecursion (λ k. is_among (values next) k ≡ true)) kids.1 (own_kids_left stored n x sound spare.live own_unnamed)))

  -- the thing is in the file no more
  pub gone : file_thing things d.m ≡ None
  gone = step (file_thing things d.m) refl
    where
      step : (o : Option FileThing) → file_thing things d.m ≡ o → file_thing things d.m ≡ None
      step None is = is
      step (Some f) is =
          let known = stands.known d.m f is in
          let same : known.value ≡ x = stands.tidy.one_thing d.m known.value x known.stands spare.stands in
          let here = live_of stored (record { 0 = n }) x spare.live in
          let other = live_of next (record { 0 = f.number }) known.value known.live in
          let stays = from_filter (λ (live : Live). not (live.number == n)) stored.live other.0 other.1 in
          let one : other.0 ≡ here.0 = one_value stored.live other.0 here.0 has.well.built stays.0 here.1 (other.3 ∙ same ∙ sym here.3) in
          let number : other.0.number ≡ n = ap (λ (l : Live). l.number) one ∙ here.2 in
          absurd (cc (no_is (other.0.number == n) stays.1, equal_numbers other.0.number n number))

  -- so many names there are then
  pub names_then : state.names + length node.kids ≡ length (named_things stored)
  names_then =
      let kid_count : length node.kids ≡ length (kids_of_thing x) = alike_length (Names things contents) node.kids (kids_of_thing x) kids_are in
      let all : total (λ (y : Thing). 1) (named_things stored) ≡ total (λ (y : Thing). 1) (named_things next) + total (λ (y : Thing). 1) (kids_of_thing x) = left_names stored n x sound spare.live (λ y. 1) in
      let a : total (λ (y : Thing). 1) (named_things stored) ≡ length (named_things stored) = total_one (named_things stored) in
      let b : total (λ (y : Thing). 1) (named_things next) ≡ length (named_things next) = total_one (named_things next) in
      let c : total (λ (y : Thing). 1) (kids_of_thing x) ≡ length (kids_of_thing x) = total_one (kids_of_thing x) in
      omega (arith, stands.names, kid_count, all, a, b, c)

  differs : (k : Number) → IsSome (file_thing things k) → k ≢ d.m
  differs k some same =
      let none : file_thing things k ≡ None = ap (λ (j : Number). file_thing things j) same ∙ gone in
      absurd (cc (subst IsSome none some))

  module _ (new : State) (tables : new.tables ≡ state.tables) (defined : new.defined ≡ state.defined) (names : new.names ≡ state.names + length node.kids)
      (here : file_thing new.things.items d.m ≡ Some d.thing) (there : (k : Number) → k ≢ d.m → file_thing new.things.items k ≡ raised (times_of node.kids k) (file_thing things k)) where
    still_named : (k : Number) (y : Thing) → Names things contents k y → Names new.things.items contents k y
    still_named k y h = record { file = some_raised (times_of node.kids k) (file_thing things k) (file_thing new.things.items k) (there k (differs k h.file)) h.file; stands = h.stands }

    still_found : (live : Live) → IsFound things contents live → IsFound new.things.items contents live
    still_found live h = record {
      number = h.number;
      thing = record h.thing { named = h.thing.named + times_of node.kids h.number };
      file = there h.number (differs h.number (subst IsSome (sym h.file) refl)) ∙ ap (λ o. raised (times_of node.kids h.number) o) h.file;
      same = h.same;
      stands = h.stands;
    }

    found_here : IsFound new.things.items contents cut.here
    found_here = record { number = d.m; thing = d.thing; file = here; same = sym cut.number; stands = subst (λ (y : Thing). Stands contents d.m y) (sym cut.value) spare.stands }

    known_here : (t : FileThing) → file_thing new.things.items d.m ≡ Some t → IsKnown stored contents d.m t
    known_here t e =
        let one : Some d.thing ≡ Some t = sym here ∙ e in
        let inside : d.thing ≡ t = cc one in
        record {
          value = x;
          live = ap (λ (f : FileThing). thing_at stored (record { 0 = f.number })) (sym inside) ∙ spare.live;
          stands = spare.stands;
          named = ap (λ (f : FileThing). f.named) (sym inside) ∙ spare.none ∙ sym (no_times x (named_things stored) unnamed);
        }

    -- a number of what is left isn't the thing's
    left_number : (k : ℕ) (v : Thing) → thing_at next (record { 0 = k }) ≡ Some v → k ≢ n
    left_number k v e same =
        let live = live_of next (record { 0 = k }) v e in
        let stays = from_filter (λ (live : Live). not (live.number == n)) stored.live live.0 live.1 in
        absurd (cc (no_is (live.0.number == n) stays.1, equal_numbers live.0.number n (live.2 ∙ same)))

    still_live : (k : ℕ) (v : Thing) → thing_at next (record { 0 = k }) ≡ Some v → thing_at stored (record { 0 = k }) ≡ Some v
    still_live k v e =
        let other = left_number k v e in
        ap (λ l. option_map (λ (live : Live). live.value) (find (λ live. live.number == k) l)) cut.are
        ∙ ap (λ o. option_map (λ (live : Live). live.value) o) (sym (find_without k cut.front cut.here cut.back (λ same. other (sym same ∙ cut.number))))
        ∙ ap (λ l. option_map (λ (live : Live). live.value) (find (λ live. live.number == k) l)) (sym cut.left) ∙ e

    known_there : (k : Number) (t : FileThing) → k ≢ d.m → file_thing new.things.items k ≡ Some t → IsKnown stored contents k t
    known_there k t apart e = step (file_thing things k) refl
      where
        step : (o : Option FileThing) → file_thing things k ≡ o → IsKnown stored contents k t
        step None was =
            let none : Some t ≡ None = sym e ∙ there k apart ∙ ap (λ o. raised (times_of node.kids k) o) was in
            absurd (cc none)
        step (Some old) was =
            let known = stands.known k old was in
            let now : Some (record old { named = old.named + times_of node.kids k }) ≡ Some t = sym (there k apart ∙ ap (λ o. raised (times_of node.kids k) o) was) ∙ e in
            let inside : record old { named = old.named + times_of node.kids k } ≡ t = cc now in
            let number : old.number ≡ t.number = ap (λ (f : FileThing). f.number) inside in
            let named : old.named + times_of node.kids k ≡ t.named = ap (λ (f : FileThing). f.named) inside in
            let kid_times : times_of node.kids k ≡ times_in (kids_of_thing x) known.value = times_alike contents stands.tidy things node.kids (kids_of_thing x) kids_are k known.value known.stands in
            let counts : times_in (named_things stored) known.value ≡ times_in (named_things next) known.value + times_in (kids_of_thing x) known.value = left_names stored n x sound spare.live (λ y. cond (same_thing known.value y) 1 0) in
            let was_named : old.named ≡ times_in (named_things next) known.value = known.named in
            let is_named : t.named ≡ times_in (named_things stored) known.value = omega (arith, named, kid_times, counts, was_named) in
            record {
              value = known.value;
              live = ap (λ (j : ℕ). thing_at stored (record { 0 = j })) (sym number) ∙ still_live old.number known.value known.live;
              stands = known.stands;
              named = is_named;
            }

    pub is_undropped : StandsFor new contents stored
    is_undropped = record {
      sound = sound;
      tidy = stands.tidy;
      defined = defined ∙ stands.defined;
      names = names ∙ names_then;
      tables = tables_follow (Names things contents) (Names new.things.items contents) still_named new.tables stored.tables
          (subst (λ t. TablesAre (Names things contents) t stored.tables) (sym tables) stands.tables);
      found = subst (AllByRecursion (IsFound new.things.items contents)) (sym cut.are)
          (all_with (IsFound new.things.items contents) cut.front cut.here cut.back
          (all_follow (IsFound things contents) (IsFound new.things.items contents) (cut.front ++ cut.back) still_found (subst (AllByRecursion (IsFound things contents)) cut.left stands.found))
          found_here);
      known = λ k t e. equal_or_not k d.m
          (λ same. subst (λ (j : Number). IsKnown stored contents j t) (sym same) (known_here t (ap (λ (j : Number). file_thing new.things.items j) (sym same) ∙ e)))
          (λ apart. known_there k t apart e);
    }
