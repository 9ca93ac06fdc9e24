-- Things that are defined one after another, as a walk over them goes.
use Rattle.std.proofs.Common.{◌≡◌, ℕ, true, false, cond, List, [], ◌∷◌, ◌++◌, Option, Some, None, refl, sym, ◌∙◌, ap, subst, inl, inr, ⊎_elim, fold, append_assoc, option_map, Result, Ok, Err}
use Rattle.std.specs.Prelude.{OnOk, OnErr, is_some}
use Rattle.std.specs.List.{flat_map}
use Rattle.ap_content.specs.Things.{Thing, Kids, thing, no_kids, kid}
use Rattle.ap_content.specs.Entries.{Entry, node_at, Stands, StandEach}
use Rattle.ap_content.specs.declared.node.Number.{Number}
use Rattle.ap_content.specs.declared.node.Node.{Node}
use Rattle.ap_rows.specs.Forms.{kids_in, has_form}
use Rattle.ap_db.specs.declared.things.FileThing.{FileThing}
use Rattle.ap_db.specs.declared.state.State.{State}
use Rattle.ap_db.specs.Same.{is_among}
use Rattle.ap_db.specs.Stored.{Stored, values, kids_of_thing, and_thing}
use Rattle.ap_db.specs.Commit.{with_new, with_new_kids, with_below, all_below}
use Rattle.ap_db.specs.Listed.{AreAll}
use Rattle.ap_db.specs.States.{StandsFor, IsNewThing, SameNumbers, file_thing}
use Rattle.ap_db.specs.Members.{Has, AreIn, in_front, in_back, in_either, true_of_all}
use Rattle.ap_db.specs.SameThings.{among_if_has, not_among, has_not}
use Rattle.ap_db.specs.LiveLaws.{value_of}
use Rattle.ap_db.specs.NewThings.{AreAdded, no_more, not_below_itself, added_append, adds_more, still_good, new_kids_add}
use Rattle.ap_db.specs.Defined.{CanBeAdded, AreDefined, SomeDefined}
use Rattle.ap_db.proofs.Defining.{kids_stand}
use Rattle.ap_db.proofs.GoodBelow.{unknown}
use Rattle.ap_db.proofs.FileNumbers.{thing_known, fold_append}

-- ---- what lives then

only_one : (P : Thing → Type 0) (x y : Thing) → P x → Has (x ∷ []) y → P y
only_one P x y p (inl e) = subst P e p
only_one P x y p (inr none) = absurd none

pub live_then : (stored : Stored) (known xs : List Thing) → AreIn known (values stored) → AreIn (known ++ xs) (values (fold and_thing stored xs))
live_then stored known [] there y m = ⊎_elim (λ a. there y a) (λ b. absurd b) (in_either known [] y m)
live_then stored known (x ∷ xs) there y m =
    live_then (and_thing stored x) (known ++ x ∷ []) xs
    (λ z n. ⊎_elim (λ a. inr (there z a)) (λ b. only_one (Has (values (and_thing stored x))) x z (inl refl) b) (in_either known (x ∷ []) z n))
    y (subst (λ l. Has l y) (sym (append_assoc known (x ∷ []) xs)) m)

pub known_then : (stored : Stored) (known xs : List Thing) → AreIn (values stored) known → AreIn (values (fold and_thing stored xs)) (known ++ xs)
known_then stored known [] back y m = in_front known [] y (back y m)
known_then stored known (x ∷ xs) back y m = subst (λ l. Has l y) (append_assoc known (x ∷ []) xs) (known_then (and_thing stored x) (known ++ x ∷ []) xs (λ z n. either z n) y m)
  where
    either : (z : Thing) → Has (values (and_thing stored x)) z → Has (known ++ x ∷ []) z
    either z (inl e) = in_back known (x ∷ []) z (inl e)
    either z (inr n) = in_front known (x ∷ []) z (back z n)

pub all_join : {X Y : Type 0} (Is : X → Y → Type 0) (xs xs' : List X) (ys ys' : List Y) → AreAll Is xs ys → AreAll Is xs' ys' → AreAll Is (xs ++ xs') (ys ++ ys')
all_join Is [] xs' [] ys' first next = next
all_join Is [] xs' (y ∷ ys) ys' first next = absurd first
all_join Is (x ∷ xs) xs' [] ys' first next = absurd first
all_join Is (x ∷ xs) xs' (y ∷ ys) ys' first next = (first.0, all_join Is xs xs' ys ys' first.1 next)

-- ---- kids as a list

pub kids_listed : (contents : List (Option Entry)) (ns : List Number) (kids : Kids) → StandEach contents ns kids → AreAll (Stands contents) ns (kids_in kids)
kids_listed contents [] no_kids each = tt
kids_listed contents [] (kid x xs) each = absurd each
kids_listed contents (n ∷ ns) no_kids each = absurd each
kids_listed contents (n ∷ ns) (kid x xs) each = (each.0, kids_listed contents ns xs each.1)

pub below_listed : (kids : Kids) → flat_map with_below (kids_in kids) ≡ all_below kids
below_listed no_kids = refl
below_listed (kid x xs) = ap (λ l. with_below x ++ l) (below_listed xs)

pub new_listed : (kids : Kids) (known : List Thing) → fold with_new known (kids_in kids) ≡ with_new_kids known kids
new_listed no_kids known = refl
new_listed (kid x xs) known = new_listed xs (with_new known x)

module _ (contents : List (Option Entry)) where
  -- ---- steps

  pub none_defined : (stored : Stored) (known parts : List Thing) (before : List Number) (state : State) → StandsFor state contents stored → AreDefined contents stored known parts known before state before
  none_defined stored known parts before state stands = record {
    adds = record { added = []; are = no_more known; built = tt; parts_of = λ x m. absurd m };
    stands = stands;
    numbers = [];
    are = no_more before;
    each = tt;
  }

  pub then_defined : (stored : Stored) (known mid grown parts others : List Thing) (before now after : List Number) (state new : State) → (first : AreDefined contents stored known parts mid before state now)
      → AreDefined contents (fold and_thing stored first.adds.added) mid others grown now new after → AreDefined contents stored known (parts ++ others) grown before new after
  then_defined stored known mid grown parts others before now after state new first next =
      let xs = first.adds.added in
      let ys = next.adds.added in
      record {
        adds = record {
          added = xs ++ ys;
          are = next.adds.are ∙ ap (λ l. l ++ ys) first.adds.are ∙ append_assoc known xs ys;
          built = added_append known xs ys first.adds.built (subst (λ l. AreAdded l ys) first.adds.are next.adds.built);
          parts_of = λ x m. ⊎_elim (λ a. in_front parts others x (first.adds.parts_of x a)) (λ b. in_back parts others x (next.adds.parts_of x b)) (in_either xs ys x m);
        };
        stands = subst (StandsFor new contents) (sym (fold_append stored xs ys)) next.stands;
        numbers = first.numbers ++ next.numbers;
        are = next.are ∙ ap (λ (l : List Number). l ++ next.numbers) first.are ∙ append_assoc before first.numbers next.numbers;
        each = all_join (Stands contents) first.numbers next.numbers xs ys first.each next.each;
      }

  -- other good parts can be added then
  pub can_then : (stored : Stored) (known mid all parts others : List Thing) (before now : List Number) (old state : State) → CanBeAdded contents old stored known all → AreIn others all
      → (first : AreDefined contents stored known parts mid before state now) → CanBeAdded contents state (fold and_thing stored first.adds.added) mid others
  can_then stored known mid all parts others before now old state can some first = record {
    stands = first.stands;
    known_live = λ y m. live_then stored known first.adds.added can.known_live y (subst (λ l. Has l y) first.adds.are m);
    live_known = λ y m. subst (λ l. Has l y) (sym first.adds.are) (known_then stored known first.adds.added can.live_known y m);
    good = λ y m. still_good known mid others (adds_more known parts mid first.adds) (λ z n. can.good z (some z n)) y m;
  }

  -- ---- one thing

  -- a thing that the file has is defined with nothing more
  pub known_defined : (stored : Stored) (known : List Thing) (before : List Number) (state : State) (m : Number) (x : Thing) (t : FileThing) → CanBeAdded contents state stored known (with_below x)
      → Stands contents m x → file_thing state.things.items m ≡ Some t → AreDefined contents stored known (with_below x) (with_new known x) before state before
  known_defined stored known before state m (thing tag text kids) t can s e =
      let x : Thing = thing tag text kids in
      let lives = value_of stored (record { 0 = t.number }) x (thing_known state contents stored can.stands m x t s e) in
      let among : is_among known x ≡ true = among_if_has known x (can.live_known x lives) in
      subst (λ l. AreDefined contents stored known (with_below x) l before state before) (sym (ap (λ b. cond b known (with_new_kids known kids ++ x ∷ [])) among)) (none_defined stored known (with_below x) before state can.stands)

  pub kids_can : (stored : Stored) (known : List Thing) (state : State) (x : Thing) → CanBeAdded contents state stored known (with_below x) → CanBeAdded contents state stored known (flat_map with_below (kids_of_thing x))
  kids_can stored known state (thing tag text kids) can = record {
    stands = can.stands;
    known_live = can.known_live;
    live_known = can.live_known;
    good = λ y m. can.good y (inr (subst (λ l. Has l y) (below_listed kids) m));
  }

  -- a thing that the file lacks, once its kids are defined
  module _ (stored : Stored) (known : List Thing) (before now : List Number) (old state : State) (m : Number) (tag : ℕ) (text : List ℕ) (kids : Kids)
      (can : CanBeAdded contents old stored known (with_below (thing tag text kids))) (s : Stands contents m (thing tag text kids)) (none : file_thing old.things.items m ≡ None)
      (first : AreDefined contents stored known (flat_map with_below (kids_in kids)) (fold with_new known (kids_in kids)) before state now) where
    abbrev x : Thing
    x = thing tag text kids

    abbrev xs : List Thing
    xs = first.adds.added

    abbrev mid : Stored
    mid = fold and_thing stored xs

    not_known : Has known x → ⊥
    not_known h = has_not (values stored) x (unknown old contents stored can.stands m x s none) (can.known_live x h)

    below : AreIn xs (all_below kids)
    below y h = subst (λ l. Has l y) (below_listed kids) (first.adds.parts_of y h)

    not_live : Has (values mid) x → ⊥
    not_live h = ⊎_elim not_known (λ b. not_below_itself tag text kids (below x b)) (in_either known xs x (known_then stored known xs can.live_known x h))

    not_yet : file_thing state.things.items m ≡ None
    not_yet = step (file_thing state.things.items m) refl
      where
        step : (o : Option FileThing) → file_thing state.things.items m ≡ o → file_thing state.things.items m ≡ None
        step None e = e
        step (Some t) e = absurd (not_live (value_of mid (record { 0 = t.number }) x (thing_known state contents mid first.stands m x t s e)))

    formed : has_form x ≡ true
    formed = ⊎_elim (λ a. absurd (not_known a)) (λ b. b) (can.good x (inl refl))

    kids_there : AreIn (kids_in kids) (known ++ xs)
    kids_there k h = subst (λ l. Has l k) (sym (new_listed kids known) ∙ first.adds.are) ((new_kids_add kids known (λ y n. can.good y (inr n))).1 k h)

    pub is_next : IsNewThing state contents mid m x
    is_next = record {
      stands = s;
      not_yet = not_yet;
      formed = formed;
      kids = true_of_all (λ k. is_among (values mid) k ≡ true) (kids_in kids) (λ k h. among_if_has (values mid) k (live_then stored known xs can.known_live k (kids_there k h)));
    }

    grown_is : with_new known x ≡ fold with_new known (kids_in kids) ++ x ∷ []
    grown_is = ap (λ b. cond b known (with_new_kids known kids ++ x ∷ [])) (not_among known x not_known) ∙ ap (λ l. l ++ x ∷ []) (sym (new_listed kids known))

    pub itself_defined : (new : State) → StandsFor new contents (and_thing mid x) → AreDefined contents stored known (with_below x) (with_new known x) before new (now ++ m ∷ [])
    itself_defined new stands = subst (λ l. AreDefined contents stored known (with_below x) l before new (now ++ m ∷ [])) (sym grown_is) (record {
      adds = record {
        added = xs ++ x ∷ [];
        are = ap (λ l. l ++ x ∷ []) first.adds.are ∙ append_assoc known xs (x ∷ []);
        built = added_append known xs (x ∷ []) first.adds.built (
          record {
            formed = formed;
            fresh = λ h. ⊎_elim not_known (λ b. not_below_itself tag text kids (below x b)) (in_either known xs x h);
            kids = λ k h. kids_there k h;
          },
          tt,
        );
        parts_of = λ y h. ⊎_elim (λ a. inr (below y a)) (λ b. only_one (Has (with_below x)) x y (inl refl) b) (in_either xs (x ∷ []) y h);
      };
      stands = subst (StandsFor new contents) (sym (fold_append stored xs (x ∷ []))) stands;
      numbers = first.numbers ++ m ∷ [];
      are = ap (λ (l : List Number). l ++ m ∷ []) first.are ∙ append_assoc before first.numbers (m ∷ []);
      each = all_join (Stands contents) first.numbers (m ∷ []) xs (x ∷ []) first.each (s, tt);
    })

  -- ---- several things

  -- of these things those under some numbers are left to be defined
  pub record AreLeft (stored : Stored) (known all : List Thing) (before : List Number) (state : State) (now rest : List Number) : Type 0 where
    pub parts : List Thing
    pub grown : List Thing
    pub left : List Thing
    pub done : AreDefined contents stored known parts grown before state now
    pub stand : AreAll (Stands contents) rest left
    pub same : fold with_new known all ≡ fold with_new grown left
    pub are : flat_map with_below all ≡ parts ++ flat_map with_below left

  pub all_left : (stored : Stored) (known all : List Thing) (before : List Number) (state : State) (rest : List Number) → StandsFor state contents stored → AreAll (Stands contents) rest all → AreLeft stored known all before state before rest
  all_left stored known all before state rest stands each = record {
    parts = [];
    grown = known;
    left = all;
    done = none_defined stored known [] before state stands;
    stand = each;
    same = refl;
    are = refl;
  }

  -- the next one
  pub record NextLeft (m : Number) (after : List Number) (left : List Thing) : Type 0 where
    pub next : Thing
    pub others : List Thing
    pub are : left ≡ next ∷ others
    pub stand : Stands contents m next
    pub stand_others : AreAll (Stands contents) after others

  pub next_left : (m : Number) (after : List Number) (left : List Thing) → AreAll (Stands contents) (m ∷ after) left → NextLeft m after left
  next_left m after [] stand = absurd stand
  next_left m after (y ∷ ys) stand = record { next = y; others = ys; are = refl; stand = stand.0; stand_others = stand.1 }

  module _ (stored : Stored) (known all : List Thing) (before now : List Number) (old state : State) (m : Number) (after : List Number) (can : CanBeAdded contents old stored known (flat_map with_below all))
      (left : AreLeft stored known all before state now (m ∷ after)) where
    abbrev pub next : NextLeft m after left.left
    next = next_left m after left.left left.stand

    abbrev pub so_far : Stored
    so_far = fold and_thing stored left.done.adds.added

    parts_are : flat_map with_below all ≡ left.parts ++ (with_below next.next ++ flat_map with_below next.others)
    parts_are = left.are ∙ ap (λ l. left.parts ++ flat_map with_below l) next.are

    pub next_can : CanBeAdded contents state so_far left.grown (with_below next.next)
    next_can = can_then stored known left.grown (flat_map with_below all) left.parts (with_below next.next) before now old state can
        (λ y h. subst (λ l. Has l y) (sym parts_are) (in_back left.parts (with_below next.next ++ flat_map with_below next.others) y (in_front (with_below next.next) (flat_map with_below next.others) y h)))
        left.done

    pub next_defined : (new : State) (then : List Number) → AreDefined contents so_far left.grown (with_below next.next) (with_new left.grown next.next) now new then → AreLeft stored known all before new then after
    next_defined new then step = record {
      parts = left.parts ++ with_below next.next;
      grown = with_new left.grown next.next;
      left = next.others;
      done = then_defined stored known left.grown (with_new left.grown next.next) left.parts (with_below next.next) before now then state new left.done step;
      stand = next.stand_others;
      same = left.same ∙ ap (λ l. fold with_new left.grown l) next.are;
      are = parts_are ∙ sym (append_assoc left.parts (with_below next.next) (flat_map with_below next.others));
    }

    pub next_begun : (new : State) (then : List Number) → SomeDefined contents so_far left.grown now new then → SomeDefined contents stored known before new then
    next_begun new then step = (left.parts ++ step.0, step.1, then_defined stored known left.grown step.1 left.parts step.0 before now then state new left.done step.2)

  pub all_defined : (stored : Stored) (known all : List Thing) (before now : List Number) (state : State) → AreLeft stored known all before state now [] → AreDefined contents stored known (flat_map with_below all) (fold with_new known all) before state now
  all_defined stored known all before now state left =
      let empty = none_there left.left left.stand in
      let grown : fold with_new known all ≡ left.grown = left.same ∙ ap (λ l. fold with_new left.grown l) empty in
      let parts : flat_map with_below all ≡ left.parts = left.are ∙ ap (λ l. left.parts ++ flat_map with_below l) empty ∙ sym (no_more left.parts) in
      subst (λ g. AreDefined contents stored known (flat_map with_below all) g before state now) (sym grown) (subst (λ p. AreDefined contents stored known p left.grown before state now) (sym parts) left.done)
    where
      none_there : (ys : List Thing) → AreAll (Stands contents) [] ys → ys ≡ []
      none_there [] stand = refl
      none_there (y ∷ ys) stand = absurd stand

  pub some_defined : (stored : Stored) (known : List Thing) (before : List Number) (state : State) → StandsFor state contents stored → SomeDefined contents stored known before state before
  some_defined stored known before state stands = ([], known, none_defined stored known [] before state stands)

-- a new thing is still new where the numbers are as they were
pub still_new : (old state : State) (contents : List (Option Entry)) (stored : Stored) (m : Number) (x : Thing) → SameNumbers old state → IsNewThing old contents stored m x → IsNewThing state contents stored m x
still_new old state contents stored m x same is = record {
  stands = is.stands;
  not_yet = step (file_thing state.things.items m) refl;
  formed = is.formed;
  kids = is.kids;
}
  where
    step : (o : Option FileThing) → file_thing state.things.items m ≡ o → file_thing state.things.items m ≡ None
    step None e = e
    step (Some t) e =
        let gone : Some t.number ≡ None = ap (option_map (λ (f : FileThing). f.number)) (sym e) ∙ same m ∙ ap (option_map (λ (f : FileThing). f.number)) is.not_yet in
        absurd (cc gone)

-- ---- as a function's steps give it

module _ (contents : List (Option Entry)) where
  -- the kids of a thing, all left
  pub kids_left : (stored : Stored) (known : List Thing) (before : List Number) (state : State) (m : Number) (x : Thing) (node : Node) (rest : List Number) → StandsFor state contents stored → Stands contents m x → node_at contents m ≡ Some node → rest ≡ node.kids
      → AreLeft contents stored known (kids_of_thing x) before state before rest
  kids_left stored known before state m x node rest stands s at same =
      let kids = kids_stand contents m x node at s in
      all_left contents stored known (kids_of_thing x) before state rest stands
      (subst (λ (l : List Thing). AreAll (Stands contents) rest l) (sym kids.1) (subst (λ (l : List Number). AreAll (Stands contents) l (kids_in kids.0)) (sym same) (kids_listed contents node.kids kids.0 kids.2)))

  module _ (stored : Stored) (known : List Thing) (before now : List Number) (old state : State) (m : Number) where
    pub thing_next : (x : Thing) → CanBeAdded contents old stored known (with_below x) → Stands contents m x → file_thing old.things.items m ≡ None
        → (first : AreDefined contents stored known (flat_map with_below (kids_of_thing x)) (fold with_new known (kids_of_thing x)) before state now) → IsNewThing state contents (fold and_thing stored first.adds.added) m x
    thing_next (thing tag text kids) can s none first = is_next contents stored known before now old state m tag text kids can s none first

    pub thing_defined : (x : Thing) → CanBeAdded contents old stored known (with_below x) → Stands contents m x → file_thing old.things.items m ≡ None
        → (first : AreDefined contents stored known (flat_map with_below (kids_of_thing x)) (fold with_new known (kids_of_thing x)) before state now)
        → (new : State) → StandsFor new contents (and_thing (fold and_thing stored first.adds.added) x) → AreDefined contents stored known (with_below x) (with_new known x) before new (now ++ m ∷ [])
    thing_defined (thing tag text kids) can s none first new stands = itself_defined contents stored known before now old state m tag text kids can s none first new stands

-- some are defined still, where the state stands for as much
pub same_defined : (contents : List (Option Entry)) (stored : Stored) (known parts grown : List Thing) (before now then : List Number) (state new : State) → (first : AreDefined contents stored known parts grown before state now)
    → StandsFor new contents (fold and_thing stored first.adds.added) → then ≡ now → AreDefined contents stored known parts grown before new then
same_defined contents stored known parts grown before now then state new first stands same = record { adds = first.adds; stands = stands; numbers = first.numbers; are = same ∙ first.are; each = first.each }

module _ {X Y : Type 0} where
  pub on_err : {P : Type 0} (r : Result X Y) → P → OnErr r P
  on_err (Ok x) p = tt
  on_err (Err e) p = p

  pub on_ok_both : {P Q G : Type 0} (r : Result X Y) → OnOk r P → OnOk r Q → (P → Q → G) → OnOk r G
  on_ok_both (Ok x) p q f = f p q
  on_ok_both (Err e) p q f = tt

  pub on_err_both : {P Q G : Type 0} (r : Result X Y) → OnErr r P → OnErr r Q → (P → Q → G) → OnErr r G
  on_err_both (Ok x) p q f = tt
  on_err_both (Err e) p q f = f p q

pub there : (o : Option FileThing) → true ≡ is_some o → (t : FileThing) × (o ≡ Some t)
there None e = absurd (cc e)
there (Some t) e = (t, refl)

pub absent : (o : Option FileThing) → false ≡ is_some o → o ≡ None
absent None e = refl
absent (Some t) e = absurd (cc e)
