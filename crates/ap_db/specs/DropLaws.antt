-- What no row reaches is dropped by falling number, each where it is lawful.
use Rattle.std.proofs.Common.{◌≡◌, ◌==◌, ℕ, suc, Bool, true, false, not, cond, List, [], ◌∷◌, ◌++◌, map, Some, None, refl, sym, ◌∙◌, ap, subst, arith, ◌⊎◌, inl, inr, ⊎_elim, filter, option_and_then, append_assoc}
use Rattle.std.specs.List.{flat_map}
use Rattle.ap_content.specs.Things.{Thing, Kids, thing, no_kids, kid}
use Rattle.ap_rows.specs.declared.change.Item.{Item}
use Rattle.ap_rows.specs.declared.change.Item.TheVariants.{Drop}
use Rattle.ap_rows.specs.Forms.{kids_in}
use Rattle.ap_db.specs.Same.{is_among}
use Rattle.ap_db.specs.Tables.{PlainTables}
use Rattle.ap_db.specs.Stored.{Live, Stored, values, row_things, kids_of_thing, named_things, and_no_thing, without_thing, after_item}
use Rattle.ap_db.specs.Commit.{with_below, all_below, drops}
use Rattle.ap_db.specs.States.{Falls}
use Rattle.ap_db.specs.Members.{Has, AreIn, in_front, in_back, in_either, in_middle, from_map, in_flat_map, from_flat_map}
use Rattle.ap_db.specs.SameThings.{has_if_among, not_among, has_not}
use Rattle.ap_db.specs.WellStored.{IsBuiltOn, AreBuilt, things_of, IsWellStored}
use Rattle.ap_db.specs.LiveLaws.{equal_numbers, other_number, falls_below, at_number, kids_live, gone_by_number}
use Rattle.ap_db.specs.Keeping.{item_keeps}
use Rattle.ap_db.specs.NewThings.{no_more}
use Rattle.ap_db.specs.EachItem.{after_each, each_first}

-- ---- what rows reach

-- what is at or below the things that rows name
abbrev pub reached : PlainTables → List Thing
reached tables = flat_map with_below (row_things tables)

-- a thing is at itself
pub at_itself : (x : Thing) → Has (with_below x) x
at_itself (thing tag text kids) = inl refl

mutual
  -- the kids of what is below a thing are below it
  kids_below : (x y z : Thing) → Has (with_below x) y → Has (kids_of_thing y) z → Has (with_below x) z
  kids_below (thing tag text kids) y z (inl e) m = inr (kids_at_top kids z (subst (λ w. Has (kids_of_thing w) z) (sym e) m))
  kids_below (thing tag text kids) y z (inr h) m = inr (kids_all_below kids y z h m)

  kids_all_below : (xs : Kids) (y z : Thing) → Has (all_below xs) y → Has (kids_of_thing y) z → Has (all_below xs) z
  kids_all_below no_kids y z h m = absurd h
  kids_all_below (kid x xs) y z h m = ⊎_elim
      (λ a. in_front (with_below x) (all_below xs) z (kids_below x y z a m))
      (λ b. in_back (with_below x) (all_below xs) z (kids_all_below xs y z b m))
      (in_either (with_below x) (all_below xs) y h)

  kids_at_top : (xs : Kids) (z : Thing) → Has (kids_in xs) z → Has (all_below xs) z
  kids_at_top no_kids z m = absurd m
  kids_at_top (kid x xs) z (inl e) = in_front (with_below x) (all_below xs) z (subst (λ w. Has (with_below w) z) (sym e) (at_itself z))
  kids_at_top (kid x xs) z (inr m) = in_back (with_below x) (all_below xs) z (kids_at_top xs z m)

pub kids_reached : (tables : PlainTables) (y z : Thing) → Has (reached tables) y → Has (kids_of_thing y) z → Has (reached tables) z
kids_reached tables y z h m =
    let top = from_flat_map with_below (row_things tables) y h in
    in_flat_map with_below (row_things tables) top.0 z top.1 (kids_below top.0 y z top.2 m)

pub named_reached : (tables : PlainTables) (x : Thing) → Has (row_things tables) x → Has (reached tables) x
named_reached tables x h = in_flat_map with_below (row_things tables) x x h (at_itself x)

-- ---- one Drop after another

-- the Drops of those that aren't reached, and those that are
abbrev pub unreached : List Thing → Live → Bool
unreached top live = not (is_among top live.value)

abbrev pub drops_of : List Thing → List Live → List Item
drops_of top lives = map (λ live. Drop (record { 0 = live.number })) (filter (unreached top) lives)

-- among live things that fall one goes by its number, and the others stay
one_goes : (top : ℕ) (front : List Live) (live : Live) (back : List Live) → Falls top (front ++ live ∷ back) → filter (λ l. not (l.number == live.number)) (front ++ live ∷ back) ≡ front ++ back
one_goes top [] live back falls =
    ap (λ b. cond (not b) (live ∷ filter (λ l. not (l.number == live.number)) back) (filter (λ l. not (l.number == live.number)) back)) (equal_numbers live.number live.number refl)
    ∙ gone_by_number live.number back (λ other h e. let below = falls_below live.number back other falls.1 h in absurd (omega (arith, below, e)))
one_goes top (first ∷ front) live back falls =
    let below = falls_below first.number (front ++ live ∷ back) live falls.1 (in_middle front back live) in
    ap (λ b. cond (not b) (first ∷ filter (λ l. not (l.number == live.number)) (front ++ live ∷ back)) (filter (λ l. not (l.number == live.number)) (front ++ live ∷ back))) (other_number first.number live.number (λ e. absurd (omega (arith, below, e))))
    ∙ ap (λ l. first ∷ l) (one_goes first.number front live back falls.1)

-- a thing isn't a kid of itself, nor of one with a lesser number
built_back : (front : List Live) (live : Live) (back : List Live) → AreBuilt (front ++ live ∷ back) → IsBuiltOn (things_of back) live.value × AreBuilt back
built_back [] live back built = built
built_back (first ∷ front) live back built = built_back front live back built.1

pub no_kid_behind : (front : List Live) (live : Live) (back : List Live) (parent : Live) → AreBuilt (front ++ live ∷ back) → Has (live ∷ back) parent → Has (kids_of_thing parent.value) live.value → ⊥
no_kid_behind front live back parent built (inl e) m =
    let here = built_back front live back built in
    here.0.fresh (here.0.kids live.value (subst (λ (l : Live). Has (kids_of_thing l.value) live.value) (sym e) m))
no_kid_behind front live back parent built (inr h) m =
    let here = built_back front live back built in
    here.0.fresh (kids_live back parent here.1 h live.value m)

-- all of these are reached
abbrev pub AreReached : List Thing → List Live → Type 0
AreReached top lives = (live : Live) → Has lives live → Has top live.value

module _ (tables : PlainTables) where
  -- nothing names one that isn't reached, where those with greater numbers are reached
  unnamed : (stored : Stored) (front : List Live) (live : Live) (back : List Live) → stored.live ≡ front ++ live ∷ back → stored.tables ≡ tables → AreBuilt (front ++ live ∷ back) → AreReached (reached tables) front
      → (Has (reached tables) live.value → ⊥) → Has (named_things stored) live.value → ⊥
  unnamed stored front live back are same built are_reached out h = ⊎_elim
      (λ rows. out (named_reached tables live.value (subst (λ t. Has (row_things t) live.value) same rows)))
      (λ kids.
      let parent = from_flat_map kids_of_thing (values stored) live.value kids in
      let lives = from_map (λ (l : Live). l.value) stored.live parent.0 parent.1 in
      let is_kid : Has (kids_of_thing lives.0.value) live.value = subst (λ y. Has (kids_of_thing y) live.value) (sym lives.2) parent.2 in
      ⊎_elim
      (λ a. out (kids_reached tables lives.0.value live.value (are_reached lives.0 a) is_kid))
      (λ b. no_kid_behind front live back lives.0 built b is_kid)
      (in_either front (live ∷ back) lives.0 (subst (λ l. Has l lives.0) are lives.1)))
      (in_either (row_things stored.tables) (flat_map kids_of_thing (values stored)) live.value h)

  drop_lawful : (stored : Stored) (front : List Live) (live : Live) (back : List Live) → stored.live ≡ front ++ live ∷ back → stored.tables ≡ tables → IsWellStored stored → AreReached (reached tables) front
      → (Has (reached tables) live.value → ⊥) → after_item stored (Drop (record { 0 = live.number })) ≡ Some (record stored { live = front ++ back })
  unfolding after_item
  drop_lawful stored front live back are same well are_reached out =
      let there : Has stored.live live = subst (λ l. Has l live) (sym are) (in_middle front back live) in
      let built : AreBuilt (front ++ live ∷ back) = subst AreBuilt are well.built in
      ap (option_and_then (without_thing stored live.number)) (at_number (suc stored.defined) stored live well.falls there)
      ∙ ap (λ b. cond b None (Some (and_no_thing stored live.number))) (not_among (named_things stored) live.value (unnamed stored front live back are same built are_reached out))
      ∙ ap (λ (l : List Live). Some (record stored { live = filter (λ l. not (l.number == live.number)) l })) are
      ∙ ap (λ (l : List Live). Some (record stored { live = l })) (one_goes (suc stored.defined) front live back (subst (Falls (suc stored.defined)) are well.falls))

  -- the state after the Drops: what rows reach
  pub record IsCleared (stored last : Stored) : Type 0 where
    pub tables_same : last.tables ≡ stored.tables
    pub defined_same : last.defined ≡ stored.defined
    pub only_reached : AreReached (reached tables) last.live
    pub fewer : AreIn last.live stored.live
    pub stay : (live : Live) → Has stored.live live → Has (reached tables) live.value → Has last.live live

  pub drops_lawful : (back : List Live) (front : List Live) (stored : Stored) → stored.live ≡ front ++ back → stored.tables ≡ tables → IsWellStored stored → AreReached (reached tables) front
      → (last : Stored) × (after_each stored (drops_of (reached tables) back) ≡ Some last) × IsCleared stored last
  drops_lawful [] front stored are same well are_reached =
      (stored, refl, record { tables_same = refl; defined_same = refl; only_reached = λ live h. are_reached live (subst (λ l. Has l live) (are ∙ sym (no_more front)) h); fewer = λ live h. h; stay = λ live h top. h })
  drops_lawful (live ∷ back) front stored are same well are_reached = step (is_among (reached tables) live.value) refl
      (λ is. drops_lawful back (front ++ live ∷ []) stored (are ∙ sym (append_assoc front (live ∷ []) back)) same well (λ l h. grown is l (in_either front (live ∷ []) l h)))
      (λ is.
      let lawful = drop_lawful stored front live back are same well are_reached (has_not (reached tables) live.value is) in
      let next = record stored { live = front ++ back } in
      let rest = drops_lawful back front next refl same (item_keeps stored next (Drop (record { 0 = live.number })) well lawful) are_reached in (
        rest.0,
        each_first stored next rest.0 (Drop (record { 0 = live.number })) (drops_of (reached tables) back) lawful rest.1,
        record {
          tables_same = rest.2.tables_same;
          defined_same = rest.2.defined_same;
          only_reached = λ l h. rest.2.only_reached l h;
          fewer = λ l h. subst (λ lives. Has lives l) (sym are) (among_more l (rest.2.fewer l h));
          stay = λ l h top. rest.2.stay l (still l top (λ out. has_not (reached tables) live.value is out) (in_either front (live ∷ back) l (subst (λ lives. Has lives l) are h))) top;
        },
      ))
    where
      grown : is_among (reached tables) live.value ≡ true → (l : Live) → Has front l ⊎ Has (live ∷ []) l → Has (reached tables) l.value
      grown is l (inl a) = are_reached l a
      grown is l (inr (inl e)) = subst (λ (q : Live). Has (reached tables) q.value) e (has_if_among (reached tables) live.value is)
      grown is l (inr (inr none)) = absurd none

      among_more : (l : Live) → Has (front ++ back) l → Has (front ++ live ∷ back) l
      among_more l h = ⊎_elim (λ a. in_front front (live ∷ back) l a) (λ b. in_back front (live ∷ back) l (inr b)) (in_either front back l h)

      -- what is reached isn't the one that goes
      still : (l : Live) → Has (reached tables) l.value → (Has (reached tables) live.value → ⊥) → Has front l ⊎ Has (live ∷ back) l → Has (front ++ back) l
      still l top out (inl a) = in_front front back l a
      still l top out (inr (inl e)) = absurd (out (subst (λ (q : Live). Has (reached tables) q.value) (sym e) top))
      still l top out (inr (inr b)) = in_back front back l b

      step : (b : Bool) → is_among (reached tables) live.value ≡ b
          → (is_among (reached tables) live.value ≡ true → (last : Stored) × (after_each stored (drops_of (reached tables) back) ≡ Some last) × IsCleared stored last)
          → (is_among (reached tables) live.value ≡ false → (last : Stored) × (after_each stored (Drop (record { 0 = live.number }) ∷ drops_of (reached tables) back) ≡ Some last) × IsCleared stored last)
          → (last : Stored) × (after_each stored (map (λ live. Drop (record { 0 = live.number })) (cond (not b) (live ∷ filter (unreached (reached tables)) back) (filter (unreached (reached tables)) back))) ≡ Some last) × IsCleared stored last
      step true is stays goes = stays is
      step false is stays goes = goes is

-- the Drops of a state are lawful, and leave what its rows reach
pub all_drops_lawful : (stored : Stored) → IsWellStored stored → (last : Stored) × (after_each stored (drops stored) ≡ Some last) × IsCleared stored.tables stored last
unfolding drops
all_drops_lawful stored well = drops_lawful stored.tables stored.live [] stored refl refl well (λ live h. absurd h)
