-- One number more is looked at: its thing stays, or goes and its kids' numbers wait.
use Rattle.std.proofs.Common.{◌≡◌, ◌<◌, ◌≤◌, ◌+◌, ◌==◌, ℕ, zero, suc, not, cond, List, [], ◌∷◌, ◌++◌, length, Option, Some, None, refl, sym, ◌∙◌, ap, subst, arith, ◌⊎◌, inl, inr, ⊎_elim}
use Rattle.std.specs.Prelude.{IsSome, slice_index_or, Contains}
use Rattle.std.proofs.lemmas.List.Elements.{Contains-append_left, Contains-append_right}
use Rattle.ap_content.specs.Things.{Thing, Kids, no_kids, kid}
use Rattle.ap_content.specs.Entries.{Entry, Stands, StandEach, node_at}
use Rattle.ap_content.specs.declared.node.Number.{Number}
use Rattle.ap_content.specs.declared.node.Node.{Node}
use Rattle.ap_rows.specs.Forms.{kids_in}
use Rattle.ap_db.specs.declared.things.FileThing.{FileThing}
use Rattle.ap_db.specs.declared.state.State.{State}
use Rattle.ap_db.specs.declared.drops.Dropped.{Dropped}
use Rattle.ap_db.specs.Same.{same_thing}
use Rattle.ap_db.specs.Stored.{Live, Stored, values, named_things, kids_of_thing, and_no_thing}
use Rattle.ap_db.specs.Listed.{total}
use Rattle.ap_db.specs.Members.{Has, in_either, from_map, in_map, from_filter}
use Rattle.ap_db.specs.Options.{no_is}
use Rattle.ap_db.specs.SameThings.{among_if_has, has_if_among}
use Rattle.ap_db.specs.LiveLaws.{live_of, one_value, equal_numbers}
use Rattle.ap_db.specs.WellStored.{IsWellStored}
use Rattle.ap_db.specs.NamedLaws.{well_stored_is_sound}
use Rattle.ap_db.specs.TakenOut.{without_things, IsSpare, AreCandidates, IsSwept}
use Rattle.ap_db.specs.States.{file_thing, IsKnown, StandsFor, times_in}
use Rattle.ap_db.proofs.Alike.{total_one}
use Rattle.ap_db.proofs.Filing.{filed_among}
use Rattle.ap_db.proofs.Defining.{kids_stand}
use Rattle.ap_db.proofs.Dropping.{left_names}
use Rattle.ap_db.proofs.Taking.{unnamed_among, named_among}
use Rattle.ap_db.proofs.Spares.{well_without, without_both, one_more_out}

-- ---- numbers in a list

has_at : {X : Type 0} (xs : List X) (x : X) (i : ℕ) → i < length xs → slice_index_or xs i x ≡ x → Has xs x
has_at [] x i lt e = absurd (omega (arith, lt))
has_at (y ∷ xs) x zero lt e = inl e
has_at (y ∷ xs) x (suc i) lt e = inr (has_at xs x i (omega (arith, lt)) e)

pub has_if_contained : {X : Type 0} (xs : List X) (x : X) → Contains xs x → Has xs x
has_if_contained xs x h = has_at xs x h.0 h.1 h.2

pub contained_if_has : {X : Type 0} (xs : List X) (x : X) → Has xs x → Contains xs x
contained_if_has [] x h = absurd h
contained_if_has (y ∷ xs) x (inl e) = (zero, omega arith, e)
contained_if_has (y ∷ xs) x (inr h) = let there = contained_if_has xs x h in (suc there.0, omega (arith, there.1), there.2)

-- the last of some or one before it
in_end : (ns : List Number) (m k : Number) → Contains (ns ++ m ∷ []) k → Contains ns k ⊎ (k ≡ m)
in_end ns m k h = ⊎_elim (λ a. inl (contained_if_has ns k a)) (λ b. inr (last b)) (in_either ns (m ∷ []) k (has_if_contained (ns ++ m ∷ []) k h))
  where
    last : Has (m ∷ []) k → k ≡ m
    last (inl e) = sym e
    last (inr none) = absurd none

-- a kid has its number among those of the kids
kid_number : (contents : List (Option Entry)) (ns : List Number) (kids : Kids) → StandEach contents ns kids → (y : Thing) → Has (kids_in kids) y → (k : Number) × Has ns k × Stands contents k y
kid_number contents [] no_kids each y h = absurd h
kid_number contents [] (kid x xs) each y h = absurd each
kid_number contents (n ∷ ns) no_kids each y h = absurd each
kid_number contents (n ∷ ns) (kid x xs) each y (inl e) = (n, inl refl, subst (λ (z : Thing). Stands contents n z) e each.0)
kid_number contents (n ∷ ns) (kid x xs) each y (inr h) = let rest = kid_number contents ns xs each.1 y h in (rest.0, inr rest.1, rest.2)

as_many : (contents : List (Option Entry)) (ns : List Number) (kids : Kids) → StandEach contents ns kids → length ns ≡ length (kids_in kids)
as_many contents [] no_kids each = refl
as_many contents [] (kid x xs) each = absurd each
as_many contents (n ∷ ns) no_kids each = absurd each
as_many contents (n ∷ ns) (kid x xs) each = ap suc (as_many contents ns xs each.1)

in_range : (things : List (Option FileThing)) (k : ℕ) (t : FileThing) → slice_index_or things k None ≡ Some t → k < length things
in_range [] k t e = absurd (none k e)
  where
    none : (k : ℕ) → slice_index_or [] k None ≡ Some t → ⊥
    none zero e = cc e
    none (suc k) e = cc e
in_range (x ∷ things) zero t e = omega arith
in_range (x ∷ things) (suc k) t e = let there = in_range things k t e in omega (arith, there)

module _ (state : State) (contents : List (Option Entry)) (stored : Stored) (dropped : List Dropped) (awaited : List Number) (m : Number) (swept : IsSwept state contents stored dropped (awaited ++ m ∷ [])) where
  abbrev things : List (Option FileThing)
  things = state.things.items

  abbrev now : Stored
  now = without_things stored dropped

  abbrev stands : StandsFor state contents now
  stands = swept.out.stands

  well : IsWellStored now
  well = well_without contents dropped stored swept.out.well swept.out.spare

  -- the thing of the number isn't one that nothing names
  not_this : (y : Thing) → Has (values now) y → times_in (named_things now) y ≡ 0 → Stands contents m y → ((t : FileThing) → file_thing things m ≡ Some t → 0 < t.named) → ⊥
  not_this y lives none s named =
      let filed = filed_among things contents now.live stands.found y (among_if_has (values now) y lives) in
      let one : filed.0 ≡ m = stands.tidy.one_number filed.0 m y filed.1.stands s in
      step (file_thing things m) refl (subst (λ (k : Number). IsSome (file_thing things k)) one filed.1.file)
    where
      step : (o : Option FileThing) → file_thing things m ≡ o → IsSome o → ⊥
      step None is some = cc some
      step (Some t) is some =
          let known = stands.known m t is in
          let same : known.value ≡ y = stands.tidy.one_thing m known.value y known.stands s in
          let count : t.named ≡ 0 = known.named ∙ ap (λ (z : Thing). times_in (named_things now) z) same ∙ none in
          omega (arith, count, named t is)

  pub it_stays : ((t : FileThing) → file_thing things m ≡ Some t → 0 < t.named) → IsSwept state contents stored dropped awaited
  it_stays named = record {
    out = swept.out;
    waits = λ y lives none.
        let waits = swept.waits y lives none in
        ⊎_elim
        (λ before. (waits.0, before, waits.2))
        (λ same. absurd (not_this y lives none (subst (λ (k : Number). Stands contents k y) same waits.2) named))
        (in_end awaited m waits.0 waits.1);
  }

  module _ (t : FileThing) (is : file_thing things m ≡ Some t) (none : t.named ≡ 0) (node : Node) (at : node_at contents m ≡ Some node) where
    known : IsKnown now contents m t
    known = stands.known m t is

    abbrev x : Thing
    x = known.value

    abbrev d : Dropped
    d = record { m = m; thing = t }

    abbrev next : Stored
    next = and_no_thing now t.number

    spare : IsSpare contents now d
    spare = record { value = x; live = known.live; stands = known.stands; unnamed = unnamed_among x (named_things now) (sym known.named ∙ none); none = none }

    kids : (ks : Kids) × (kids_of_thing x ≡ kids_in ks) × StandEach contents node.kids ks
    kids = kids_stand contents m x node at known.stands

    names_left : (f : Thing → ℕ) → total f (named_things now) ≡ total f (named_things next) + total f (kids_of_thing x)
    names_left = left_names now t.number x (well_stored_is_sound now well) known.live

    pub few_kids : length node.kids ≤ state.names
    few_kids =
        let long : length node.kids ≡ length (kids_of_thing x) = as_many contents node.kids kids.0 kids.2 ∙ ap (λ (l : List Thing). length l) (sym kids.1) in
        let all : total (λ (y : Thing). 1) (named_things now) ≡ total (λ (y : Thing). 1) (named_things next) + total (λ (y : Thing). 1) (kids_of_thing x) = names_left (λ y. 1) in
        omega (arith, stands.names, long, all, total_one (named_things now), total_one (kids_of_thing x))

    -- the thing itself lives no more
    not_itself : (y : Thing) → Has (values next) y → x ≡ y → ⊥
    not_itself y lives same =
        let other = from_map (λ (live : Live). live.value) next.live y lives in
        let stays = from_filter (λ (live : Live). not (live.number == t.number)) now.live other.0 other.1 in
        let here = live_of now (record { 0 = t.number }) x known.live in
        let one : other.0 ≡ here.0 = one_value now.live other.0 here.0 well.built stays.0 here.1 (other.2 ∙ sym same ∙ sym here.3) in
        let number : other.0.number ≡ t.number = ap (λ (l : Live). l.number) one ∙ here.2 in
        absurd (cc (no_is (other.0.number == t.number) stays.1, equal_numbers other.0.number t.number number))

    lived : (y : Thing) → Has (values next) y → Has (values now) y
    lived y lives =
        let other = from_map (λ (live : Live). live.value) next.live y lives in
        let stays = from_filter (λ (live : Live). not (live.number == t.number)) now.live other.0 other.1 in
        subst (Has (values now)) other.2 (in_map (λ (live : Live). live.value) now.live other.0 stays.0)

    -- what nothing names then waited before, or is a kid
    waits_then : AreCandidates contents next (awaited ++ node.kids)
    waits_then y lives unnamed = step (times_in (kids_of_thing x) y) refl
      where
        step : (count : ℕ) → times_in (kids_of_thing x) y ≡ count → (k : Number) × Contains (awaited ++ node.kids) k × Stands contents k y
        step zero e =
            let all : times_in (named_things now) y ≡ times_in (named_things next) y + times_in (kids_of_thing x) y = names_left (λ z. cond (same_thing y z) 1 0) in
            let waits = swept.waits y (lived y lives) (omega (arith, all, unnamed, e)) in
            ⊎_elim
            (λ before. (waits.0, Contains-append_left awaited node.kids waits.0 before, waits.2))
            (λ same. absurd (not_itself y lives (stands.tidy.one_thing m x y known.stands (subst (λ (k : Number). Stands contents k y) same waits.2))))
            (in_end awaited m waits.0 waits.1)
        step (suc count) e =
            let is_kid : Has (kids_of_thing x) y = has_if_among (kids_of_thing x) y (named_among y (kids_of_thing x) (omega (arith, e))) in
            let number = kid_number contents node.kids kids.0 kids.2 y (subst (λ (l : List Thing). Has l y) kids.1 is_kid) in
            (number.0, Contains-append_right awaited node.kids number.0 (contained_if_has node.kids number.0 number.1), number.2)

    pub it_goes : (new : State) → length new.things.items ≡ length things → StandsFor new contents (and_no_thing now t.number) → IsSwept new contents stored (dropped ++ record { m = m; thing = t } ∷ []) (awaited ++ node.kids)
    it_goes new long stands_then = record {
      out = one_more_out contents state new stored dropped d swept.out spare (in_range things m.0 t is) long stands_then;
      waits = subst (λ (s : Stored). AreCandidates contents s (awaited ++ node.kids)) (sym (without_both contents dropped (d ∷ []) stored)) waits_then;
    }

-- nothing was taken out yet
pub none_swept : (state : State) (contents : List (Option Entry)) (stored : Stored) (candidates none awaited : List Number) → state.names < 18446744073709551616 → none ≡ [] → awaited ≡ none ++ candidates
    → IsWellStored stored → StandsFor state contents stored → AreCandidates contents stored candidates → IsSwept state contents stored [] awaited
none_swept state contents stored candidates none awaited room nothing all well stands waits = record {
  out = record { well = well; room = omega (arith, room, stands.names); spare = tt; fit = λ d h. absurd h; stands = stands };
  waits = subst (AreCandidates contents stored) (sym (all ∙ ap (λ (l : List Number). l ++ candidates) nothing)) waits;
}
