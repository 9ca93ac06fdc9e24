-- The parts of a thing, kid by kid.
use Rattle.std.proofs.Common.{◌≡◌, ◌<◌, ◌≤◌, ◌-◌, ◌&&◌, ◌||◌, ℕ, suc, Bool, true, false, List, [], ◌∷◌, length, get_or, take, drop, Option, Some, None, refl, sym, ◌∙◌, ap, subst, arith}
use Rattle.std.proofs.lemmas.List.{take_all}
use Rattle.ap_content.specs.Things.{Thing, Kids, thing, no_kids, kid}
use Rattle.ap_content.specs.Entries.{Entry, node_at, Stands, StandEach}
use Rattle.ap_content.specs.declared.node.Number.{Number}
use Rattle.ap_content.specs.declared.node.Node.{Node}
use Rattle.ap_rows.specs.Forms.{has_form, HaveForms}
use Rattle.ap_db.specs.declared.things.FileThing.{FileThing}
use Rattle.ap_db.specs.declared.state.State.{State}
use Rattle.ap_db.specs.Same.{is_among}
use Rattle.ap_db.specs.Stored.{Live, Stored, values}
use Rattle.ap_db.specs.States.{StandsFor, IsFound, file_thing}
use Rattle.ap_db.specs.Members.{Has, from_map, true_of}
use Rattle.ap_db.specs.SameThings.{among_if_has, not_among}
use Rattle.ap_db.specs.LiveLaws.{value_of}
use Rattle.ap_db.specs.NewThings.{size, sizes}
use Rattle.ap_db.specs.GoodParts.{has_good_parts, have_good_parts, good_have_forms, IsDescent, descent_ends, kids_part, KidsLeft}

module _ (state : State) (contents : List (Option Entry)) (stored : Stored) (stands : StandsFor state contents stored) where
  among_good : (x : Thing) → Has (values stored) x → has_good_parts stored x ≡ true
  among_good (thing tag text kids) lives = ap (λ b. b || (have_good_parts stored kids && has_form (thing tag text kids))) (among_if_has (values stored) (thing tag text kids) lives)

  -- a thing of the file has good parts
  pub known_good : (m : Number) (x : Thing) (t : FileThing) → Stands contents m x → file_thing state.things.items m ≡ Some t → has_good_parts stored x ≡ true
  known_good m x t s e =
      let known = stands.known m t e in
      let same : known.value ≡ x = stands.tidy.one_thing m known.value x known.stands s in
      among_good x (value_of stored (record { 0 = t.number }) x (known.live ∙ ap (λ y. Some y) same))

  pub unknown : (m : Number) (x : Thing) → Stands contents m x → file_thing state.things.items m ≡ None → is_among (values stored) x ≡ false
  unknown m x s e = not_among (values stored) x (λ h.
      let live = from_map (λ (l : Live). l.value) stored.live x h in
      let found = true_of (IsFound state.things.items contents) stored.live stands.found live.0 live.1 in
      let same : found.number ≡ m = stands.tidy.one_number found.number m x (subst (Stands contents found.number) live.2 found.stands) s in
      let there : Some found.thing ≡ None = sym found.file ∙ ap (file_thing state.things.items) same ∙ e in
      absurd (cc there))

  -- and another one where its kids do and it has its form
  unknown_good : (m : Number) (x : Thing) → Stands contents m x → file_thing state.things.items m ≡ None → has_good_parts stored x ≡ (have_good_parts stored (kids_part x) && has_form x)
  unknown_good m (thing tag text kids) s e = ap (λ b. b || (have_good_parts stored kids && has_form (thing tag text kids))) (unknown m (thing tag text kids) s e)

  pub kids_start : (m : Number) (x : Thing) (node : Node) → Stands contents m x → node_at contents m ≡ Some node → KidsLeft stored contents x node.kids
  kids_start m (thing tag text kids) node s e =
      let both : Some s.0 ≡ Some node = sym s.1 ∙ e in
      let same : s.0 ≡ node = cc both in
      record { kids = kids; stand = subst (λ (n : Node). StandEach contents n.kids kids) same s.4; good = refl; smaller = omega arith }

  -- what is said of the next kid
  pub record NextKid (x : Thing) (k : Number) (after : List Number) : Type 0 where
    pub next : Thing
    pub others : Kids
    pub stand : Stands contents k next
    pub stand_others : StandEach contents after others
    pub good : have_good_parts stored (kids_part x) ≡ (has_good_parts stored next && have_good_parts stored others)
    pub smaller : size next < size x
    pub less : sizes others < size x

  pub next_kid : (x : Thing) (k : Number) (after : List Number) → KidsLeft stored contents x (k ∷ after) → NextKid x k after
  next_kid x k after left = step left.kids left.stand left.good left.smaller
    where
      some : (y : Thing) → 1 ≤ size y
      some (thing tag text kids) = omega arith

      step : (kids : Kids) → StandEach contents (k ∷ after) kids → have_good_parts stored (kids_part x) ≡ have_good_parts stored kids → sizes kids < size x → NextKid x k after
      step no_kids stand good smaller = absurd stand
      step (kid y ys) stand good smaller = record {
        next = y;
        others = ys;
        stand = stand.0;
        stand_others = stand.1;
        good = good;
        smaller = omega (arith, smaller);
        less = let one = some y in omega (arith, smaller, one);
      }

  pub kid_good : (x : Thing) (k : Number) (after : List Number) → (left : KidsLeft stored contents x (k ∷ after)) → has_good_parts stored (next_kid x k after left).next ≡ true → KidsLeft stored contents x after
  kid_good x k after left is =
      let next = next_kid x k after left in
      record { kids = next.others; stand = next.stand_others; good = next.good ∙ ap (λ b. b && have_good_parts stored next.others) is; smaller = next.less }

  pub kid_bad : (m : Number) (x : Thing) (k : Number) (after : List Number) → Stands contents m x → file_thing state.things.items m ≡ None → (left : KidsLeft stored contents x (k ∷ after))
      → has_good_parts stored (next_kid x k after left).next ≡ false → false ≡ has_good_parts stored x
  kid_bad m x k after s none left is =
      let next = next_kid x k after left in
      sym (unknown_good m x s none ∙ ap (λ b. b && has_form x) (next.good ∙ ap (λ b. b && have_good_parts stored next.others) is))

  -- it doesn't go so far down
  pub not_so_deep : (n : ℕ) (x : Thing) (above : List ℕ) → n < 18446744073709551616 → Stands contents (record { 0 = n }) x → IsDescent contents (size x) above → length above ≡ 18446744073709551616 → ⊥
  not_so_deep n x above low s down long =
      let ends = descent_ends contents stands.tidy 0 (n ∷ above) (x, s, some x, low, down) in
      absurd (omega (arith, ends, long))
    where
      some : (z : Thing) → 0 < size z
      some (thing tag text kids) = omega arith

  -- all kids are good
  pub all_kids_good : (m : Number) (x : Thing) (node : Node) (result : Bool) → Stands contents m x → file_thing state.things.items m ≡ None → node_at contents m ≡ Some node → KidsLeft stored contents x []
      → ((xs : Kids) → StandEach contents node.kids xs → HaveForms xs → result ≡ has_form (thing node.tag node.text xs)) → result ≡ has_good_parts stored x
  all_kids_good m (thing tag text kids) node result s none e left told =
      let both : Some s.0 ≡ Some node = sym s.1 ∙ e in
      let same : s.0 ≡ node = cc both in
      let good : have_good_parts stored kids ≡ true = left.good ∙ empty left.kids left.stand in
      let each : StandEach contents node.kids kids = subst (λ (n : Node). StandEach contents n.kids kids) same s.4 in
      let tags : node.tag ≡ tag = ap (λ (n : Node). n.tag) (sym same) ∙ s.2 in
      let texts : node.text ≡ text = ap (λ (n : Node). n.text) (sym same) ∙ s.3 in
      told kids each (good_have_forms stored stands.sound kids good)
      ∙ (λ i. has_form (thing (tags i) (texts i) kids))
      ∙ sym (unknown_good m (thing tag text kids) s none ∙ ap (λ b. b && has_form (thing tag text kids)) good)
    where
      empty : (xs : Kids) → StandEach contents [] xs → have_good_parts stored xs ≡ true
      empty no_kids stand = refl
      empty (kid x xs) stand = absurd stand

-- the first of a list, and the others
pub first_again : {X : Type 0} (d : X) (xs : List X) → 1 ≤ length xs → get_or xs 0 d ∷ take (length xs - 1) (drop 1 xs) ≡ xs
first_again d [] h = absurd (omega (arith, h))
first_again d (x ∷ xs) h = ap (λ ys. x ∷ ys) (take_all (suc (length xs) - 1) xs (omega arith))

pub none_left : {X : Type 0} (xs : List X) → length xs < 1 → xs ≡ []
none_left [] h = refl
none_left (x ∷ xs) h = absurd (omega (arith, h))

-- what a number stands for has a node there
pub node_there : (contents : List (Option Entry)) (m : Number) (x : Thing) → Stands contents m x → (node : Node) × (node_at contents m ≡ Some node)
node_there contents m (thing tag text kids) s = (s.0, s.1)
