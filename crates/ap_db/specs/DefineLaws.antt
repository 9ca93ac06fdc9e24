-- New things are defined one after another, each where it is lawful, and each has its number among those of a commit.
use Rattle.std.proofs.Common.{◌≡◌, suc, not, cond, List, [], ◌∷◌, ◌++◌, map, Option, Some, None, refl, sym, ◌∙◌, ap, subst, ◌⊎◌, inl, inr, ⊎_elim, fold, option_map, option_and_then}
use Rattle.std.specs.Prelude.{unwrap_or}
use Rattle.std.specs.Bool.{⊤}
use Rattle.ap_content.specs.Things.{Thing, Kids, thing, no_kids, kid, kids_of}
use Rattle.ap_rows.specs.Forms.{kids_in, has_form}
use Rattle.ap_db.specs.Same.{same_thing, is_among}
use Rattle.ap_db.specs.Stored.{Live, Stored, values, thing_at, with_next, things_at, and_thing, with_thing, after_item}
use Rattle.ap_db.specs.Commit.{numbered_from, number_of, define_item}
use Rattle.ap_db.specs.States.{Falls}
use Rattle.ap_db.specs.Members.{Has, AreIn, in_front, in_back, in_either, in_map, from_map, find_there, found_in}
use Rattle.ap_db.specs.SameThings.{both_true, one_if_same, same_if_one, not_among}
use Rattle.ap_db.specs.WellStored.{IsBuiltOn, things_of, IsWellStored}
use Rattle.ap_db.specs.LiveLaws.{at_number, one_value}
use Rattle.ap_db.specs.Keeping.{keeps_thing}
use Rattle.ap_db.specs.NewThings.{AreAdded}
use Rattle.ap_db.specs.EachItem.{after_each, each_first}

-- ---- numbers of things

-- the things that live are numbered, each as it lives
pub record AreNumbered (numbers : List Live) (stored : Stored) : Type 0 where
  pub falls : Falls (suc stored.defined) stored.live
  pub have : AreIn (values stored) (things_of numbers)
  pub agree : (a b : Live) → Has numbers a → Has stored.live b → a.value ≡ b.value → a ≡ b

-- the number of a thing that lives is that under which it lives
pub numbered_right : (numbers : List Live) (stored : Stored) (x : Thing) → AreNumbered numbers stored → Has (values stored) x → thing_at stored (number_of numbers x) ≡ Some x
numbered_right numbers stored x are lives =
    let named = from_map (λ (l : Live). l.value) numbers x (are.have x lives) in
    let found = find_there (λ (l : Live). same_thing l.value x) numbers named.0 named.1 (same_if_one named.0.value x named.2) in
    let there = found_in (λ (l : Live). same_thing l.value x) numbers found.0 found.1 in
    let is : found.0.value ≡ x = one_if_same found.0.value x there.1 in
    let live = from_map (λ (l : Live). l.value) stored.live x lives in
    let one : found.0 ≡ live.0 = are.agree found.0 live.0 there.0 live.1 (is ∙ sym live.2) in
    ap (λ (o : Option Live). thing_at stored (record { 0 = unwrap_or (option_map (λ (l : Live). l.number) o) 0 })) (found.1 ∙ ap (λ (l : Live). Some l) one)
    ∙ at_number (suc stored.defined) stored live.0 are.falls live.1 ∙ ap (λ (y : Thing). Some y) live.2

pub all_numbered_right : (numbers : List Live) (stored : Stored) (xs : List Thing) → AreNumbered numbers stored → AreIn xs (values stored) → things_at stored (map (number_of numbers) xs) ≡ Some xs
all_numbered_right numbers stored [] are live = refl
all_numbered_right numbers stored (x ∷ xs) are live =
    ap (λ o. with_next o (things_at stored (map (number_of numbers) xs))) (numbered_right numbers stored x are (live x (inl refl)))
    ∙ ap (λ o. with_next (Some x) o) (all_numbered_right numbers stored xs are (λ y m. live y (inr m)))

-- ---- one Define

pub kids_again : (xs : Kids) → kids_of (kids_in xs) ≡ xs
kids_again no_kids = refl
kids_again (kid x xs) = ap (kid x) (kids_again xs)

thing_added : (stored : Stored) (x : Thing) → IsBuiltOn (values stored) x → with_thing stored x ≡ Some (and_thing stored x)
thing_added stored x built =
    ap (λ b. cond b (Some (and_thing stored x)) None)
    (both_true (has_form x) (not (is_among (values stored) x)) built.formed (ap not (not_among (values stored) x (λ m. built.fresh m))))

pub define_lawful : (numbers : List Live) (stored : Stored) (x : Thing) → AreNumbered numbers stored → IsBuiltOn (values stored) x → after_item stored (define_item numbers x) ≡ Some (and_thing stored x)
unfolding after_item
define_lawful numbers stored (thing tag text kids) are built =
    ap (option_and_then (λ things. with_thing stored (thing tag text (kids_of things)))) (all_numbered_right numbers stored (kids_in kids) are (λ k m. built.kids k m))
    ∙ ap (λ ks. with_thing stored (thing tag text ks)) (kids_again kids)
    ∙ thing_added stored (thing tag text kids) built

-- ---- and several

pub more_built : (some others : List Thing) (x : Thing) → AreIn some others → AreIn others some → IsBuiltOn some x → IsBuiltOn others x
more_built some others x there back built = record { formed = built.formed; fresh = λ m. built.fresh (back x m); kids = λ k m. there k (built.kids k m) }

-- each of these is built on what lives when its turn comes
abbrev pub AreGrown : Stored → List Thing → Type 0
AreGrown stored [] = ⊤
AreGrown stored (x ∷ xs) = IsBuiltOn (values stored) x × AreGrown (and_thing stored x) xs

pub grown_if_added : (stored : Stored) (known xs : List Thing) → AreIn known (values stored) → AreIn (values stored) known → AreAdded known xs → AreGrown stored xs
grown_if_added stored known [] there back added = tt
grown_if_added stored known (x ∷ xs) there back added = (
  more_built known (values stored) x there back added.0,
  grown_if_added (and_thing stored x) (known ++ x ∷ []) xs
      (λ y m. ⊎_elim (λ a. inr (there y a)) (λ b. only y b) (in_either known (x ∷ []) y m))
      (λ y m. either y m)
      added.1,
)
  where
    only : (y : Thing) → Has (x ∷ []) y → Has (values (and_thing stored x)) y
    only y (inl e) = inl e
    only y (inr none) = absurd none

    either : (y : Thing) → Has (values (and_thing stored x)) y → Has (known ++ x ∷ []) y
    either y (inl e) = in_back known (x ∷ []) y (inl e)
    either y (inr m) = in_front known (x ∷ []) y (back y m)

pub one_keeps : (stored : Stored) (x : Thing) → IsWellStored stored → IsBuiltOn (values stored) x → IsWellStored (and_thing stored x)
one_keeps stored x well built = keeps_thing stored (and_thing stored x) x (λ k m. built.kids k m) well (thing_added stored x built)

pub all_keep : (stored : Stored) (xs : List Thing) → IsWellStored stored → AreGrown stored xs → IsWellStored (fold and_thing stored xs)
all_keep stored [] well grown = well
all_keep stored (x ∷ xs) well grown = all_keep (and_thing stored x) xs (one_keeps stored x well grown.0) grown.1

pub same_tables : (stored : Stored) (xs : List Thing) → (fold and_thing stored xs).tables ≡ stored.tables
same_tables stored [] = refl
same_tables stored (x ∷ xs) = same_tables (and_thing stored x) xs

-- what lives in the end: what lived, and the new things under their numbers
pub lived_lives : (stored : Stored) (xs : List Thing) → AreIn stored.live (fold and_thing stored xs).live
lived_lives stored [] live h = h
lived_lives stored (x ∷ xs) live h = lived_lives (and_thing stored x) xs live (inr h)

pub new_lives : (stored : Stored) (xs : List Thing) → AreIn (numbered_from stored.defined xs) (fold and_thing stored xs).live
new_lives stored [] live h = absurd h
new_lives stored (x ∷ xs) live (inl e) = lived_lives (and_thing stored x) xs live (inl e)
new_lives stored (x ∷ xs) live (inr h) = new_lives (and_thing stored x) xs live h

pub lives_or_new : (stored : Stored) (xs : List Thing) (live : Live) → Has (fold and_thing stored xs).live live → Has (stored.live ++ numbered_from stored.defined xs) live
lives_or_new stored [] live h = in_front stored.live [] live h
lives_or_new stored (x ∷ xs) live h = sort (in_either (and_thing stored x).live (numbered_from (suc stored.defined) xs) live (lives_or_new (and_thing stored x) xs live h))
  where
    newest : Live
    newest = record { number = suc stored.defined; value = x }

    sort : Has (newest ∷ stored.live) live ⊎ Has (numbered_from (suc stored.defined) xs) live → Has (stored.live ++ newest ∷ numbered_from (suc stored.defined) xs) live
    sort (inl (inl e)) = in_back stored.live (newest ∷ numbered_from (suc stored.defined) xs) live (inl e)
    sort (inl (inr m)) = in_front stored.live (newest ∷ numbered_from (suc stored.defined) xs) live m
    sort (inr m) = in_back stored.live (newest ∷ numbered_from (suc stored.defined) xs) live (inr m)

-- the numbers of a commit are right in the end, and at each state whose live things are some of those
pub numbers_in_the_end : (stored : Stored) (xs : List Thing) → IsWellStored stored → AreGrown stored xs → AreNumbered (stored.live ++ numbered_from stored.defined xs) (fold and_thing stored xs)
numbers_in_the_end stored xs well grown =
    let last = all_keep stored xs well grown in record {
      falls = last.falls;
      have = λ y m. let live = from_map (λ (l : Live). l.value) (fold and_thing stored xs).live y m in
          subst (Has (things_of (stored.live ++ numbered_from stored.defined xs))) live.2
          (in_map (λ (l : Live). l.value) (stored.live ++ numbered_from stored.defined xs) live.0 (lives_or_new stored xs live.0 live.1));
      agree = λ a b ha hb e. one_value (fold and_thing stored xs).live a b last.built
          (⊎_elim (lived_lives stored xs a) (new_lives stored xs a) (in_either stored.live (numbered_from stored.defined xs) a ha)) hb e;
    }

pub numbers_before : (numbers : List Live) (stored last : Stored) → Falls (suc stored.defined) stored.live → AreIn stored.live last.live → AreNumbered numbers last → AreNumbered numbers stored
numbers_before numbers stored last falls some are = record {
  falls = falls;
  have = λ y m. let live = from_map (λ (l : Live). l.value) stored.live y m in
      are.have y (subst (Has (values last)) live.2 (in_map (λ (l : Live). l.value) last.live live.0 (some live.0 live.1)));
  agree = λ a b ha hb e. are.agree a b ha (some b hb) e;
}

-- the Defines of new things are lawful, one after another
pub defines_lawful : (numbers : List Live) (xs : List Thing) (stored : Stored) → IsWellStored stored → AreGrown stored xs → AreNumbered numbers (fold and_thing stored xs)
    → after_each stored (map (λ live. define_item numbers live.value) (numbered_from stored.defined xs)) ≡ Some (fold and_thing stored xs)
defines_lawful numbers [] stored well grown are = refl
defines_lawful numbers (x ∷ xs) stored well grown are =
    each_first stored (and_thing stored x) (fold and_thing (and_thing stored x) xs) (define_item numbers x) (map (λ live. define_item numbers live.value) (numbered_from (suc stored.defined) xs))
    (define_lawful numbers stored x (numbers_before numbers stored (fold and_thing stored (x ∷ xs)) well.falls (lived_lives stored (x ∷ xs)) are) grown.0)
    (defines_lawful numbers xs (and_thing stored x) (one_keeps stored x well grown.0) grown.1 are)
