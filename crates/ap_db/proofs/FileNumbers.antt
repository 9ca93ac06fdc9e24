-- The number of a thing of the file is its number among those of a commit, at each point of the Defines and in the end.
use Rattle.std.proofs.Common.{◌≡◌, ℕ, true, List, [], ◌∷◌, ◌++◌, Option, Some, refl, sym, ◌∙◌, ap, subst, fold, find, option_map}
use Rattle.std.specs.Prelude.{unwrap_or}
use Rattle.ap_content.specs.Things.{Thing}
use Rattle.ap_content.specs.Entries.{Entry, Stands}
use Rattle.ap_content.specs.declared.node.Number.{Number}
use Rattle.ap_db.specs.declared.things.FileThing.{FileThing}
use Rattle.ap_db.specs.declared.state.State.{State}
use Rattle.ap_db.specs.Same.{same_thing}
use Rattle.ap_db.specs.Stored.{Live, Stored, thing_at, and_thing}
use Rattle.ap_db.specs.Commit.{PlainItem, numbered_from, number_of, new_live, new_things}
use Rattle.ap_db.specs.Lawful.{is_lawful}
use Rattle.ap_db.specs.States.{StandsFor, file_thing, file_number}
use Rattle.ap_db.specs.Members.{AreIn, from_map, find_there, found_in}
use Rattle.ap_db.specs.SameThings.{one_if_same, same_if_one}
use Rattle.ap_db.specs.WellStored.{IsWellStored}
use Rattle.ap_db.specs.LiveLaws.{live_of, value_of}
use Rattle.ap_db.specs.Options.{from_map_some}
use Rattle.ap_db.specs.DefineLaws.{AreNumbered, AreGrown, all_keep, lived_lives, numbers_before, numbers_in_the_end}
use Rattle.ap_db.specs.CommitLaw.{grown}

number_found : (numbers : List Live) (x : Thing) (live : Live) (n : Number) → find (λ (l : Live). same_thing l.value x) numbers ≡ Some live → live.number ≡ n.0 → number_of numbers x ≡ n
number_found numbers x live n at same =
    ap (λ (o : Option Live). record { 0 = unwrap_or (option_map (λ (l : Live). l.number) o) 0 }) at ∙ ap (λ (k : ℕ). record { 0 = k }) same

-- the number under which a thing lives
pub number_lives : (numbers : List Live) (stored : Stored) (n : Number) (x : Thing) → AreNumbered numbers stored → thing_at stored n ≡ Some x → number_of numbers x ≡ n
number_lives numbers stored n x are at =
    let live = live_of stored n x at in
    let named = from_map (λ (l : Live). l.value) numbers x (are.have x (value_of stored n x at)) in
    let found = find_there (λ (l : Live). same_thing l.value x) numbers named.0 named.1 (same_if_one named.0.value x named.2) in
    let there = found_in (λ (l : Live). same_thing l.value x) numbers found.0 found.1 in
    let is : found.0.value ≡ x = one_if_same found.0.value x there.1 in
    let one : found.0 ≡ live.0 = are.agree found.0 live.0 there.0 live.1 (is ∙ sym live.3) in
    number_found numbers x live.0 n (found.1 ∙ ap (λ (l : Live). Some l) one) live.2

module _ (state : State) (contents : List (Option Entry)) (stored : Stored) (stands : StandsFor state contents stored) where
  -- what the file has under a number of the contents is what this stands for
  pub thing_known : (m : Number) (x : Thing) (t : FileThing) → Stands contents m x → file_thing state.things.items m ≡ Some t → thing_at stored (record { 0 = t.number }) ≡ Some x
  thing_known m x t s e =
      let known = stands.known m t e in
      known.live ∙ ap (λ y. Some y) (stands.tidy.one_thing m known.value x known.stands s)

  -- its number in the file is that among numbers that are right
  pub number_right : (numbers : List Live) (m : Number) (x : Thing) (n : ℕ) → AreNumbered numbers stored → Stands contents m x → file_number state.things.items m ≡ Some n → number_of numbers x ≡ record { 0 = n }
  number_right numbers m x n are s e =
      let there = from_map_some (λ (t : FileThing). t.number) (file_thing state.things.items m) n e in
      number_lives numbers stored (record { 0 = n }) x are (ap (λ (k : ℕ). thing_at stored (record { 0 = k })) (sym there.2) ∙ thing_known m x there.0 s there.1)

pub fold_append : (stored : Stored) (xs ys : List Thing) → fold and_thing stored (xs ++ ys) ≡ fold and_thing (fold and_thing stored xs) ys
fold_append stored [] ys = refl
fold_append stored (x ∷ xs) ys = fold_append (and_thing stored x) xs ys

pub grown_before : (stored : Stored) (xs ys : List Thing) → AreGrown stored (xs ++ ys) → AreGrown stored xs
grown_before stored [] ys are = tt
grown_before stored (x ∷ xs) ys are = (are.0, grown_before (and_thing stored x) xs ys are.1)

-- the numbers of a commit are right at each point of its Defines
pub numbers_on_the_way : (stored : Stored) (xs ys : List Thing) → IsWellStored stored → AreGrown stored (xs ++ ys) → AreNumbered (stored.live ++ numbered_from stored.defined (xs ++ ys)) (fold and_thing stored xs)
numbers_on_the_way stored xs ys well are =
    let mid = fold and_thing stored xs in
    let last = fold and_thing stored (xs ++ ys) in
    numbers_before (stored.live ++ numbered_from stored.defined (xs ++ ys)) mid last
    (all_keep stored xs well (grown_before stored xs ys are)).falls
    (subst (λ (s : Stored). AreIn mid.live s.live) (sym (fold_append stored xs ys)) (lived_lives mid ys))
    (numbers_in_the_end stored (xs ++ ys) well are)

-- and once all is defined
pub numbers_of_commit : (stored : Stored) (plain : List PlainItem) → IsWellStored stored → is_lawful stored plain ≡ true → AreNumbered (stored.live ++ new_live stored plain) (fold and_thing stored (new_things stored plain))
unfolding new_live
numbers_of_commit stored plain well lawful = numbers_in_the_end stored (new_things stored plain) well (grown stored plain well lawful)

-- the number of a thing of the file is its number in a commit
pub file_numbers : (state : State) (contents : List (Option Entry)) (stored : Stored) (plain : List PlainItem) (m : Number) (x : Thing) (n : ℕ) → IsWellStored stored → is_lawful stored plain ≡ true
    → StandsFor state contents (fold and_thing stored (new_things stored plain)) → Stands contents m x → file_number state.things.items m ≡ Some n
    → number_of (stored.live ++ new_live stored plain) x ≡ record { 0 = n }
file_numbers state contents stored plain m x n well lawful stands s e =
    number_right state contents (fold and_thing stored (new_things stored plain)) stands (stored.live ++ new_live stored plain) m x n (numbers_of_commit stored plain well lawful) s e
