-- When nothing waits any more, what is left is what the Drops leave, and these are the Drops.
use Rattle.std.proofs.Common.{◌≡◌, ◌⊎◌, Option, ◌<◌, ◌==◌, ℕ, suc, Bool, eqb, true, false, not, List, [], ◌∷◌, ◌++◌, map, reverse, Some, refl, sym, ◌∙◌, ap, subst, arith, inl, inr, IsPermutation, filter}
use Rattle.std.specs.List.{AllByRecursion, IsDistinct}
use Rattle.std.specs.List.Sorted.{IsSorted, IsStrictlySortedBy}
use Rattle.std.specs.Prelude.{⊤}
use Rattle.std.specs.Ordering.{nat_cmp}
use Rattle.std.specs.declared.cmp.Ordering.TheVariants.{Less}
use Rattle.std.proofs.lemmas.Bool.Decides.{nat_tests}
use Rattle.std.proofs.lemmas.List.{reverse-append}
use Rattle.std.proofs.lemmas.List.Sorted.{Contains-permutation, IsPermutation-sym, IsNonDecreasingBy-from_sort}
use Rattle.std.proofs.lemmas.Map.Keys.{IsDistinct-IsPermutation, IsStrictlyIncreasing-from_distinct, sorted_from_strictly_increasing}
use Rattle.ap_content.specs.Entries.{Entry}
use Rattle.ap_rows.specs.declared.change.Item.TheVariants.{Drop}
use Rattle.ap_db.specs.declared.drops.Dropped.{Dropped}
use Rattle.ap_db.specs.Tables.{PlainTables}
use Rattle.ap_db.specs.Stored.{Live, Stored, is_named, named_things, and_no_thing}
use Rattle.ap_db.specs.Same.{is_among}
use Rattle.ap_db.specs.Commit.{drops, after_lawful}
use Rattle.ap_db.specs.Members.{Has, AreIn, in_front, in_back, in_either, in_map, from_map, in_filter, from_filter, true_of, true_of_all}
use Rattle.ap_db.specs.Options.{no_is}
use Rattle.ap_db.specs.SameThings.{has_not, not_among}
use Rattle.ap_db.specs.LiveLaws.{live_of, one_number, number_is, other_number, equal_numbers, falls_below, falls_filter}
use Rattle.ap_db.specs.WellStored.{IsWellStored}
use Rattle.ap_db.specs.EachItem.{after_each, each_lawful, each_keeps}
use Rattle.ap_db.specs.DropLaws.{reached, unreached, AreReached, IsCleared, all_drops_lawful}
use Rattle.ap_db.specs.NamedLaws.{all_named_reached, unnamed_unreached}
use Rattle.ap_db.specs.States.{Falls}
use Rattle.ap_db.specs.TakenOut.{without_things, AreSpare, AreCandidates, number_there, drop_of}
use Rattle.ap_db.proofs.Spares.{well_without_one, well_without}
use Rattle.ap_db.proofs.Returning.{apart_from_all, no_times}
use Rattle.ap_db.proofs.Sweeping.{has_if_contained, contained_if_has}

-- ---- lists that fall

module _ {X : Type 0} (key : X → ℕ) where
  -- each is above all behind it
  abbrev pub FallAll : List X → Type 0
  FallAll [] = ⊤
  FallAll (x ∷ xs) = ((y : X) → Has xs y → key y < key x) × FallAll xs

  -- two that fall and have the same items are one
  pub one_if_same_items : (xs ys : List X) → FallAll xs → FallAll ys → AreIn xs ys → AreIn ys xs → xs ≡ ys
  one_if_same_items [] [] fx fy there back = refl
  one_if_same_items [] (y ∷ ys) fx fy there back = absurd (back y (inl refl))
  one_if_same_items (x ∷ xs) [] fx fy there back = absurd (there x (inl refl))
  one_if_same_items (x ∷ xs) (y ∷ ys) fx fy there back =
      let same = heads (there x (inl refl)) (back y (inl refl)) in
      ap (λ (z : X). z ∷ xs) same ∙ ap (λ l. y ∷ l) (one_if_same_items xs ys fx.1 fy.1
      (λ z h. later z y ys (let below = fx.0 z h in subst (λ (w : X). key z < key w) same below) (there z (inr h)))
      (λ z h. later z x xs (let below = fy.0 z h in subst (λ (w : X). key z < key w) (sym same) below) (back z (inr h))))
    where
      heads : Has (y ∷ ys) x → Has (x ∷ xs) y → x ≡ y
      heads (inl e) h = sym e
      heads (inr a) (inl e) = e
      heads (inr a) (inr b) =
          let up = fy.0 x a in
          let down = fx.0 y b in
          absurd (omega (arith, up, down))

      later : (z first : X) (rest : List X) → key z < key first → Has (first ∷ rest) z → Has rest z
      later z first rest below (inl e) = let same = ap key e in absurd (omega (arith, below, same))
      later z first rest below (inr h) = h

  pub fall_end : (xs : List X) (x : X) → FallAll xs → ((y : X) → Has xs y → key x < key y) → FallAll (xs ++ x ∷ [])
  fall_end [] x falls above = (λ y h. absurd h, tt)
  fall_end (z ∷ xs) x falls above = (λ y h. below y (in_either xs (x ∷ []) y h), fall_end xs x falls.1 (λ y h. above y (inr h)))
    where
      below : (y : X) → Has xs y ⊎ Has (x ∷ []) y → key y < key z
      below y (inl a) = falls.0 y a
      below y (inr (inl e)) = subst (λ (w : X). key w < key z) e (above z (inl refl))
      below y (inr (inr none)) = absurd none

lives_fall : (top : ℕ) (lives : List Live) → Falls top lives → FallAll (λ (live : Live). live.number) lives
lives_fall top [] falls = tt
lives_fall top (live ∷ lives) falls = (λ other h. falls_below live.number lives other falls.1 h, lives_fall live.number lives falls.1)

numbers_fall : (lives : List Live) → FallAll (λ (live : Live). live.number) lives → FallAll (λ (n : ℕ). n) (map (λ live. live.number) lives)
numbers_fall [] falls = tt
numbers_fall (live ∷ lives) falls = (
  λ n h. let other = from_map (λ (l : Live). l.number) lives n h in let below = falls.0 other.0 other.1 in omega (arith, below, other.2),
  numbers_fall lives falls.1,
)

-- what rises falls the other way round
below_all : (x : ℕ) (xs : List ℕ) → AllByRecursion (λ y. nat_cmp x y ≡ Less) xs → (y : ℕ) → Has xs y → x < y
below_all x xs all y h = less x y (true_of (λ y. nat_cmp x y ≡ Less) xs all y h)
  where
    less : (a b : ℕ) → nat_cmp a b ≡ Less → a < b
    less a b e = grind (arith, nat_tests)

has_reverse : (xs : List ℕ) (y : ℕ) → Has (reverse xs) y → Has xs y
has_reverse [] y h = h
has_reverse (x ∷ xs) y h = sort (in_either (reverse xs) (x ∷ []) y (subst (λ l. Has l y) (reverse-append (x ∷ []) xs) h)) (λ a. has_reverse xs y a)
  where
    sort : Has (reverse xs) y ⊎ Has (x ∷ []) y → (Has (reverse xs) y → Has xs y) → Has (x ∷ xs) y
    sort (inl a) rest = inr (rest a)
    sort (inr (inl e)) rest = inl e
    sort (inr (inr none)) rest = absurd none

in_reverse : (xs : List ℕ) (y : ℕ) → Has xs y → Has (reverse xs) y
in_reverse [] y h = h
in_reverse (x ∷ xs) y (inl e) = subst (λ l. Has l y) (sym (reverse-append (x ∷ []) xs)) (in_back (reverse xs) (x ∷ []) y (inl e))
in_reverse (x ∷ xs) y (inr h) = subst (λ l. Has l y) (sym (reverse-append (x ∷ []) xs)) (in_front (reverse xs) (x ∷ []) y (in_reverse xs y h))

reverse_falls : (xs : List ℕ) → IsStrictlySortedBy nat_cmp xs → FallAll (λ (n : ℕ). n) (reverse xs)
unfolding IsStrictlySortedBy
reverse_falls [] rises = tt
reverse_falls (x ∷ xs) rises = subst (FallAll (λ (n : ℕ). n)) (sym (reverse-append (x ∷ []) xs))
    (fall_end (λ (n : ℕ). n) (reverse xs) x (reverse_falls xs rises.1) (λ y h. below_all x xs rises.0 y (has_reverse xs y h)))

flips : (x y : ℕ) → eqb x y ≡ eqb y x
flips x y = step (eqb x y) refl
  where
    step : (b : Bool) → eqb x y ≡ b → eqb x y ≡ eqb y x
    step true e = e ∙ sym (equal_numbers y x (sym (number_is x y e)))
    step false e = e ∙ sym (other_number y x (λ same. absurd (cc (e, equal_numbers x y (sym same)))))

drops_are : (lives : List Live) → map drop_of (map (λ (live : Live). live.number) lives) ≡ map (λ live. Drop (record { 0 = live.number })) lives
drops_are [] = refl
drops_are (live ∷ lives) = ap (λ l. drop_of live.number ∷ l) (drops_are lives)

stored_is : (a b : Stored) → a.defined ≡ b.defined → a.live ≡ b.live → a.tables ≡ b.tables → a ≡ b
stored_is a b p q r = λ i. record { defined = p i; live = q i; tables = r i }

-- ---- what went, and what stays

module _ (contents : List (Option Entry)) where
  -- no row reaches what went
  gone_unreached : (ds : List Dropped) (stored : Stored) → IsWellStored stored → AreSpare contents stored ds → (d : Dropped) → Has ds d
      → (live : Live) × Has stored.live live × (live.number ≡ d.thing.number) × (Has (reached stored.tables) live.value → ⊥)
  gone_unreached [] stored well spare e h = absurd h
  gone_unreached (d ∷ ds) stored well spare e (inl same) =
      let live = live_of stored (record { 0 = d.thing.number }) spare.0.value spare.0.live in
      (live.0, live.1, live.2 ∙ ap (λ (f : Dropped). f.thing.number) same, λ top. unnamed_unreached stored well spare.0.value spare.0.unnamed (subst (Has (reached stored.tables)) live.3 top))
  gone_unreached (d ∷ ds) stored well spare e (inr h) =
      let rest = gone_unreached ds (and_no_thing stored d.thing.number) (well_without_one contents stored d well spare.0) spare.1 e h in
      (rest.0, (from_filter (λ (live : Live). not (live.number == d.thing.number)) stored.live rest.0 rest.1).0, rest.2, rest.3)

  -- what rows reach stays
  reached_stays : (ds : List Dropped) (stored : Stored) → IsWellStored stored → AreSpare contents stored ds → (live : Live) → Has stored.live live → Has (reached stored.tables) live.value → Has (without_things stored ds).live live
  reached_stays [] stored well spare live h top = h
  reached_stays (d ∷ ds) stored well spare live h top =
      let gone = live_of stored (record { 0 = d.thing.number }) spare.0.value spare.0.live in
      reached_stays ds (and_no_thing stored d.thing.number) (well_without_one contents stored d well spare.0) spare.1 live
      (in_filter (λ (live : Live). not (live.number == d.thing.number)) stored.live live h (ap not (other_number live.number d.thing.number (λ same.
      let one = one_number (suc stored.defined) stored.live live gone.0 well.falls h gone.1 (same ∙ sym gone.2) in
      unnamed_unreached stored well spare.0.value spare.0.unnamed (subst (Has (reached stored.tables)) (ap (λ (l : Live). l.value) one ∙ gone.3) top))))) top

  -- what isn't there any more went
  is_gone : (ds : List Dropped) (stored : Stored) (live : Live) → Has stored.live live → (Has (without_things stored ds).live live → ⊥) → (d : Dropped) × Has ds d × (d.thing.number ≡ live.number)
  is_gone [] stored live h out = absurd (out h)
  is_gone (d ∷ ds) stored live h out = step (live.number == d.thing.number) refl (λ stays. is_gone ds (and_no_thing stored d.thing.number) live stays out)
    where
      step : (b : Bool) → live.number == d.thing.number ≡ b → (Has (and_no_thing stored d.thing.number).live live → (e : Dropped) × Has ds e × (e.thing.number ≡ live.number))
          → (e : Dropped) × Has (d ∷ ds) e × (e.thing.number ≡ live.number)
      step true same rest = (d, inl refl, sym (number_is live.number d.thing.number same))
      step false other rest =
          let found = rest (in_filter (λ (live : Live). not (live.number == d.thing.number)) stored.live live h (ap not other)) in
          (found.0, inr found.1, found.2)

  left_lived : (ds : List Dropped) (stored : Stored) → AreIn (without_things stored ds).live stored.live
  left_lived [] stored live h = h
  left_lived (d ∷ ds) stored live h = (from_filter (λ (live : Live). not (live.number == d.thing.number)) stored.live live (left_lived ds (and_no_thing stored d.thing.number) live h)).0

  same_tables : (ds : List Dropped) (stored : Stored) → (without_things stored ds).tables ≡ stored.tables
  same_tables [] stored = refl
  same_tables (d ∷ ds) stored = same_tables ds (and_no_thing stored d.thing.number)

  same_defined : (ds : List Dropped) (stored : Stored) → (without_things stored ds).defined ≡ stored.defined
  same_defined [] stored = refl
  same_defined (d ∷ ds) stored = same_defined ds (and_no_thing stored d.thing.number)

  -- each went once
  numbers_differ : (ds : List Dropped) (stored : Stored) → IsWellStored stored → AreSpare contents stored ds → IsDistinct eqb (map number_there ds)
  unfolding IsDistinct
  numbers_differ [] stored well spare = tt
  numbers_differ (d ∷ ds) stored well spare = (
    true_of_all (λ n. eqb d.thing.number n ≡ false) (map number_there ds) (λ n h.
        let e = from_map number_there ds n h in
        let there = gone_unreached ds (and_no_thing stored d.thing.number) (well_without_one contents stored d well spare.0) spare.1 e.0 e.1 in
        let stays = from_filter (λ (live : Live). not (live.number == d.thing.number)) stored.live there.0 there.1 in
        other_number d.thing.number n (λ same. absurd (cc (no_is (there.0.number == d.thing.number) stays.1, equal_numbers there.0.number d.thing.number (there.2 ∙ e.2 ∙ sym same))))),
    numbers_differ ds (and_no_thing stored d.thing.number) (well_without_one contents stored d well spare.0) spare.1,
  )

  module _ (stored : Stored) (ds : List Dropped) (well : IsWellStored stored) (spare : AreSpare contents stored ds) (waits : AreCandidates contents (without_things stored ds) []) where
    well_then : IsWellStored (without_things stored ds)
    well_then = well_without contents ds stored well spare

    named : (live : Live) → Has (without_things stored ds).live live → is_named (without_things stored ds) live.value ≡ true
    named live h = step (is_named (without_things stored ds) live.value) refl
      where
        step : (b : Bool) → is_named (without_things stored ds) live.value ≡ b → is_named (without_things stored ds) live.value ≡ true
        step true is = is
        step false is =
            let names = named_things (without_things stored ds) in
            let wait = waits live.value (in_map (λ (l : Live). l.value) (without_things stored ds).live live h) (no_times live.value names (apart_from_all live.value names is)) in
            absurd (omega (arith, wait.1.1))

    only_reached : AreReached (reached stored.tables) (without_things stored ds).live
    only_reached = subst (λ (t : PlainTables). AreReached (reached t) (without_things stored ds).live) (same_tables ds stored) (all_named_reached (without_things stored ds) well_then named)

    cleared : (end : Stored) × (after_each stored (drops stored) ≡ Some end) × IsCleared stored.tables stored end
    cleared = all_drops_lawful stored well

    same_live : (without_things stored ds).live ≡ cleared.0.live
    same_live = one_if_same_items (λ (live : Live). live.number) (without_things stored ds).live cleared.0.live
        (lives_fall (suc (without_things stored ds).defined) (without_things stored ds).live well_then.falls)
        (lives_fall (suc cleared.0.defined) cleared.0.live (each_keeps stored cleared.0 (drops stored) well cleared.1).falls)
        (λ live h. cleared.2.stay live (left_lived ds stored live h) (only_reached live h))
        (λ live h. reached_stays ds stored well spare live (cleared.2.fewer live h) (cleared.2.only_reached live h))

    -- what is left is what the Drops leave
    pub is_cleared : without_things stored ds ≡ after_lawful stored (drops stored)
    is_cleared = stored_is (without_things stored ds) cleared.0 (same_defined ds stored ∙ sym cleared.2.defined_same) same_live (same_tables ds stored ∙ sym cleared.2.tables_same)
        ∙ sym (each_lawful stored cleared.0 (drops stored) cleared.1)

    abbrev out_of_reach : List Live
    out_of_reach = filter (unreached (reached stored.tables)) stored.live

    went : (n : ℕ) → Has (map number_there ds) n → Has (map (λ (live : Live). live.number) out_of_reach) n
    went n h =
        let d = from_map number_there ds n h in
        let there = gone_unreached ds stored well spare d.0 d.1 in
        subst (Has (map (λ (live : Live). live.number) out_of_reach)) (there.2 ∙ d.2)
        (in_map (λ (live : Live). live.number) out_of_reach there.0 (in_filter (unreached (reached stored.tables)) stored.live there.0 there.1 (ap not (not_among (reached stored.tables) there.0.value there.3))))

    goes : (n : ℕ) → Has (map (λ (live : Live). live.number) out_of_reach) n → Has (map number_there ds) n
    goes n h =
        let live = from_map (λ (live : Live). live.number) out_of_reach n h in
        let lived = from_filter (unreached (reached stored.tables)) stored.live live.0 live.1 in
        let d = is_gone ds stored live.0 lived.0 (λ stays. has_not (reached stored.tables) live.0.value (no_is (is_among (reached stored.tables) live.0.value) lived.1) (only_reached live.0 stays)) in
        subst (Has (map number_there ds)) (d.2 ∙ live.2) (in_map number_there ds d.0 d.1)

    -- the Drops of the numbers of what went, the greatest first, are those that the rows ask for
    pub are_drops : (numbers : List ℕ) → IsPermutation (map number_there ds) numbers → IsSorted nat_cmp numbers → map drop_of (reverse numbers) ≡ drops stored
    unfolding drops
    are_drops numbers permutation sorted =
        let differ = IsDistinct-IsPermutation eqb flips (map number_there ds) numbers permutation (numbers_differ ds stored well spare) in
        let rises = sorted_from_strictly_increasing numbers (IsStrictlyIncreasing-from_distinct numbers (IsNonDecreasingBy-from_sort (λ n. n) numbers sorted) differ) in
        ap (λ (l : List ℕ). map drop_of l)
        (one_if_same_items (λ (n : ℕ). n) (reverse numbers) (map (λ (live : Live). live.number) out_of_reach) (reverse_falls numbers rises)
        (numbers_fall out_of_reach (lives_fall (suc stored.defined) out_of_reach (falls_filter (unreached (reached stored.tables)) (suc stored.defined) stored.live well.falls)))
        (λ n h. went n (has_if_contained (map number_there ds) n (Contains-permutation numbers (map number_there ds) n (IsPermutation-sym (map number_there ds) numbers permutation) (contained_if_has numbers n (has_reverse numbers n h)))))
        (λ n h. in_reverse numbers n (has_if_contained numbers n (Contains-permutation (map number_there ds) numbers n permutation (contained_if_has (map number_there ds) n (goes n h))))))
        ∙ drops_are out_of_reach
