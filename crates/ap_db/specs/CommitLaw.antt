-- The law of a commit: each item of its record is lawful at its place, the tables are those after the change, and
-- what lives then is what a row reaches.
use Rattle.std.proofs.Common.{◌≡◌, ℕ, suc, true, List, [], ◌∷◌, ◌++◌, length, map, drop, Some, refl, sym, ◌∙◌, ap, subst, inl, inr, ⊎_elim, fold}
use Rattle.std.specs.List.{flat_map}
use Rattle.ap_content.specs.Things.{Thing, Kids, thing, no_kids, kid}
use Rattle.ap_rows.specs.declared.change.Item.{Item}
use Rattle.ap_rows.specs.Forms.{kids_in}
use Rattle.ap_db.specs.Stored.{Live, Stored, values, row_things, kids_of_thing, and_thing, with_tables}
use Rattle.ap_db.specs.Commit.{PlainItem, item_things, with_new, new_things, with_below, all_below, numbered_from, define_item, numbered, new_live, puts_of, drops, commit_items, after_lawful, after_commit}
use Rattle.ap_db.specs.Lawful.{after_plain, are_lawful, is_lawful}
use Rattle.ap_db.specs.Members.{Has, AreIn, in_map, from_map, from_flat_map, in_either}
use Rattle.ap_db.specs.WellStored.{IsWellStored, things_of}
use Rattle.ap_db.specs.LiveLaws.{kids_live}
use Rattle.ap_db.specs.NewThings.{AreAdded, Adds, all_new_add, drop_front}
use Rattle.ap_db.specs.EachItem.{after_each, each_then, each_lawful, each_keeps}
use Rattle.ap_db.specs.DefineLaws.{AreGrown, grown_if_added, lived_lives, new_lives, same_tables, numbers_in_the_end, defines_lawful}
use Rattle.ap_db.specs.PutLaws.{good_change, items_right}
use Rattle.ap_db.specs.DropLaws.{reached, IsCleared, all_drops_lawful}

-- the record of a commit does what the change says
pub record IsCommitted (stored : Stored) (change : List PlainItem) (items : List Item) (last : Stored) : Type 0 where
  pub lawful : after_each stored items ≡ Some last
  pub tables : last.tables ≡ fold after_plain stored.tables change
  pub only_reached : AreIn (values last) (reached last.tables)
  pub well : IsWellStored last

-- what is stored after the Defines of a change, and after its items
abbrev pub after_defines : Stored → List PlainItem → Stored
after_defines stored change = fold and_thing stored (new_things stored change)

abbrev pub after_puts : Stored → List PlainItem → Stored
after_puts stored change = with_tables (after_defines stored change) (fold after_plain (after_defines stored change).tables change)

-- ---- all that rows reach lives

mutual
  below_lives : (stored : Stored) → IsWellStored stored → (x : Thing) → Has (values stored) x → AreIn (with_below x) (values stored)
  below_lives stored well (thing tag text kids) lives y (inl e) = subst (Has (values stored)) e lives
  below_lives stored well (thing tag text kids) lives y (inr h) = kids_below_live stored well kids (λ k m. kid_lives k m) y h
    where
      kid_lives : (k : Thing) → Has (kids_in kids) k → Has (values stored) k
      kid_lives k m =
          let live = from_map (λ (l : Live). l.value) stored.live (thing tag text kids) lives in
          kids_live stored.live live.0 well.built live.1 k (subst (λ y. Has (kids_of_thing y) k) (sym live.2) m)

  kids_below_live : (stored : Stored) → IsWellStored stored → (xs : Kids) → AreIn (kids_in xs) (values stored) → AreIn (all_below xs) (values stored)
  kids_below_live stored well no_kids live y h = absurd h
  kids_below_live stored well (kid x xs) live y h = ⊎_elim
      (λ a. below_lives stored well x (live x (inl refl)) y a)
      (λ b. kids_below_live stored well xs (λ k m. live k (inr m)) y b)
      (in_either (with_below x) (all_below xs) y h)

pub reached_lives : (stored : Stored) → IsWellStored stored → AreIn (reached stored.tables) (values stored)
reached_lives stored well y h =
    let top = from_flat_map with_below (row_things stored.tables) y h in
    below_lives stored well top.0 (well.named top.0 top.1) y top.2

-- ---- the new things of a lawful change

numbered_there : (n : ℕ) (xs : List Thing) (x : Thing) → Has xs x → Has (things_of (numbered_from n xs)) x
numbered_there n [] x h = absurd h
numbered_there n (y ∷ xs) x (inl e) = inl e
numbered_there n (y ∷ xs) x (inr h) = inr (numbered_there (suc n) xs x h)

module _ (stored : Stored) (change : List PlainItem) (well : IsWellStored stored) (lawful : is_lawful stored change ≡ true) where
  all_lawful : are_lawful stored stored.tables change ≡ true
  unfolding is_lawful
  all_lawful = lawful

  abbrev things : List Thing
  things = flat_map item_things change

  adds : Adds (values stored) (flat_map with_below things) (fold with_new (values stored) things) × AreIn things (fold with_new (values stored) things)
  adds = all_new_add things (values stored) (λ y m. good_change stored stored.tables change all_lawful y m)

  new_are : new_things stored change ≡ adds.0.added
  unfolding new_things
  new_are = ap (drop (length (values stored))) adds.0.are ∙ drop_front (values stored) adds.0.added

  pub grown : AreGrown stored (new_things stored change)
  grown = grown_if_added stored (values stored) (new_things stored change) (λ y m. m) (λ y m. m) (subst (AreAdded (values stored)) (sym new_are) adds.0.built)

  abbrev defined : Stored
  defined = fold and_thing stored (new_things stored change)

  pub things_live : AreIn things (values defined)
  things_live x m = ⊎_elim
      (λ a. let live = from_map (λ (l : Live). l.value) stored.live x a in
      subst (Has (values defined)) live.2 (in_map (λ (l : Live). l.value) defined.live live.0 (lived_lives stored (new_things stored change) live.0 live.1)))
      (λ b. let live = from_map (λ (l : Live). l.value) (numbered_from stored.defined (new_things stored change)) x (numbered_there stored.defined (new_things stored change) x (subst (λ l. Has l x) (sym new_are) b)) in
      subst (Has (values defined)) live.2 (in_map (λ (l : Live). l.value) defined.live live.0 (new_lives stored (new_things stored change) live.0 live.1)))
      (in_either (values stored) adds.0.added x (subst (λ l. Has l x) adds.0.are (adds.1 x m)))

  abbrev put : Stored
  put = with_tables defined (fold after_plain defined.tables change)

  puts_lawful : after_each stored (puts_of stored change) ≡ Some put
  unfolding puts_of new_live
  puts_lawful =
      let numbers = stored.live ++ numbered_from stored.defined (new_things stored change) in
      let are = numbers_in_the_end stored (new_things stored change) well grown in
      each_then stored defined put
      (map (λ (live : Live). define_item numbers live.value) (numbered_from stored.defined (new_things stored change)))
      (map (numbered numbers) change)
      (defines_lawful numbers (new_things stored change) stored well grown are)
      (items_right stored numbers change defined are (subst (λ t. are_lawful stored t change ≡ true) (sym (same_tables stored (new_things stored change))) all_lawful) (λ x m. things_live x m))

  pub puts_are : after_lawful stored (puts_of stored change) ≡ after_puts stored change
  puts_are = each_lawful stored put (puts_of stored change) puts_lawful

  pub puts_well : IsWellStored (after_puts stored change)
  puts_well = each_keeps stored put (puts_of stored change) well puts_lawful

  cleared : (last : Stored) × (after_each put (drops put) ≡ Some last) × IsCleared put.tables put last
  cleared = all_drops_lawful put (each_keeps stored put (puts_of stored change) well puts_lawful)

  items_lawful : after_each stored (commit_items stored change) ≡ Some cleared.0
  unfolding commit_items
  items_lawful =
      each_then stored put cleared.0 (puts_of stored change) (drops (after_lawful stored (puts_of stored change))) puts_lawful
      (ap (λ s. after_each put (drops s)) (each_lawful stored put (puts_of stored change) puts_lawful) ∙ cleared.1)

  commit_is : after_commit stored change ≡ cleared.0
  unfolding after_commit
  commit_is = each_lawful stored cleared.0 (commit_items stored change) items_lawful

  -- it is what the Drops of what was put leave
  pub commit_is_swept : after_commit stored change ≡ after_lawful (after_puts stored change) (drops (after_puts stored change))
  commit_is_swept = commit_is ∙ sym (each_lawful put cleared.0 (drops put) cleared.1)

  -- and its record ends with these Drops
  pub items_are : commit_items stored change ≡ puts_of stored change ++ drops (after_puts stored change)
  unfolding commit_items
  items_are = ap (λ s. puts_of stored change ++ drops s) puts_are

  -- the law of a commit
  pub commit_law : IsCommitted stored change (commit_items stored change) (after_commit stored change)
  commit_law = subst (IsCommitted stored change (commit_items stored change)) (sym commit_is) (record {
    lawful = items_lawful;
    tables = cleared.2.tables_same ∙ ap (λ t. fold after_plain t change) (same_tables stored (new_things stored change));
    only_reached = λ x m. let live = from_map (λ (l : Live). l.value) cleared.0.live x m in
        subst (Has (reached cleared.0.tables)) live.2 (subst (λ t. Has (reached t) live.0.value) (sym cleared.2.tables_same) (cleared.2.only_reached live.0 live.1));
    well = each_keeps stored cleared.0 (commit_items stored change) well items_lawful;
  })
