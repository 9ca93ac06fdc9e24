-- The Defines of a commit, and the numbers that a change names.
use Rattle.std.proofs.Common.{◌≡◌, ℕ, suc, true, List, [], ◌∷◌, ◌++◌, map, Option, Some, refl, sym, ◌∙◌, ap, subst, fold, length, drop, append_assoc, option_map}
use Rattle.std.specs.List.{flat_map}
use Rattle.ap_content.specs.Things.{Thing, thing}
use Rattle.ap_content.specs.Entries.{Entry, node_at, Stands}
use Rattle.ap_content.specs.declared.node.Number.{Number}
use Rattle.ap_content.specs.declared.node.Node.{Node}
use Rattle.ap_rows.specs.declared.change.Item.{Item}
use Rattle.ap_rows.specs.declared.change.Item.TheVariants.{Define, PutSource, RemoveSource, PutCreate, RemoveCreate, PutJob, RemoveJob, PutFolders}
use Rattle.ap_rows.specs.Forms.{kids_in}
use Rattle.ap_db.specs.declared.things.FileThing.{FileThing}
use Rattle.ap_db.specs.declared.state.State.{State}
use Rattle.ap_db.specs.Stored.{Live, Stored, values, and_thing}
use Rattle.ap_db.specs.Commit.{PlainItem, puts_folders, puts_source, removes_source, puts_create, removes_create, puts_job, removes_job, item_things, with_new, with_below, new_things, new_live, numbered_from, number_of, define_item}
use Rattle.ap_db.specs.Lawful.{is_lawful, are_lawful}
use Rattle.ap_db.specs.Said.{ItemIs}
use Rattle.ap_db.specs.Listed.{AreAll}
use Rattle.ap_db.specs.States.{StandsFor, IsFileNumber, file_thing}
use Rattle.ap_db.specs.Naming.{item_numbers}
use Rattle.ap_db.specs.PutLaws.{good_change}
use Rattle.ap_db.specs.DefineLaws.{AreNumbered, grown_if_added}
use Rattle.ap_db.specs.NewThings.{drop_front}
use Rattle.ap_db.specs.Defined.{CanBeAdded, AreDefined, SomeDefined, CanBeCommitted}
use Rattle.ap_db.proofs.Renaming.{content_alike, result_alike}
use Rattle.ap_db.proofs.FileNumbers.{number_right}
use Rattle.ap_db.proofs.Walking.{all_join, kids_listed}
use Rattle.ap_db.proofs.Undefining.{StillDefined}

-- ---- what items name

item_named : (N : Number → Thing → Type 0) (item : Item) (plain : PlainItem) → ItemIs N item plain → AreAll N (item_numbers item) (item_things plain)
item_named N (PutSource row) (puts_source plain) is = content_alike N row plain is
item_named N (RemoveSource path) (removes_source plain) is = tt
item_named N (PutCreate row) (puts_create plain) is = (is.input, tt)
item_named N (RemoveCreate path) (removes_create plain) is = tt
item_named N (PutJob row) (puts_job plain) is = result_alike N row.result plain.result is.result
item_named N (RemoveJob id) (removes_job plain) is = tt
item_named N (PutFolders rows) (puts_folders plain) is = tt
item_named N item plain is = absurd is

pub items_named : (N : Number → Thing → Type 0) (items : List Item) (plain : List PlainItem) → AreAll (ItemIs N) items plain → AreAll N (flat_map item_numbers items) (flat_map item_things plain)
items_named N [] [] are = tt
items_named N [] (p ∷ plain) are = absurd are
items_named N (x ∷ items) [] are = absurd are
items_named N (x ∷ items) (p ∷ plain) are = all_join N (item_numbers x) (flat_map item_numbers items) (item_things p) (flat_map item_things plain) (item_named N x p are.0) (items_named N items plain are.1)

-- ---- the Defines

module _ (state : State) (contents : List (Option Entry)) (stored : Stored) (stands : StandsFor state contents stored) (numbers : List Live) (are : AreNumbered numbers stored) where
  pub numbers_right : (kids found : List Number) (xs : List Thing) → AreAll (IsFileNumber state.things.items) kids found → AreAll (Stands contents) kids xs → found ≡ map (number_of numbers) xs
  numbers_right [] [] [] files each = refl
  numbers_right [] [] (x ∷ xs) files each = absurd each
  numbers_right [] (n ∷ found) xs files each = absurd files
  numbers_right (k ∷ kids) [] xs files each = absurd files
  numbers_right (k ∷ kids) (n ∷ found) [] files each = absurd each
  numbers_right (k ∷ kids) (n ∷ found) (x ∷ xs) files each =
      let first : n ≡ number_of numbers x = sym (number_right state contents stored stands numbers k x n.0 are each.0 files.0) in
      let rest : found ≡ map (number_of numbers) xs = numbers_right kids found xs files.1 each.1 in
      λ i. first i ∷ rest i

  -- the Define of a thing by its node, with the file's numbers of the kids
  pub define_is : (m : Number) (x : Thing) (node : Node) (found : List Number) → node_at contents m ≡ Some node → Stands contents m x → AreAll (IsFileNumber state.things.items) node.kids found → Define node.tag node.text found ≡ define_item numbers x
  define_is m (thing tag text kids) node found at s files =
      let both : Some s.0 ≡ Some node = sym s.1 ∙ at in
      let same : s.0 ≡ node = cc both in
      let tags : node.tag ≡ tag = ap (λ (n : Node). n.tag) (sym same) ∙ s.2 in
      let texts : node.text ≡ text = ap (λ (n : Node). n.text) (sym same) ∙ s.3 in
      let each = kids_listed contents node.kids kids (subst (λ (n : Node). Rattle.ap_content.specs.Entries.StandEach contents n.kids kids) same s.4) in
      let nums : found ≡ map (number_of numbers) (kids_in kids) = numbers_right node.kids found (kids_in kids) files each in
      λ i. Define (tags i) (texts i) (nums i)

-- so many are written, and these are left
pub record AreWritten (contents : List (Option Entry)) (numbers : List Live) (xs : List Thing) (before now : List Item) (rest : List Number) : Type 0 where
  pub left : List Thing
  pub each : AreAll (Stands contents) rest left
  pub are : now ++ map (define_item numbers) left ≡ before ++ map (define_item numbers) xs

pub one_written : (contents : List (Option Entry)) (numbers : List Live) (xs : List Thing) (before now : List Item) (m : Number) (after : List Number) (item : Item) → AreWritten contents numbers xs before now (m ∷ after)
    → ((x : Thing) → Stands contents m x → item ≡ define_item numbers x) → AreWritten contents numbers xs before (now ++ item ∷ []) after
one_written contents numbers xs before now m after item written is = step written.left written.each written.are
  where
    step : (left : List Thing) → AreAll (Stands contents) (m ∷ after) left → now ++ map (define_item numbers) left ≡ before ++ map (define_item numbers) xs → AreWritten contents numbers xs before (now ++ item ∷ []) after
    step [] each are = absurd each
    step (x ∷ left) each are = record {
      left = left;
      each = each.1;
      are = append_assoc now (item ∷ []) (map (define_item numbers) left) ∙ ap (λ (i : Item). now ++ i ∷ map (define_item numbers) left) (is x each.0) ∙ are;
    }

pub all_written : (contents : List (Option Entry)) (numbers : List Live) (xs : List Thing) (before now : List Item) → AreWritten contents numbers xs before now [] → now ≡ before ++ map (define_item numbers) xs
all_written contents numbers xs before now written = step written.left written.each written.are
  where
    step : (left : List Thing) → AreAll (Stands contents) [] left → now ++ map (define_item numbers) left ≡ before ++ map (define_item numbers) xs → now ≡ before ++ map (define_item numbers) xs
    step [] each are = Rattle.ap_db.specs.NewThings.no_more now ∙ are
    step (x ∷ left) each are = absurd each

-- ---- the new things of a change

values_numbered : (f : Thing → Item) (n : ℕ) (xs : List Thing) → map f xs ≡ map (λ (l : Live). f l.value) (numbered_from n xs)
values_numbered f n [] = refl
values_numbered f n (x ∷ xs) = ap (λ l. f x ∷ l) (values_numbered f (suc n) xs)

module _ (contents : List (Option Entry)) (state : State) (stored : Stored) (items : List Item) (plain : List PlainItem) (can : CanBeCommitted contents state stored items plain) where
  abbrev pub things : List Thing
  things = flat_map item_things plain

  lawful : are_lawful stored stored.tables plain ≡ true
  unfolding is_lawful
  lawful = can.lawful

  pub change_can : CanBeAdded contents state stored (values stored) (flat_map with_below things)
  change_can = record { stands = can.stands; known_live = λ y m. m; live_known = λ y m. m; good = λ y m. good_change stored stored.tables plain lawful y m }

  pub change_named : (named slice : List Number) → named ≡ flat_map item_numbers items → slice ≡ named → AreAll (Stands contents) slice things
  change_named named slice are same = subst (λ (l : List Number). AreAll (Stands contents) l things) (sym (same ∙ are)) (items_named (Stands contents) items plain can.are)

  module _ (new : State) (before now : List Number) (none : before ≡ []) where
    -- what was defined can be undone
    pub some_still : (slice : List Number) → slice ≡ now → SomeDefined contents stored (values stored) before new now → StillDefined contents stored new slice
    some_still slice same some =
        let adds = some.2.adds in
        record {
          things = adds.added;
          grown = grown_if_added stored (values stored) adds.added (λ y m. m) (λ y m. m) adds.built;
          stands = some.2.stands;
          each = subst (λ (l : List Number). AreAll (Stands contents) l adds.added) (sym (same ∙ some.2.are ∙ ap (λ (l : List Number). l ++ some.2.numbers) none)) some.2.each;
        }

    module _ (all : AreDefined contents stored (values stored) (flat_map with_below things) (fold with_new (values stored) things) before new now) where
      pub all_still : (slice : List Number) → slice ≡ now → StillDefined contents stored new slice
      all_still slice same = some_still slice same (flat_map with_below things, fold with_new (values stored) things, all)

      added_are : all.adds.added ≡ new_things stored plain
      unfolding new_things
      added_are = sym (ap (drop (length (values stored))) all.adds.are ∙ drop_front (values stored) all.adds.added)

      pub all_stand : StandsFor new contents (fold and_thing stored (new_things stored plain))
      all_stand = subst (λ xs. StandsFor new contents (fold and_thing stored xs)) added_are all.stands

      pub all_each : (slice : List Number) → slice ≡ now → AreAll (Stands contents) slice (new_things stored plain)
      all_each slice same = subst (AreAll (Stands contents) slice) added_are
          (subst (λ (l : List Number). AreAll (Stands contents) l all.adds.added) (sym (same ∙ all.are ∙ ap (λ (l : List Number). l ++ all.numbers) none)) all.each)

  -- the Defines are those of a commit
  pub defines_are : (before now : List Item) → now ≡ before ++ map (define_item (stored.live ++ new_live stored plain)) (new_things stored plain)
      → now ≡ before ++ map (λ (live : Live). define_item (stored.live ++ new_live stored plain) live.value) (new_live stored plain)
  unfolding new_live
  defines_are before now e = e ∙ ap (λ l. before ++ l) (values_numbered (define_item (stored.live ++ new_live stored plain)) stored.defined (new_things stored plain))

-- ---- as a function's steps give it

pub more_named : (all before now then : List Number) (a b : List Number) (item : Item) (after : List Item) → now ≡ before ++ a → then ≡ now ++ b → a ++ b ≡ item_numbers item → before ++ flat_map item_numbers (item ∷ after) ≡ all
    → then ++ flat_map item_numbers after ≡ all
more_named all before now then a b item after first second own is =
    let both : then ≡ before ++ item_numbers item = second ∙ ap (λ (l : List Number). l ++ b) first ∙ append_assoc before a b ∙ ap (λ (l : List Number). before ++ l) own in
    ap (λ (l : List Number). l ++ flat_map item_numbers after) both ∙ append_assoc before (item_numbers item) (flat_map item_numbers after) ∙ is

-- the file's numbers of those before the rest
pub record NumbersFound (things : List (Option FileThing)) (kids rest found : List Number) : Type 0 where
  pub front : List Number
  pub are : kids ≡ front ++ rest
  pub files : AreAll (IsFileNumber things) front found

pub none_found : (files : List (Option FileThing)) (kids : List Number) → NumbersFound files kids kids []
none_found files kids = record { front = []; are = refl; files = tt }

pub one_found : (things : List (Option FileThing)) (kids : List Number) (kid : Number) (after found : List Number) (t : FileThing) → NumbersFound things kids (kid ∷ after) found → file_thing things kid ≡ Some t
    → NumbersFound things kids after (found ++ record { 0 = t.number } ∷ [])
one_found things kids kid after found t so_far at = record {
  front = so_far.front ++ kid ∷ [];
  are = so_far.are ∙ sym (append_assoc so_far.front (kid ∷ []) after);
  files = all_join (IsFileNumber things) so_far.front (kid ∷ []) found (record { 0 = t.number } ∷ []) so_far.files (ap (option_map (λ (f : FileThing). f.number)) at, tt);
}

pub all_found : (things : List (Option FileThing)) (kids found : List Number) → NumbersFound things kids [] found → AreAll (IsFileNumber things) kids found
all_found things kids found so_far = subst (λ (l : List Number). AreAll (IsFileNumber things) l found) (sym (so_far.are ∙ sym (Rattle.ap_db.specs.NewThings.no_more so_far.front))) so_far.files

pub none_written : (contents : List (Option Entry)) (numbers : List Live) (xs : List Thing) (before : List Item) (rest : List Number) → AreAll (Stands contents) rest xs → AreWritten contents numbers xs before before rest
none_written contents numbers xs before rest each = record { left = xs; each = each; are = refl }
