-- A change is lawful item by item.
use Rattle.std.proofs.Common.{◌≡◌, ◌<◌, ◌&&◌, ℕ, zero, suc, Bool, true, false, List, [], ◌∷◌, ◌++◌, length, take, drop, get_or, refl, sym, ◌∙◌, ap, fold, arith}
use Rattle.ap_content.specs.Things.{Thing}
use Rattle.ap_content.specs.declared.node.Number.{Number}
use Rattle.ap_rows.specs.declared.change.Item.{Item}
use Rattle.ap_db.specs.Tables.{PlainTables}
use Rattle.ap_db.specs.Stored.{Stored}
use Rattle.ap_db.specs.Commit.{PlainItem}
use Rattle.ap_db.specs.Lawful.{is_lawful_item, after_plain, are_lawful, is_lawful}
use Rattle.ap_db.specs.Listed.{AreAll}
use Rattle.ap_db.specs.SameThings.{both_true, both_parts}
use Rattle.ap_db.specs.Said.{ItemIs, Says, says_no, never_so}

lawful_append : (stored : Stored) (xs ys : List PlainItem) (tables : PlainTables) → are_lawful stored tables (xs ++ ys) ≡ (are_lawful stored tables xs && are_lawful stored (fold after_plain tables xs) ys)
lawful_append stored [] ys tables = refl
lawful_append stored (x ∷ xs) ys tables =
    ap (λ b. is_lawful_item stored tables x && b) (lawful_append stored xs ys (after_plain tables x))
    ∙ sort (is_lawful_item stored tables x) (are_lawful stored (after_plain tables x) xs) (are_lawful stored (fold after_plain (after_plain tables x) xs) ys)
  where
    sort : (a b c : Bool) → (a && (b && c)) ≡ ((a && b) && c)
    sort true b c = refl
    sort false b c = refl

module _ {X Y : Type 0} (Is : X → Y → Type 0) where
  all_join : (xs : List X) (ys : List Y) (x : X) (y : Y) → AreAll Is xs ys → Is x y → AreAll Is (xs ++ x ∷ []) (ys ++ y ∷ [])
  all_join [] [] x y are is = (is, tt)
  all_join [] (b ∷ ys) x y are is = absurd are
  all_join (a ∷ xs) [] x y are is = absurd are
  all_join (a ∷ xs) (b ∷ ys) x y are is = (are.0, all_join xs ys x y are.1 is)

  pub record Parts (front : List X) (x : X) (back : List X) (all : List Y) : Type 0 where
    pub before : List Y
    pub here : Y
    pub behind : List Y
    pub same : all ≡ before ++ here ∷ behind
    pub are_before : AreAll Is front before
    pub is_here : Is x here

  all_parts : (front : List X) (x : X) (back : List X) (all : List Y) → AreAll Is (front ++ x ∷ back) all → Parts front x back all
  all_parts [] x back [] are = absurd are
  all_parts [] x back (y ∷ ys) are = record { before = []; here = y; behind = ys; same = refl; are_before = tt; is_here = are.0 }
  all_parts (a ∷ front) x back [] are = absurd are
  all_parts (a ∷ front) x back (b ∷ all) are =
      let rest = all_parts front x back all are.1 in
      record { before = b ∷ rest.before; here = rest.here; behind = rest.behind; same = ap (λ l. b ∷ l) rest.same; are_before = (are.0, rest.are_before); is_here = rest.is_here }

module _ (N : Number → Thing → Type 0) (stored : Stored) where
  -- so far the change says lawful items
  pub record SoFar (done : List Item) : Type 0 where
    pub plain : List PlainItem
    pub are : AreAll (ItemIs N) done plain
    pub lawful : are_lawful stored stored.tables plain ≡ true

  pub none_so_far : SoFar []
  none_so_far = record { plain = []; are = tt; lawful = refl }

  pub one_further : (done : List Item) (item : Item) → (so_far : SoFar done) → Says true (ItemIs N item) (is_lawful_item stored (fold after_plain stored.tables so_far.plain)) → SoFar (done ++ item ∷ [])
  one_further done item so_far says =
      let next = says.sound refl in
      record {
        plain = so_far.plain ++ next.0 ∷ [];
        are = all_join (ItemIs N) done so_far.plain item next.0 so_far.are next.1;
        lawful = lawful_append stored so_far.plain (next.0 ∷ []) stored.tables
            ∙ both_true (are_lawful stored stored.tables so_far.plain) (is_lawful_item stored (fold after_plain stored.tables so_far.plain) next.0 && true) so_far.lawful
            (both_true (is_lawful_item stored (fold after_plain stored.tables so_far.plain) next.0) true next.2 refl);
      }

  -- an item that isn't lawful there makes none of it
  pub not_lawful : (done : List Item) (item : Item) (after : List Item) → ((plain : List PlainItem) → AreAll (ItemIs N) done plain → Says false (ItemIs N item) (is_lawful_item stored (fold after_plain stored.tables plain)))
      → Says false (AreAll (ItemIs N) (done ++ item ∷ after)) (is_lawful stored)
  unfolding is_lawful
  not_lawful done item after says = says_no (AreAll (ItemIs N) (done ++ item ∷ after)) (is_lawful stored) (λ plain are so. never plain are so)
    where
      never : (plain : List PlainItem) → AreAll (ItemIs N) (done ++ item ∷ after) plain → are_lawful stored stored.tables plain ≡ true → ⊥
      never plain are so =
          let parts = all_parts (ItemIs N) done item after plain are in
          let split : are_lawful stored stored.tables (parts.before ++ parts.here ∷ parts.behind) ≡ true = ap (are_lawful stored stored.tables) (sym parts.same) ∙ so in
          let both = both_parts (are_lawful stored stored.tables parts.before) (are_lawful stored (fold after_plain stored.tables parts.before) (parts.here ∷ parts.behind)) (sym (lawful_append stored parts.before (parts.here ∷ parts.behind) stored.tables) ∙ split) in
          let here = both_parts (is_lawful_item stored (fold after_plain stored.tables parts.before) parts.here) (are_lawful stored (after_plain (fold after_plain stored.tables parts.before) parts.here) parts.behind) both.1 in
          never_so false (ItemIs N item) (is_lawful_item stored (fold after_plain stored.tables parts.before)) refl (says parts.before parts.are_before) parts.here parts.is_here here.0

  pub all_lawful : (items : List Item) → SoFar items → Says true (AreAll (ItemIs N) items) (is_lawful stored)
  unfolding is_lawful
  all_lawful items so_far = record { sound = λ e. (so_far.plain, so_far.are, so_far.lawful); complete = λ plain are so. refl }

-- ---- the items up to a place

pub around_place : {X : Type 0} (xs : List X) (i : ℕ) (d : X) → i < length xs → xs ≡ take i xs ++ get_or xs i d ∷ drop (suc i) xs
around_place [] i d lt = absurd (omega (arith, lt))
around_place (x ∷ xs) zero d lt = refl
around_place (x ∷ xs) (suc i) d lt = ap (λ l. x ∷ l) (around_place xs i d (omega (arith, lt)))

pub one_more_taken : {X : Type 0} (xs : List X) (i : ℕ) (d : X) → i < length xs → take (suc i) xs ≡ take i xs ++ get_or xs i d ∷ []
one_more_taken [] i d lt = absurd (omega (arith, lt))
one_more_taken (x ∷ xs) zero d lt = refl
one_more_taken (x ∷ xs) (suc i) d lt = ap (λ l. x ∷ l) (one_more_taken xs i d (omega (arith, lt)))
