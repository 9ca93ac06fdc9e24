-- The items of a change put one after another, and taken back.
use Rattle.std.proofs.Common.{◌≡◌, ◌<◌, suc, List, [], ◌∷◌, ◌++◌, length, fold, Option, Some, None, refl, sym, ◌∙◌, ap, subst, arith, append_assoc}
use Rattle.std.specs.Prelude.{IsSome, option_map, slice_index_or}
use Rattle.std.proofs.lemmas.List.{append-nil}
use Rattle.ap_content.specs.Things.{Thing}
use Rattle.ap_content.specs.Entries.{Entry, Stands}
use Rattle.ap_content.specs.declared.node.Number.{Number}
use Rattle.ap_rows.specs.declared.change.Item.{Item}
use Rattle.ap_db.specs.declared.things.FileThing.{FileThing}
use Rattle.ap_db.specs.declared.old.Old.{Old}
use Rattle.ap_db.specs.declared.state.State.{State}
use Rattle.ap_db.specs.Tables.{PlainTables}
use Rattle.ap_db.specs.Changes.{source_cmp, create_cmp, job_row_cmp, source_row_at, create_row_at, job_row_at}
use Rattle.ap_db.specs.Commit.{PlainItem, puts_folders, puts_source, removes_source, puts_create, removes_create, puts_job, removes_job}
use Rattle.ap_db.specs.Lawful.{after_plain}
use Rattle.ap_db.specs.Listed.{AreAll, AreBoth, replaced}
use Rattle.ap_db.specs.Olds.{GivenIs, AreGiven}
use Rattle.ap_db.specs.Putting.{KeepsPlaces, HasRoomFor, HasPutItem, ArePut, ArePutBefore, AreAllPut}
use Rattle.ap_db.specs.Reserve.{HasRoom}
use Rattle.ap_db.specs.Said.{ItemIs}
use Rattle.ap_db.specs.States.{StandsFor, SourceIs, CreateIs, JobIs, Names, SameNumbers, file_thing}
use Rattle.ap_db.specs.Stored.{Stored, values, with_tables}
use Rattle.ap_db.proofs.EachKind.{items_follow}
use Rattle.ap_db.proofs.Placing.{keeps_all, places_kept}
use Rattle.ap_db.proofs.PutRoom.{few, room_now}
use Rattle.ap_db.proofs.NamedItems.{names_live}
use Rattle.ap_db.proofs.Taking.{named_lives}
use Rattle.ap_db.specs.SameThings.{has_if_among}
use Rattle.ap_db.proofs.Renaming.{source_follows, create_follows, job_follows}

-- ---- the same numbers name the same things

some_number : (o p : Option FileThing) → option_map (λ (t : FileThing). t.number) p ≡ option_map (λ (t : FileThing). t.number) o → IsSome o → IsSome p
some_number (Some t) (Some s) e h = refl
some_number (Some t) None e h = absurd (cc e)
some_number None p e h = absurd (cc h)

pub names_follow : (old new : State) (contents : List (Option Entry)) → SameNumbers old new → (m : Number) (x : Thing) → Names old.things.items contents m x → Names new.things.items contents m x
names_follow old new contents same m x h = record { file = some_number (file_thing old.things.items m) (file_thing new.things.items m) (same m) h.file; stands = h.stands }

-- ---- what is given, by other numbers

both_follow : {X Y : Type 0} (P Q : X → Y → Type 0) → ((x : X) (y : Y) → P x y → Q x y) → (o : Option X) (p : Option Y) → AreBoth P o p → AreBoth Q o p
both_follow P Q f None None h = h
both_follow P Q f None (Some y) h = h
both_follow P Q f (Some x) None h = h
both_follow P Q f (Some x) (Some y) h = f x y h

module _ (N M : Number → Thing → Type 0) (follows : (n : Number) (x : Thing) → N n x → M n x) where
  given_follows : (tables : PlainTables) (item : PlainItem) (old : Old) → GivenIs N tables item old → GivenIs M tables item old
  given_follows tables (puts_folders rows) old h = h
  given_follows tables (puts_source row) old h = (h.0, h.1, both_follow (SourceIs N) (SourceIs M) (source_follows N M follows) h.0 (replaced source_cmp row tables.sources) h.2)
  given_follows tables (removes_source path) old h = (h.0, h.1, both_follow (SourceIs N) (SourceIs M) (source_follows N M follows) h.0 (source_row_at tables path) h.2)
  given_follows tables (puts_create row) old h = (h.0, h.1, both_follow (CreateIs N) (CreateIs M) (create_follows N M follows) h.0 (replaced create_cmp row tables.creates) h.2)
  given_follows tables (removes_create path) old h = (h.0, h.1, both_follow (CreateIs N) (CreateIs M) (create_follows N M follows) h.0 (create_row_at tables path) h.2)
  given_follows tables (puts_job row) old h = (h.0, h.1, both_follow (JobIs N) (JobIs M) (job_follows N M follows) h.0 (replaced job_row_cmp row tables.jobs) h.2)
  given_follows tables (removes_job id) old h = (h.0, h.1, both_follow (JobIs N) (JobIs M) (job_follows N M follows) h.0 (job_row_at tables id) h.2)

  pub all_given_follow : (tables : PlainTables) (items : List PlainItem) (olds : List Old) → AreGiven N tables items olds → AreGiven M tables items olds
  all_given_follow tables [] [] h = h
  all_given_follow tables [] (old ∷ olds) h = absurd h
  all_given_follow tables (item ∷ items) [] h = absurd h
  all_given_follow tables (item ∷ items) (old ∷ olds) h = (given_follows tables item old h.0, all_given_follow (after_plain tables item) items olds h.1)

-- ---- one more, and one less

fold_one : (tables : PlainTables) (items : List PlainItem) (item : PlainItem) → fold after_plain tables (items ++ item ∷ []) ≡ after_plain (fold after_plain tables items) item
fold_one tables [] item = refl
fold_one tables (x ∷ items) item = fold_one (after_plain tables x) items item

module _ (N : Number → Thing → Type 0) where
  given_one_more : (tables : PlainTables) (items : List PlainItem) (olds : List Old) (item : PlainItem) (old : Old) → AreGiven N tables items olds → GivenIs N (fold after_plain tables items) item old → AreGiven N tables (items ++ item ∷ []) (olds ++ old ∷ [])
  given_one_more tables [] [] item old are is = (is, tt)
  given_one_more tables [] (o ∷ olds) item old are is = absurd are
  given_one_more tables (x ∷ items) [] item old are is = absurd are
  given_one_more tables (x ∷ items) (o ∷ olds) item old are is = (are.0, given_one_more (after_plain tables x) items olds item old are.1 is)

  pub record LastGiven (tables : PlainTables) (items : List PlainItem) (olds : List Old) (old : Old) : Type 0 where
    pub front : List PlainItem
    pub item : PlainItem
    pub are : items ≡ front ++ item ∷ []
    pub given : AreGiven N tables front olds
    pub last : GivenIs N (fold after_plain tables front) item old

  pub last_given : (tables : PlainTables) (items : List PlainItem) (olds : List Old) (old : Old) → AreGiven N tables items (olds ++ old ∷ []) → LastGiven tables items olds old
  last_given tables [] [] old are = absurd are
  last_given tables [] (o ∷ olds) old are = absurd are
  last_given tables (x ∷ []) [] old are = record { front = []; item = x; are = refl; given = tt; last = are.0 }
  last_given tables (x ∷ y ∷ items) [] old are = absurd are.1
  last_given tables (x ∷ items) (o ∷ olds) old are =
      let rest = last_given (after_plain tables x) items olds old are.1 in
      record { front = x ∷ rest.front; item = rest.item; are = ap (λ l. x ∷ l) rest.are; given = (are.0, rest.given); last = rest.last }

-- ---- steps

module _ (contents : List (Option Entry)) (stored : Stored) (plain : List PlainItem) (items : List Item) where
  -- there is room for one step more
  pub room_for_one : (state : State) (olds : List Old) → ArePut state contents stored plain items olds → HasRoom 1 1 1 2 state
  room_for_one state olds put =
      let has = put.has in
      room_now stored has.first has.others state state contents (subst (λ l. HasRoomFor stored l state) has.are put.room) (keeps_all state) has.rise has.stands

  room_kept : (old new : State) → KeepsPlaces old new → HasRoomFor stored plain old → HasRoomFor stored plain new
  room_kept old new keeps room = record { places = places_kept _ _ _ old new room.places keeps; names = room.names }

  module _ (state : State) (olds : List Old) (item : Item) (rest : List Item) (before : ArePutBefore state contents stored plain items olds (item ∷ rest)) where
    abbrev N : Number → Thing → Type 0
    N = Names state.things.items contents

    -- the plain item that comes next
    pub record NextItem : Type 0 where
      pub next : PlainItem
      pub others : List PlainItem
      pub are : before.put.has.others ≡ next ∷ others
      pub is : ItemIs N item next
      pub left : AreAll (ItemIs N) rest others

    pub next_item : NextItem
    next_item = step before.put.has.others refl before.left
      where
        step : (l : List PlainItem) → before.put.has.others ≡ l → AreAll (ItemIs N) (item ∷ rest) l → NextItem
        step [] e are = absurd are
        step (x ∷ xs) e are = record { next = x; others = xs; are = e; is = are.0; left = are.1 }

    pub one_put : (new : State) (old : Old) → KeepsPlaces state new → SameNumbers state new
        → StandsFor new contents (with_tables stored (after_plain (fold after_plain stored.tables before.put.has.first) next_item.next))
        → GivenIs N (fold after_plain stored.tables before.put.has.first) next_item.next old → ArePutBefore new contents stored plain items (olds ++ old ∷ []) rest
    one_put new old keeps same stands gave =
        let has = before.put.has in
        let next = next_item in
        let M = Names new.things.items contents in
        let follows = names_follow state new contents same in
        record {
          put = record {
            has = record {
              first = has.first ++ next.next ∷ [];
              others = next.others;
              are = has.are ∙ ap (λ l. has.first ++ l) next.are ∙ sym (append_assoc has.first (next.next ∷ []) next.others);
              stands = subst (λ (t : PlainTables). StandsFor new contents (with_tables stored t)) (sym (fold_one stored.tables has.first next.next)) stands;
              rise = has.rise;
              given = all_given_follow N M follows stored.tables (has.first ++ next.next ∷ []) (olds ++ old ∷ []) (given_one_more N stored.tables has.first olds next.next old has.given gave);
            };
            say = before.put.say;
            room = room_kept state new keeps before.put.room;
          };
          left = items_follow N M follows rest next.others next.left;
        }

  -- ---- the last one taken back

  item_within : (xs : List Item) (front : List PlainItem) (y : PlainItem) (back : List PlainItem) → AreAll (ItemIs (Stands contents)) xs (front ++ y ∷ back) → length front < length xs
  item_within [] [] y back are = absurd are
  item_within [] (f ∷ front) y back are = absurd are
  item_within (x ∷ xs) [] y back are = omega arith
  item_within (x ∷ xs) (f ∷ front) y back are = omega (arith, item_within xs front y back are.1)

  item_at : (xs : List Item) (front : List PlainItem) (y : PlainItem) (back : List PlainItem) (d : Item) → AreAll (ItemIs (Stands contents)) xs (front ++ y ∷ back) → ItemIs (Stands contents) (slice_index_or xs (length front) d) y
  item_at [] [] y back d are = absurd are
  item_at [] (f ∷ front) y back d are = absurd are
  item_at (x ∷ xs) [] y back d are = are.0
  item_at (x ∷ xs) (f ∷ front) y back d are = item_at xs front y back d are.1

  given_long : (N : Number → Thing → Type 0) (tables : PlainTables) (put : List PlainItem) (olds : List Old) → AreGiven N tables put olds → length put ≡ length olds
  given_long N tables [] [] are = refl
  given_long N tables [] (o ∷ olds) are = absurd are
  given_long N tables (x ∷ put) [] are = absurd are
  given_long N tables (x ∷ put) (o ∷ olds) are = ap suc (given_long N (after_plain tables x) put olds are.1)

  module _ (state : State) (front : List Old) (old : Old) (put : ArePut state contents stored plain items (front ++ old ∷ [])) where
    abbrev now : Number → Thing → Type 0
    now = Names state.things.items contents

    abbrev pub last : LastGiven now stored.tables put.has.first front old
    last = last_given now stored.tables put.has.first front old put.has.given

    abbrev pub before_last : Stored
    before_last = with_tables stored (fold after_plain stored.tables last.front)

    all_are : plain ≡ last.front ++ last.item ∷ put.has.others
    all_are = put.has.are ∙ ap (λ l. l ++ put.has.others) last.are ∙ append_assoc last.front (last.item ∷ []) put.has.others

    all_say : AreAll (ItemIs (Stands contents)) items (last.front ++ last.item ∷ put.has.others)
    all_say = subst (λ l. AreAll (ItemIs (Stands contents)) items l) all_are put.say

    long : length last.front ≡ length front
    long = given_long now stored.tables last.front front last.given

    pub last_within : length front < length items
    last_within = subst (λ n. n < length items) long (item_within items last.front last.item put.has.others all_say)

    last_at : (d : Item) → ItemIs (Stands contents) (slice_index_or items (length front) d) last.item
    last_at d = subst (λ n. ItemIs (Stands contents) (slice_index_or items n d) last.item) long (item_at items last.front last.item put.has.others d all_say)

    pub last_put : (item : Item) → slice_index_or items (length front) item ≡ item → HasPutItem state contents before_last last.item item old
    last_put item is = record {
      stands = subst (λ (t : PlainTables). StandsFor state contents (with_tables stored t)) (ap (λ l. fold after_plain stored.tables l) last.are ∙ fold_one stored.tables last.front last.item) put.has.stands;
      rise = (few last.front stored.tables put.has.rise).rise;
      is = subst (λ (i : Item). ItemIs (Stands contents) i last.item) is (last_at item);
      gave = last.last;
    }

    pub others_put : (new : State) → KeepsPlaces state new → SameNumbers state new → StandsFor new contents before_last → ArePut new contents stored plain items front
    others_put new keeps same stands = record {
      has = record {
        first = last.front;
        others = last.item ∷ put.has.others;
        are = all_are;
        stands = stands;
        rise = put.has.rise;
        given = all_given_follow now (Names new.things.items contents) (names_follow state new contents same) stored.tables last.front front last.given;
      };
      say = put.say;
      room = room_kept state new keeps put.room;
    }

  -- with none given nothing was put
  pub none_put : (state : State) (olds : List Old) → length olds ≡ 0 → ArePut state contents stored plain items olds → StandsFor state contents stored
  none_put state olds none put =
      subst (λ (l : List PlainItem). StandsFor state contents (with_tables stored (fold after_plain stored.tables l)))
      (empty put.has.first (given_long (Names state.things.items contents) stored.tables put.has.first olds put.has.given ∙ none)) put.has.stands
    where
      empty : (l : List PlainItem) → length l ≡ 0 → l ≡ []
      empty [] e = refl
      empty (x ∷ l) e = absurd (omega (arith, e))

  -- ---- the first and the last step

  pub none_yet : (was state : State) → SameNumbers was state → StandsFor state contents stored → AreAll (ItemIs (Names was.things.items contents)) items plain → HasRoomFor stored plain state → ArePutBefore state contents stored plain items [] items
  none_yet was state same stands name room = record {
    put = record {
      has = record { first = []; others = plain; are = refl; stands = stands; rise = stands.sound.rise; given = tt };
      say = items_follow (Names was.things.items contents) (Stands contents) (λ n x h. h.stands) items plain name;
      room = room;
    };
    left = items_follow (Names was.things.items contents) (Names state.things.items contents) (names_follow was state contents same) items plain name;
  }

  nothing_left : (N : Number → Thing → Type 0) (others : List PlainItem) → AreAll (ItemIs N) [] others → others ≡ []
  nothing_left N [] are = refl
  nothing_left N (x ∷ others) are = absurd are

  pub all_put : (state : State) (olds : List Old) (rest : List Item) → length rest ≡ 0 → ArePutBefore state contents stored plain items olds rest → AreAllPut state contents stored plain items olds
  all_put state olds (x ∷ rest) e before = absurd (omega (arith, e))
  all_put state olds [] e before =
      let has = before.put.has in
      let all : plain ≡ has.first = has.are ∙ ap (λ l. has.first ++ l) (nothing_left (Names state.things.items contents) has.others before.left) ∙ append-nil has.first in
      record {
        stands = subst (λ l. StandsFor state contents (with_tables stored (fold after_plain stored.tables l))) (sym all) has.stands;
        rise = has.rise;
        given = subst (λ l. AreGiven (Names state.things.items contents) stored.tables l olds) (sym all) has.given;
        say = before.put.say;
        room = before.put.room;
      }

  -- all are still put in a state that stands for the same and gave up no place, and may be taken back
  pub still_put : (old new : State) (olds : List Old) → KeepsPlaces old new → AreAllPut old contents stored plain items olds → StandsFor new contents (with_tables stored (fold after_plain stored.tables plain)) → ArePut new contents stored plain items olds
  still_put old new olds keeps put stands =
      let now = with_tables stored (fold after_plain stored.tables plain) in
      record {
        has = record {
          first = plain;
          others = [];
          are = sym (append-nil plain);
          stands = stands;
          rise = put.rise;
          given = all_given_follow (Names old.things.items contents) (Names new.things.items contents)
              (λ m x h. names_live new contents now m x stands (has_if_among (values now) x (named_lives old contents now put.stands m x h)) h.stands) stored.tables plain olds put.given;
        };
        say = put.say;
        room = room_kept old new keeps put.room;
      }
