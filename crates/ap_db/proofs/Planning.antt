-- A commit planned: what nothing reaches is taken out once the rows are put.
use Rattle.std.proofs.Common.{◌≡◌, true, List, [], ◌++◌, map, Option, Ok, Err, sym, ◌∙◌, ap, subst}
use Rattle.std.specs.Prelude.{Result, IfOk, OnOk, OnErr}
use Rattle.std.specs.List.{flat_map}
use Rattle.ap_content.specs.Entries.{Entry}
use Rattle.ap_content.specs.declared.node.Number.{Number}
use Rattle.ap_rows.specs.declared.change.Item.{Item}
use Rattle.ap_db.specs.declared.drops.Dropped.{Dropped}
use Rattle.ap_db.specs.declared.old.Old.{Old}
use Rattle.ap_db.specs.declared.state.State.{State}
use Rattle.ap_db.specs.Stored.{Live, Stored}
use Rattle.ap_db.specs.Commit.{PlainItem, new_live, define_item, numbered, puts_of, drops, after_lawful, commit_items}
use Rattle.ap_db.specs.CommitLaw.{after_defines, after_puts, puts_well, commit_is_swept, items_are}
use Rattle.ap_db.specs.Lawful.{is_lawful}
use Rattle.ap_db.specs.WellStored.{IsWellStored}
use Rattle.ap_db.specs.States.{StandsFor}
use Rattle.ap_db.specs.Olds.{numbers_in}
use Rattle.ap_db.specs.Putting.{AreAllPut}
use Rattle.ap_db.specs.Planned.{IsAsked, HasSwept}
use Rattle.ap_db.specs.TakenOut.{AreCandidates, HasTakenOut}
use Rattle.ap_db.proofs.Unnamed.{candidates}

-- ---- answers

-- what holds of an answer that is Ok, and what holds where it is, together
pub ok_both : {T E : Type 0} (A : Type 0) (B C : T → Type 0) (r : Result T E) → ((t : T) → A → B t → C t) → OnOk r A → IfOk r B → IfOk r C
ok_both A B C (Ok t) f a b = f t a b
ok_both A B C (Err e) f a b = tt

pub err_then : {T E : Type 0} (A B : Type 0) (r : Result T E) → (A → B) → OnErr r A → OnErr r B
err_then A B (Ok t) f a = tt
err_then A B (Err e) f a = f a

pub err_any : {T E : Type 0} (B : Type 0) (r : Result T E) → B → OnErr r B
err_any B (Ok t) b = tt
err_any B (Err e) b = b

-- ---- what is taken out

module _ (self new : State) (contents : List (Option Entry)) (found : List Number) (before behind : List Item) where
  -- what taking out the unnamed gives
  abbrev pub Sweeps : Type 0
  Sweeps = (stored : Stored) → IsWellStored stored → StandsFor self contents stored → AreCandidates contents stored found
      → StandsFor new contents (after_lawful stored (drops stored)) × (behind ≡ before ++ drops stored)

  abbrev pub TakesOut : List Dropped → Type 0
  TakesOut dropped = (stored : Stored) → IsWellStored stored → StandsFor self contents stored → AreCandidates contents stored found → HasTakenOut new contents stored dropped

  abbrev pub PutsBack : Type 0
  PutsBack = (stored : Stored) → IsWellStored stored → StandsFor self contents stored → AreCandidates contents stored found → StandsFor new contents stored

  module _ (loose defined : List Number) (olds : List Old) where
    -- and what that is in a commit
    abbrev pub AreSwept : List Dropped → Type 0
    AreSwept dropped = (old : State) (stored : Stored) (plain : List PlainItem) (items : List Item) → IsAsked old contents stored items plain loose defined → AreAllPut self contents (after_defines stored plain) plain items olds
        → HasSwept new contents stored plain dropped × (behind ≡ before ++ drops (after_puts stored plain))

    abbrev pub AreBack : Type 0
    AreBack = (old : State) (stored : Stored) (plain : List PlainItem) (items : List Item) → IsAsked old contents stored items plain loose defined → AreAllPut self contents (after_defines stored plain) plain items olds
        → StandsFor new contents (after_puts stored plain)

    module _ (are : found ≡ loose ++ defined ++ flat_map numbers_in olds) where
      pub well_put : (old : State) (stored : Stored) (plain : List PlainItem) (items : List Item) → IsAsked old contents stored items plain loose defined → IsWellStored (after_puts stored plain)
      well_put old stored plain items asked = puts_well stored plain asked.takes.well asked.takes.lawful

      pub found_right : (old : State) (stored : Stored) (plain : List PlainItem) (items : List Item) → IsAsked old contents stored items plain loose defined → AreAllPut self contents (after_defines stored plain) plain items olds
          → AreCandidates contents (after_puts stored plain) found
      found_right old stored plain items asked put =
          subst (AreCandidates contents (after_puts stored plain)) (sym are) (candidates self contents stored plain items olds loose defined asked.unnamed asked.new put)

      pub swept_then : (dropped : List Dropped) → Sweeps → TakesOut dropped → AreSwept dropped
      swept_then dropped sweeps takes_out = λ old stored plain items asked put.
          let well = well_put old stored plain items asked in
          let right = found_right old stored plain items asked put in
          let swept = sweeps (after_puts stored plain) well put.stands right in (
            record {
              stands = subst (StandsFor new contents) (sym (commit_is_swept stored plain asked.takes.well asked.takes.lawful)) swept.0;
              out = takes_out (after_puts stored plain) well put.stands right;
            },
            swept.1,
          )

      pub back_then : PutsBack → AreBack
      back_then back = λ old stored plain items asked put. back (after_puts stored plain) (well_put old stored plain items asked) put.stands (found_right old stored plain items asked put)

-- ---- what is written

pub written_right : (stored : Stored) (plain : List PlainItem) → IsWellStored stored → is_lawful stored plain ≡ true → (first defines all : List Item) → first ≡ []
    → defines ≡ first ++ map (λ live. define_item (stored.live ++ new_live stored plain) live.value) (new_live stored plain)
    → all ≡ defines ++ map (numbered (stored.live ++ new_live stored plain)) plain ++ drops (after_puts stored plain) → all ≡ commit_items stored plain
unfolding puts_of
written_right stored plain well lawful first defines all none then last =
    let numbers = stored.live ++ new_live stored plain in
    let defs = map (λ (live : Live). define_item numbers live.value) (new_live stored plain) in
    last ∙ ap (λ (l : List Item). l ++ map (numbered numbers) plain ++ drops (after_puts stored plain)) (then ∙ ap (λ (l : List Item). l ++ defs) none)
    ∙ sym (items_are stored plain well lawful)
