-- One commit on a ledger.
use Rattle.std.proofs.Common.{◌≡◌, ◌≢◌, ◌⊎◌, inl, inr, ◌≤◌, ◌<◌, ◌+◌, ℕ, Bool, true, false, cond, List, [], ◌∷◌, Option, Some, None, Err, refl, sym, ap, subst, arith}
use Rattle.std.specs.Prelude.{Result, IsSome, IfSome, is_some, nat_lt}
use Rattle.ap_content.specs.Things.{Thing}
use Rattle.ap_content.specs.Entries.{Entry, Stands, holds_at}
use Rattle.ap_content.specs.declared.node.Number.{Number}
use Rattle.ap_disk.specs.Calls.{TellsAs}
use Rattle.ap_disk.specs.Crashes.{Only}
use Rattle.ap_journal.specs.Moments.{Steps}
use Rattle.ap_journal.specs.State.{State}
use Rattle.ap_rows.specs.declared.change.Item.{Item}
use Rattle.ap_db.specs.declared.db.Db.{Db}
use Rattle.ap_db.specs.declared.fault.DbFault.{DbFault}
use Rattle.ap_db.specs.declared.fault.DbFault.TheVariants.{OutOfMemory, DiskFault, StoreFull, Spent}
use Rattle.ap_db.specs.declared.things.FileThing.{FileThing}
use Rattle.ap_db.specs.Changes.{Whole}
use Rattle.ap_db.specs.Commit.{after_commit}
use Rattle.ap_db.specs.Databases.{IsDbOf, IsBeforeOrAfter}
use Rattle.ap_db.specs.Faults.{commit_refusal, size_with, IsRefusedFor}
use Rattle.ap_db.specs.Lawful.{is_lawful}
use Rattle.ap_db.specs.Planned.{AreHeldBeside}
use Rattle.ap_db.specs.States.{AreHeld, file_thing}
use Rattle.ap_db.specs.Stored.{Stored}
use Rattle.ap_db.specs.WholeItems.{items_of, committed}
use Rattle.ap_engine.specs.Ledgers.{StayHeld, IsReady, HasCommitted, HasStopped}
use Rattle.ap_engine.proofs.Following.{one_committed, nothing_given, one_begun, one_acknowledged}

-- ---- what is held stays held

abbrev of_file : List (Option FileThing) → Number → ℕ
of_file things m = cond (is_some (file_thing things m)) 1 0

-- one hold more than the database's own, where there is one
abbrev spare : List (Option FileThing) → List (Option Entry) → Number → ℕ
spare things contents m = cond {A = ℕ} (nat_lt (of_file things m) (holds_at contents m)) 1 0

few_spare : (things : List (Option FileThing)) (contents : List (Option Entry)) (m : Number) → spare things contents m < 18446744073709551614
few_spare things contents m = by_test (nat_lt (of_file things m) (holds_at contents m))
  where
    by_test : (b : Bool) → cond {A = ℕ} b 1 0 < 18446744073709551614
    by_test true = omega arith
    by_test false = omega arith

spare_beside : (things : List (Option FileThing)) (contents : List (Option Entry)) → AreHeld things contents → AreHeldBeside (spare things contents) things contents
spare_beside things contents held m = step (nat_lt (of_file things m) (holds_at contents m)) refl
  where
    own : (o : Option FileThing) → (IsSome o → 0 < holds_at contents m) → cond (is_some o) 1 0 ≤ holds_at contents m
    own None held = omega arith
    own (Some thing) held = omega (arith, held refl)

    step : (b : Bool) → nat_lt (of_file things m) (holds_at contents m) ≡ b → cond {A = ℕ} b 1 0 + of_file things m ≤ holds_at contents m
    step true is = let lt : of_file things m < holds_at contents m = grind (arith, is) in omega (arith, lt)
    step false is = let few = own (file_thing things m) (held m) in omega (arith, few)

pub stay_held : (db db' : Db) (contents contents' : List (Option Entry)) → AreHeld db.state.things.items contents
    → ((others : Number → ℕ) → ((m : Number) → others m < 18446744073709551614) → AreHeldBeside others db.state.things.items contents → AreHeldBeside others db'.state.things.items contents')
    → ((m : Number) (x : Thing) → Stands contents m x → 0 < holds_at contents' m → Stands contents' m x) → StayHeld db contents db' contents'
stay_held db db' contents contents' held beside keeps n x is = record { stands = keeps n x is.stands (omega (arith, more)); hold = more }
  where
    has_one : spare db.state.things.items contents n ≡ 1
    has_one =
        let hold = is.hold in
        let lt : nat_lt (of_file db.state.things.items n) (holds_at contents n) ≡ true = grind (arith, hold) in
        ap (λ (b : Bool). cond {A = ℕ} b 1 0) lt

    more : 1 + of_file db'.state.things.items n ≤ holds_at contents' n
    more = let then = beside (spare db.state.things.items contents) (few_spare db.state.things.items contents) (spare_beside db.state.things.items contents held) n in omega (arith, then, has_one)

-- ---- refusals

pub refused : (journal : State) (count : ℕ) (stop : DbFault) → journal.spent ≡ false → IsRefusedFor {T = Unit {0}} (commit_refusal journal count) (Err stop)
    → (stop ≡ OutOfMemory) ⊎ (stop ≡ DiskFault) ⊎ ((l : ℕ) × (w : ℕ) × (stop ≡ StoreFull l w) × (journal.limit < l + w))
refused journal count stop unspent is = by_spent journal.spent unspent is
  where
    error : (other : DbFault) → ◌≡◌ {A = Result (Unit {0}) DbFault} (Err stop) (Err other) → stop ≡ other
    error other e = cc e

    by_full : (b : Bool) → nat_lt journal.limit (journal.size + size_with count) ≡ b → IsRefusedFor {T = Unit {0}} (cond b (Some (StoreFull journal.size (size_with count))) None) (Err stop)
        → (stop ≡ OutOfMemory) ⊎ (stop ≡ DiskFault) ⊎ ((l : ℕ) × (w : ℕ) × (stop ≡ StoreFull l w) × (journal.limit < l + w))
    by_full true is (inl e) = inr (inr (journal.size, size_with count, error (StoreFull journal.size (size_with count)) e, grind (arith, is)))
    by_full true is (inr e) = inl (error OutOfMemory e)
    by_full false is (inl e) = inl e
    by_full false is (inr e) = inr (inl e)

    by_spent : (b : Bool) → b ≡ false → IsRefusedFor {T = Unit {0}} (cond b (Some Spent) (cond (nat_lt journal.limit (journal.size + size_with count)) (Some (StoreFull journal.size (size_with count))) None)) (Err stop)
        → (stop ≡ OutOfMemory) ⊎ (stop ≡ DiskFault) ⊎ ((l : ℕ) × (w : ℕ) × (stop ≡ StoreFull l w) × (journal.limit < l + w))
    by_spent true e is = absurd (cc e)
    by_spent false e is = by_full (nat_lt journal.limit (journal.size + size_with count)) refl is

module _ {D : Type 0} (seen : D → Option (List ℕ)) (may_leave : D → List ℕ → Type 0) (clock : D → Option ℕ) (left_at : D → ℕ → List ℕ → Type 0) (room faults : D → ℕ) where
  -- ---- a ledger that is ready is a database of its store

  abbrev pub db_of : (db : Db) (contents : List (Option Entry)) (store : D × D) (stored : Stored) → IsReady seen may_leave room db contents store stored → IsDbOf seen may_leave room db contents store
  db_of db contents store stored ready = record {
    stored = stored;
    journal = ready.journal;
    stands = ready.beside.stands;
    held = ready.beside.held;
    well = ready.beside.well;
    loose = ready.beside.loose;
    bounded = ready.bounded;
    file = λ _. ready.file;
  }

  pub ready_of : (db : Db) (contents : List (Option Entry)) (store : D × D) (stored : Stored) (is : IsDbOf seen may_leave room db contents store) → is.stored ≡ stored → db.journal.spent ≡ false
      → Only (seen store.0) (may_leave store.0) → IsReady seen may_leave room db contents store stored
  ready_of db contents store stored is same unspent only = subst (IsReady seen may_leave room db contents store) same (record {
    beside = record { stands = is.stands; held = is.held; well = is.well; loose = is.loose };
    journal = is.journal;
    bounded = is.bounded;
    unspent = unspent;
    file = is.file unspent;
    durable = only;
  })

  -- ---- one commit

  module _ (db db' : Db) (contents contents' : List (Option Entry)) (old new : D × D) (stored : Stored) (whole : Whole) (items : List Item)
      (ready : IsReady seen may_leave room db contents old stored) (lawful : is_lawful stored (items_of stored.tables whole) ≡ true)
      (steps : Steps seen may_leave clock left_at room faults old new (λ c. IfSome (seen old.0) (λ _. IsBeforeOrAfter stored (items_of stored.tables whole) c))) where
    pub has_committed : (next : IsDbOf seen may_leave room db' contents' new) → next.stored ≡ after_commit stored (items_of stored.tables whole) → db'.journal.spent ≡ false
        → StayHeld db contents db' contents' → TellsAs (seen old.0) (seen new.0) (λ _ _. Unit {0}) → Only (seen new.0) (may_leave new.0) → db'.journal.limit ≡ db.journal.limit
        → HasCommitted seen may_leave clock left_at room faults db contents db' contents' old new stored (whole ∷ [])
    unfolding committed
    has_committed next same unspent stay told only limit =
        let then : IsReady seen may_leave room db' contents' new (committed stored whole) = ready_of db' contents' new (committed stored whole) next same unspent only in
        record {
          commits = one_acknowledged seen may_leave clock left_at room faults old new stored whole lawful steps told then.file only;
          told = told;
          ready = subst (IsReady seen may_leave room db' contents' new) (sym (one_committed stored whole)) then;
          stay = stay;
          limit = limit;
        }

    pub has_begun : HasStopped seen may_leave clock left_at room faults old new stored (whole ∷ [])
    has_begun = record { given = whole ∷ []; front = record { rest = []; joined = refl }; answered = 0; commits = one_begun seen may_leave clock left_at room faults old new stored whole lawful steps }

    pub has_stopped : (stop : DbFault) → (stop ≡ OutOfMemory) ⊎ (stop ≡ DiskFault) ⊎ ((l : ℕ) × (w : ℕ) × (stop ≡ StoreFull l w) × (db.journal.limit < l + w)) → (stop ≢ DiskFault → new ≡ old)
        → HasStopped seen may_leave clock left_at room faults old new stored (whole ∷ [])
    has_stopped stop (inl memory) same = untouched (same (λ e. cc (e, memory)))
      where
        untouched : new ≡ old → HasStopped seen may_leave clock left_at room faults old new stored (whole ∷ [])
        untouched is = subst (λ (store : D × D). HasStopped seen may_leave clock left_at room faults old store stored (whole ∷ [])) (sym is) (nothing_given seen may_leave clock left_at room faults db contents old stored ready (whole ∷ []))
    has_stopped stop (inr (inl disk)) same = has_begun
    has_stopped stop (inr (inr full)) same = untouched (same (λ e. cc (e, full.2)))
      where
        untouched : new ≡ old → HasStopped seen may_leave clock left_at room faults old new stored (whole ∷ [])
        untouched is = subst (λ (store : D × D). HasStopped seen may_leave clock left_at room faults old store stored (whole ∷ [])) (sym is) (nothing_given seen may_leave clock left_at room faults db contents old stored ready (whole ∷ []))
