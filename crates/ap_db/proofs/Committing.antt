-- A commit whose record was written, and one that was taken back.
use Rattle.std.proofs.Common.{◌≡◌, ◌≤◌, ◌<◌, ◌+◌, ◌⊎◌, inl, inr, ℕ, Bool, true, false, ◌||◌, cond, List, [], ◌∷◌, ◌++◌, length, Option, Some, None, Ok, refl, sym, ◌∙◌, ap, subst, arith}
use Rattle.std.specs.Prelude.{IfSome, IsSome, is_some}
use Rattle.std.specs.List.{AllByRecursion}
use Rattle.ap_disk.specs.Calls.{TellsAs}
use Rattle.ap_journal.specs.Between.{more}
use Rattle.ap_journal.specs.Moments.{Steps}
use Rattle.ap_journal.specs.Records.{standing, has_bad_header, IsStoreOf}
use Rattle.ap_journal.specs.State.{State as JournalState, IsFileOf, IsOf}
use Rattle.ap_journal.specs.Told.{one, two, onto}
use Rattle.ap_content.specs.Things.{Thing}
use Rattle.ap_content.specs.Entries.{Entry, Stands, holds_at}
use Rattle.ap_content.specs.declared.node.Number.{Number}
use Rattle.ap_rows.specs.declared.change.Item.{Item}
use Rattle.ap_rows.specs.Folded.{are_folded}
use Rattle.ap_rows.specs.Grammar.{decoded}
use Rattle.ap_rows.specs.Spelling.{spelled}
use Rattle.ap_db.specs.declared.db.Db.{Db}
use Rattle.ap_db.specs.declared.drops.Dropped.{Dropped}
use Rattle.ap_db.specs.declared.fault.DbFault.{DbFault}
use Rattle.ap_db.specs.declared.fault.DbFault.TheVariants.{OutOfMemory, DiskFault, BadStore, StoreFull, Spent}
use Rattle.ap_db.specs.declared.plan.Plan.{Plan}
use Rattle.ap_db.specs.declared.state.State.{State}
use Rattle.ap_db.specs.declared.things.FileThing.{FileThing}
use Rattle.ap_db.specs.Same.{same_thing, is_among}
use Rattle.ap_db.specs.Stored.{Stored, named_things, stored_in}
use Rattle.ap_db.specs.Commit.{PlainItem, new_things, commit_items, after_commit}
use Rattle.ap_db.specs.CommitLaw.{commit_law}
use Rattle.ap_db.specs.FoldedKeys.{file_has_folded_keys, commit_is_folded, committed_file}
use Rattle.ap_db.specs.Lawful.{is_lawful}
use Rattle.ap_db.specs.NamedLaws.{unnamed_unreached}
use Rattle.ap_db.specs.PayloadLaws.{same_records}
use Rattle.ap_db.specs.Recording.{HasRecord}
use Rattle.ap_db.specs.Listed.{AreAll}
use Rattle.ap_db.specs.Said.{ItemIs}
use Rattle.ap_db.specs.States.{StandsFor, file_thing, AreHeld}
use Rattle.ap_db.specs.WellStored.{IsWellStored}
use Rattle.ap_db.specs.Databases.{IsDbOf, IsChangeOf, IsBeforeOrAfter}
use Rattle.ap_db.specs.Defined.{CanBeCommitted}
use Rattle.ap_db.specs.Planned.{HasSwept, IsPlanned, IsSettled, AreHeldBeside}
use Rattle.ap_db.specs.TakenOut.{AreCandidates}
use Rattle.ap_db.proofs.Dropping.{not_one_of}
use Rattle.ap_db.proofs.OpeningOn.{good_of}
use Rattle.ap_db.proofs.Unplanning.{names_again}

-- ---- the journal

-- a journal that took more memory is of the same file
pub with_room : {D : Type 0} (seen : D → Option (List ℕ)) (may_leave : D → List ℕ → Type 0) (room : D → ℕ) (j : JournalState) (r : ℕ) (store : D × D) → IsOf seen may_leave room j store
    → IsOf seen may_leave room (record { size = j.size; limit = j.limit; reserved = r; spent = j.spent; cursor = j.cursor }) store
with_room seen may_leave room j r store is = record {
  fits = is.fits;
  durable = is.durable;
  file = λ unspent. one (seen store.0) (IsFileOf j) (IsFileOf (record { size = j.size; limit = j.limit; reserved = r; spent = j.spent; cursor = j.cursor }))
      (is.file unspent) (λ file h. record { rests = h.rests; size = h.size; place = h.place });
}

-- what was told is told again
pub told_on : {X : Type 0} (old new : Option X) (R : X → X → Type 0) → TellsAs old new R → TellsAs old new (λ _ _. Unit {0})
told_on None None R told = tt
told_on None (Some new) R told = told
told_on (Some old) None R told = told
told_on (Some old) (Some new) R told = tt

-- one that isn't spent wasn't
pub wasnt_spent : (spent : Bool) → (spent ≡ true → ⊥) → spent ≡ false
wasnt_spent true never = absurd (never refl)
wasnt_spent false never = refl

-- ---- files

module _ (stored : Stored) (plain : List PlainItem) (lawful : is_lawful stored plain ≡ true) (written : List Item) (are : written ≡ commit_items stored plain) where
  after_record : (old new : List ℕ) → stored_in old ≡ Ok stored → has_bad_header new ≡ false → standing new ≡ standing old ++ spelled written ∷ [] → (are_folded written ≡ true → decoded (spelled written) ≡ Ok written)
      → stored_in new ≡ Ok (after_commit stored plain)
  after_record old new e good stands reads =
      let folded : are_folded written ≡ true = ap are_folded are ∙ commit_is_folded stored plain lawful (file_has_folded_keys old stored e) in
      committed_file old new (spelled written) stored plain e lawful (reads folded ∙ ap (λ (l : List Item). Ok l) are) good stands

  before_or_after : (old c : List ℕ) → stored_in old ≡ Ok stored → IsStoreOf (standing old) c ⊎ HasRecord written old c → IsBeforeOrAfter stored plain c
  before_or_after old c e (inl s) = inl (same_records old c stored e s.header s.stands_for)
  before_or_after old c e (inr h) = inr (after_record old c e h.stands.header h.stands.stands_for h.reads)

  -- each image is one from before or after
  pub steps_through : {D : Type 0} (seen : D → Option (List ℕ)) (may_leave : D → List ℕ → Type 0) (clock : D → Option ℕ) (left_at : D → ℕ → List ℕ → Type 0) (room faults : D → ℕ) (old new : D × D)
      → IfSome (seen old.0) (λ file. stored_in file ≡ Ok stored)
      → Steps seen may_leave clock left_at room faults old new (λ c. IfSome (seen old.0) (λ o. IsStoreOf (standing o) c ⊎ HasRecord written o c))
      → Steps seen may_leave clock left_at room faults old new (λ c. IfSome (seen old.0) (λ _. IsBeforeOrAfter stored plain c))
  steps_through seen may_leave clock left_at room faults old new file steps =
      more seen may_leave clock left_at room faults old new (λ c. IfSome (seen old.0) (λ o. IsStoreOf (standing o) c ⊎ HasRecord written o c)) (λ c. IfSome (seen old.0) (λ _. IsBeforeOrAfter stored plain c)) steps
      (λ c left. two (seen old.0) (λ o. stored_in o ≡ Ok stored) (λ o. IsStoreOf (standing o) c ⊎ HasRecord written o c) (λ _. IsBeforeOrAfter stored plain c) file left (λ o e p. before_or_after o c e p))

  -- the file has what is stored after the commit
  pub file_after : (old new : Option (List ℕ)) (j : JournalState) → IfSome old (λ file. stored_in file ≡ Ok stored) → IfSome new (IsFileOf j) → TellsAs old new (λ o n. standing n ≡ standing o ++ spelled written ∷ [])
      → (are_folded written ≡ true → decoded (spelled written) ≡ Ok written) → IfSome new (λ file. stored_in file ≡ Ok (after_commit stored plain))
  file_after old new j file is records reads =
      two new (λ n. (o : List ℕ) × (stored_in o ≡ Ok stored) × (standing n ≡ standing o ++ spelled written ∷ [])) (λ n. has_bad_header n ≡ false) (λ n. stored_in n ≡ Ok (after_commit stored plain))
      (onto old new (λ o. stored_in o ≡ Ok stored) (λ o n. standing n ≡ standing o ++ spelled written ∷ []) (λ n. (o : List ℕ) × (stored_in o ≡ Ok stored) × (standing n ≡ standing o ++ spelled written ∷ [])) file records (λ o n e s. (o, e, s)))
      (good_of new j is)
      (λ n from good. after_record from.0 n from.1 good from.2 reads)

-- ---- holds

pub beside_none : (things : List (Option FileThing)) (contents : List (Option Entry)) → AreHeld things contents → AreHeldBeside (λ _. 0) things contents
beside_none things contents held = λ m. step m (file_thing things m) refl
  where
    step : (m : Number) (o : Option FileThing) → file_thing things m ≡ o → 0 + cond (is_some (file_thing things m)) 1 0 ≤ holds_at contents m
    step m None e = subst (λ o. 0 + cond (is_some o) 1 0 ≤ holds_at contents m) (sym e) (omega arith)
    step m (Some t) e = subst (λ o. 0 + cond (is_some o) 1 0 ≤ holds_at contents m) (sym e) (let some : 0 < holds_at contents m = held m (subst IsSome (sym e) refl) in omega (arith, some))

pub held_alone : (things : List (Option FileThing)) (contents : List (Option Entry)) → AreHeldBeside (λ _. 0) things contents → AreHeld things contents
held_alone things contents held = λ m some. step m (file_thing things m) refl some
  where
    step : (m : Number) (o : Option FileThing) → file_thing things m ≡ o → IsSome o → 0 < holds_at contents m
    step m None e some = absurd (cc some)
    step m (Some t) e some =
        let least : 0 + 1 ≤ holds_at contents m = subst (λ o. 0 + cond (is_some o) 1 0 ≤ holds_at contents m) e (held m) in
        omega (arith, least)

-- ---- nothing is loose behind a commit

none_among : (x : Thing) (ys : List Thing) → AllByRecursion (λ y. same_thing x y ≡ false) ys → is_among ys x ≡ false
none_among x [] all = refl
none_among x (y ∷ ys) all = ap (λ b. b || is_among ys x) all.0 ∙ none_among x ys all.1

pub nothing_loose : (contents : List (Option Entry)) (stored : Stored) (plain : List PlainItem) (loose : List Number) → IsWellStored stored → is_lawful stored plain ≡ true → AreCandidates contents (after_commit stored plain) loose
nothing_loose contents stored plain loose well lawful = λ x lives none.
    let law = commit_law stored plain well lawful in
    absurd (unnamed_unreached (after_commit stored plain) law.well x (none_among x (named_things (after_commit stored plain)) (not_one_of x (named_things (after_commit stored plain)) none)) (law.only_reached x lives))

-- ---- the parts of a commit

pub to_commit : (contents : List (Option Entry)) (state : State) (stored : Stored) (items said : List Item) (plain : List PlainItem) → items ≡ said → IsWellStored stored → StandsFor state contents stored → IsChangeOf contents stored said plain
    → CanBeCommitted contents state stored items plain
to_commit contents state stored items said plain same well stands change = record {
  well = well;
  stands = stands;
  are = subst (λ (l : List Item). AreAll (ItemIs (Stands contents)) l plain) (sym same) change.0;
  lawful = change.1;
}

pub settled_by : (old new : State) (contents : List (Option Entry)) (stored : Stored) (items : List Item) (plain : List PlainItem) (plan : Plan) (defined : List Number) (dropped : List Dropped) → IsPlanned old new contents stored items plain plan
    → defined ≡ plan.defined.items → dropped ≡ plan.dropped.items → IsSettled old new contents stored plain defined dropped
settled_by old new contents stored items plain plan defined dropped planned d e = record {
  well = planned.takes.well;
  lawful = planned.takes.lawful;
  before = planned.takes.stands;
  new = subst (λ (l : List Number). AreAll (Stands contents) l (new_things stored plain)) (sym d) planned.defined;
  swept = subst (HasSwept new contents stored plain) (sym e) planned.swept;
}

-- two states that stand for one store have the same things to hold
held_again : (s t : State) (contents : List (Option Entry)) (stored : Stored) → StandsFor s contents stored → StandsFor t contents stored → AreHeld s.things.items contents → AreHeld t.things.items contents
held_again s t contents stored a b held = λ m some. step m (file_thing t.things.items m) refl some
  where
    step : (m : Number) (o : Option FileThing) → file_thing t.things.items m ≡ o → IsSome o → 0 < holds_at contents m
    step m None e some = absurd (cc some)
    step m (Some thing) e some =
        let known = b.known m thing e in
        held m (names_again t s contents stored b a m known.value (record { file = subst IsSome (sym e) refl; stands = known.stands })).file

module _ {D : Type 0} (seen : D → Option (List ℕ)) (may_leave : D → List ℕ → Type 0) (room : D → ℕ) (old : Db) (contents : List (Option Entry)) (store : D × D) where
  -- what a commit that failed leaves
  abbrev pub Remains : List Item → Db → List (Option Entry) → D × D → Type 0
  Remains items db contents' store' = (is : IsDbOf seen may_leave room old contents store) (plain : List PlainItem) → IsChangeOf contents is.stored items plain
      → (next : IsDbOf seen may_leave room db contents' store') × (next.stored ≡ is.stored)

  -- a database that stands for the same
  pub remains : (is : IsDbOf seen may_leave room old contents store) (journal : JournalState) (state : State) (store' : D × D) → IsOf seen may_leave room journal store' → journal.limit ≡ old.journal.limit → StandsFor state contents is.stored
      → (journal.spent ≡ false → IfSome (seen store'.0) (λ file. stored_in file ≡ Ok is.stored))
      → (next : IsDbOf seen may_leave room (record { journal = journal; state = state; loose = old.loose; alloc = old.alloc }) contents store') × (next.stored ≡ is.stored)
  remains is journal state store' is_of limit stands file = (
    record {
      stored = is.stored;
      journal = is_of;
      stands = stands;
      held = held_again old.state state contents is.stored is.stands stands is.held;
      well = is.well;
      loose = is.loose;
      bounded = omega (arith, limit, is.bounded);
      file = file;
    },
    refl,
  )

pub disk_or_not : (stop : DbFault) → (stop ≡ DiskFault) ⊎ (stop ≡ DiskFault → ⊥)
disk_or_not OutOfMemory = inr (λ e. absurd (cc e))
disk_or_not DiskFault = inl refl
disk_or_not (BadStore place offset) = inr (λ e. absurd (cc e))
disk_or_not (StoreFull length wanted) = inr (λ e. absurd (cc e))
disk_or_not Spent = inr (λ e. absurd (cc e))
