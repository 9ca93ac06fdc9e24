use Rattle.std.proofs.Common.{◌≡◌, ◌≢◌, ◌⊎◌, inl, inr, ◌<◌, ◌+◌, ℕ, List, [], ◌∷◌, true, false, length, subst}
use Rattle.ap_content.specs.Entries.{Stands}
use Rattle.ap_content.specs.declared.node.Number.{Number}
use Rattle.ap_disk.specs.Calls.{TellsAs}
use Rattle.ap_disk.specs.Crashes.{Only}
use Rattle.ap_rows.specs.Spelling.{spelled}
use Rattle.ap_db.specs.declared.fault.DbFault.{DbFault}
use Rattle.ap_db.specs.declared.fault.DbFault.TheVariants.{OutOfMemory, DiskFault, StoreFull}
use Rattle.ap_db.specs.Changes.{Whole}
use Rattle.ap_db.specs.Commit.{PlainItem, commit_items, after_commit}
use Rattle.ap_db.specs.Databases.{IsDbOf, IsChangeOf}
use Rattle.ap_db.specs.Faults.{commit_refusal, IsRefusedFor}
use Rattle.ap_db.specs.Lawful.{is_lawful}
use Rattle.ap_db.specs.Listed.{AreAll}
use Rattle.ap_db.specs.Planned.{AreHeldBeside}
use Rattle.ap_db.specs.Said.{ItemIs}
use Rattle.ap_db.specs.Stored.{Stored}
use Rattle.ap_db.specs.WholeItems.{items_of}
use Rattle.ap_engine.specs.Ledgers.{IsReady, HasCommitted, HasStopped}
use Rattle.ap_engine.proofs.Acknowledging.{stay_held, refused, db_of, has_committed, has_stopped}
use Rattle.ap_engine.proofs.Outcomes.{on_five, if_err, err_of, on_err}
use Rattle.ap_engine.proofs.ledger.Ledger.commit.Goals as goal

pub commit-requires : goal.commit-requires
commit-requires g c =
    let d = g.D.Disk in
    let r = c.requires in
    (db_of d.seen d.may_leave d.clock d.left_at d.room d.faults c.args.self.now.db c.args.self.now.contents c.args.store.now r.0 r.1, items_of r.0.tables r.2, (r.3, r.4))

pub returns-clause-committed : goal.returns-clause-committed
returns-clause-committed g c =
    let d = g.D.Disk in
    let db = c.args.self.now.db in
    let contents = c.args.self.now.contents in
    let store = c.args.store.now in
    let db' = c.commit.new.self in
    let contents' = c.commit.new.contents in
    let store' = c.commit.new.store in
    let e = c.commit.ensures in
    on_five c.commit.result
    ((is : IsDbOf d.seen d.may_leave d.room db contents store) (plain : List PlainItem) → IsChangeOf contents is.stored c.args.change.now.items plain → (next : IsDbOf d.seen d.may_leave d.room db' contents' store') × (next.stored ≡ after_commit is.stored plain))
    (db'.journal.spent ≡ false)
    ((others : Number → ℕ) → ((m : Number) → others m < 18446744073709551614) → AreHeldBeside others db.state.things.items contents → AreHeldBeside others db'.state.things.items contents')
    (TellsAs (d.seen store.0) (d.seen store'.0) (λ _ _. Unit {0}))
    (Only (d.seen store'.0) (d.may_leave store'.0))
    ((stored : Stored) → IsReady d.seen d.may_leave d.room db contents store stored → (whole : Whole) → AreAll (ItemIs (Stands contents)) c.args.change.now.items (items_of stored.tables whole) → is_lawful stored (items_of stored.tables whole) ≡ true
    → HasCommitted d.seen d.may_leave d.clock d.left_at d.room d.faults db contents db' contents' store store' stored (whole ∷ []))
    e.committed e.unspent e.holds e.told e.durable
    (λ next unspent holds told only stored ready whole says lawful.
    let is = db_of d.seen d.may_leave d.clock d.left_at d.room d.faults db contents store stored ready in
    let after = next is (items_of stored.tables whole) (says, lawful) in
    has_committed d.seen d.may_leave d.clock d.left_at d.room d.faults db db' contents contents' store store' stored whole c.args.change.now.items ready lawful
    (e.steps is (items_of stored.tables whole) (says, lawful) ready.unspent) after.0 after.1 unspent (stay_held db db' contents contents' ready.beside.held holds e.keeps) told only e.limit)

pub returns-clause-stopped : goal.returns-clause-stopped
returns-clause-stopped g c =
    let d = g.D.Disk in
    let db = c.args.self.now.db in
    let contents = c.args.self.now.contents in
    let store = c.args.store.now in
    let db' = c.commit.new.self in
    let contents' = c.commit.new.contents in
    let store' = c.commit.new.store in
    let e = c.commit.ensures in
    on_err c.commit.result
    ((stored : Stored) → IsReady d.seen d.may_leave d.room db contents store stored → (whole : Whole) → AreAll (ItemIs (Stands contents)) c.args.change.now.items (items_of stored.tables whole) → is_lawful stored (items_of stored.tables whole) ≡ true
    → HasStopped d.seen d.may_leave d.clock d.left_at d.room d.faults store store' stored (whole ∷ []))
    (λ stop failed stored ready whole says lawful.
    let is = db_of d.seen d.may_leave d.clock d.left_at d.room d.faults db contents store stored ready in
    let why = refused db.journal (length (spelled (commit_items stored (items_of stored.tables whole)))) stop ready.unspent
    (subst (IsRefusedFor {T = Unit {0}} (commit_refusal db.journal (length (spelled (commit_items stored (items_of stored.tables whole)))))) failed (e.refused is (items_of stored.tables whole) (says, lawful))) in
    has_stopped d.seen d.may_leave d.clock d.left_at d.room d.faults db db' contents contents' store store' stored whole c.args.change.now.items ready lawful
    (e.steps is (items_of stored.tables whole) (says, lawful) ready.unspent) stop why (err_of c.commit.result (λ stop. stop ≢ DiskFault → store' ≡ store) stop e.store failed))

pub returns-clause-full : goal.returns-clause-full
returns-clause-full g c =
    let d = g.D.Disk in
    let r = c.requires in
    let db = c.args.self.now.db in
    let e = c.commit.ensures in
    if_err c.commit.result (λ stop. (l w : ℕ) → stop ≡ StoreFull l w → db.journal.limit < l + w)
    (λ stop failed l w is.
    full_of db.journal.limit stop l w is
    (refused db.journal (length (spelled (commit_items r.0 (items_of r.0.tables r.2)))) stop r.1.unspent
    (subst (IsRefusedFor {T = Unit {0}} (commit_refusal db.journal (length (spelled (commit_items r.0 (items_of r.0.tables r.2)))))) failed
    (e.refused (db_of d.seen d.may_leave d.clock d.left_at d.room d.faults db c.args.self.now.contents c.args.store.now r.0 r.1) (items_of r.0.tables r.2) (r.3, r.4)))))
  where
    full_of : (limit : ℕ) (stop : DbFault) (l w : ℕ) → stop ≡ StoreFull l w → (stop ≡ OutOfMemory) ⊎ (stop ≡ DiskFault) ⊎ ((l : ℕ) × (w : ℕ) × (stop ≡ StoreFull l w) × (limit < l + w)) → limit < l + w
    full_of limit stop l w is (inl memory) = absurd (cc (is, memory))
    full_of limit stop l w is (inr (inl disk)) = absurd (cc (is, disk))
    full_of limit stop l w is (inr (inr full)) =
        let long : full.0 ≡ l = cc (is, full.2) in
        let wanted : full.1 ≡ w = cc (is, full.2) in
        subst (λ (n : ℕ). limit < l + n) wanted (subst (λ (n : ℕ). limit < n + full.1) long full.3)

pub returns-clause-only : goal.returns-clause-only
returns-clause-only g c =
    let d = g.D.Disk in
    let r = c.requires in
    let db = c.args.self.now.db in
    let e = c.commit.ensures in
    if_err c.commit.result (λ stop. (stop ≡ OutOfMemory) ⊎ (stop ≡ DiskFault) ⊎ ((l : ℕ) × (w : ℕ) × (stop ≡ StoreFull l w)))
    (λ stop failed.
    only_of db.journal.limit stop
    (refused db.journal (length (spelled (commit_items r.0 (items_of r.0.tables r.2)))) stop r.1.unspent
    (subst (IsRefusedFor {T = Unit {0}} (commit_refusal db.journal (length (spelled (commit_items r.0 (items_of r.0.tables r.2)))))) failed
    (e.refused (db_of d.seen d.may_leave d.clock d.left_at d.room d.faults db c.args.self.now.contents c.args.store.now r.0 r.1) (items_of r.0.tables r.2) (r.3, r.4)))))
  where
    only_of : (limit : ℕ) (stop : DbFault) → (stop ≡ OutOfMemory) ⊎ (stop ≡ DiskFault) ⊎ ((l : ℕ) × (w : ℕ) × (stop ≡ StoreFull l w) × (limit < l + w)) → (stop ≡ OutOfMemory) ⊎ (stop ≡ DiskFault) ⊎ ((l : ℕ) × (w : ℕ) × (stop ≡ StoreFull l w))
    only_of limit stop (inl memory) = inl memory
    only_of limit stop (inr (inl disk)) = inr (inl disk)
    only_of limit stop (inr (inr full)) = inr (inr (full.0, full.1, full.2))
