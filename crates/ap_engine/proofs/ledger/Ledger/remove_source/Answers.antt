use Rattle.std.proofs.Common.{◌≡◌, List, [], ◌∷◌, true, sym, subst}
use Rattle.ap_content.specs.Entries.{Stands}
use Rattle.ap_rows.specs.declared.change.Item.{Item}
use Rattle.ap_db.specs.Lawful.{is_lawful}
use Rattle.ap_db.specs.Listed.{AreAll}
use Rattle.ap_db.specs.Said.{ItemIs}
use Rattle.ap_db.specs.Stored.{Stored}
use Rattle.ap_db.specs.WholeItems.{items_of}
use Rattle.std.specs.Prelude.{IsSome}
use Rattle.ap_db.specs.Changes.{Whole, remove_source, source_row_at}
use Rattle.ap_db.specs.States.{Names}
use Rattle.ap_engine.proofs.Removing.{says_gone}
use Rattle.ap_engine.proofs.WholeLaws.{gone_lawful}
use Rattle.ap_engine.specs.Ledgers.{IsReady, HasCommitted, HasStopped}
use Rattle.ap_engine.proofs.Following.{nothing_given}
use Rattle.ap_engine.proofs.Outcomes.{on_map, err_map, on_err}
use Rattle.ap_engine.proofs.ledger.Ledger.remove_source.Goals as goal

pub returns-in_err-change-clause-stopped : goal.returns-in_err-change-clause-stopped
returns-in_err-change-clause-stopped g c =
    let d = g.D.Disk in
    let db = c.args.self.now.db in
    let contents = c.args.self.now.contents in
    let store = c.args.store.now in
    on_err c.from_residual.result
    ((stored : Stored) → IsReady d.seen d.may_leave d.room db contents store stored → IsSome (source_row_at stored.tables c.args.path.now) → HasStopped d.seen d.may_leave d.clock d.left_at d.room d.faults store store stored (remove_source c.args.path.now ∷ []))
    (λ stop failed stored ready there. nothing_given d.seen d.may_leave d.clock d.left_at d.room d.faults db contents store stored ready (remove_source c.args.path.now ∷ []))

pub commit-requires : goal.commit-requires
commit-requires g c =
    let r = c.requires in
    let db = c.args.self.now.db in
    let contents = c.args.self.now.contents in (
      r.0,
      r.1,
      remove_source c.args.path.now,
      subst (λ (items : List Item). AreAll (ItemIs (Stands contents)) items (items_of r.0.tables (remove_source c.args.path.now))) (sym c.in_ok-change.ensures)
          (says_gone (Stands contents) (Names db.state.things.items contents) r.0.tables db.state.tables.jobs.items r.1.beside.stands.tables.jobs c.args.path.now db.state.tables.creates.items r.1.beside.stands.tables.creates),
      gone_lawful r.0 c.args.path.now r.1.beside.well.rise r.2,
    )

pub returns-clause-committed : goal.returns-clause-committed
returns-clause-committed g c =
    let d = g.D.Disk in
    let db = c.args.self.now.db in
    let contents = c.args.self.now.contents in
    let store = c.args.store.now in
    let db' = c.commit.new.self.db in
    let contents' = c.commit.new.self.contents in
    let store' = c.commit.new.store in
    on_map c.commit.result
    ((stored : Stored) → IsReady d.seen d.may_leave d.room db contents store stored → (whole : Whole) → AreAll (ItemIs (Stands contents)) c.in_ok-change.change.items (items_of stored.tables whole) → is_lawful stored (items_of stored.tables whole) ≡ true
    → HasCommitted d.seen d.may_leave d.clock d.left_at d.room d.faults db contents db' contents' store store' stored (whole ∷ []))
    ((stored : Stored) → IsReady d.seen d.may_leave d.room db contents store stored → IsSome (source_row_at stored.tables c.args.path.now) → HasCommitted d.seen d.may_leave d.clock d.left_at d.room d.faults db contents db' contents' store store' stored (remove_source c.args.path.now ∷ []))
    c.commit.ensures.committed
    (λ all stored ready there. all stored ready (remove_source c.args.path.now)
    (subst (λ (items : List Item). AreAll (ItemIs (Stands contents)) items (items_of stored.tables (remove_source c.args.path.now))) (sym c.in_ok-change.ensures)
    (says_gone (Stands contents) (Names db.state.things.items contents) stored.tables db.state.tables.jobs.items ready.beside.stands.tables.jobs c.args.path.now db.state.tables.creates.items ready.beside.stands.tables.creates))
    (gone_lawful stored c.args.path.now ready.beside.well.rise there))

pub returns-clause-stopped : goal.returns-clause-stopped
returns-clause-stopped g c =
    let d = g.D.Disk in
    let db = c.args.self.now.db in
    let contents = c.args.self.now.contents in
    let store = c.args.store.now in
    let store' = c.commit.new.store in
    err_map c.commit.result
    ((stored : Stored) → IsReady d.seen d.may_leave d.room db contents store stored → (whole : Whole) → AreAll (ItemIs (Stands contents)) c.in_ok-change.change.items (items_of stored.tables whole) → is_lawful stored (items_of stored.tables whole) ≡ true
    → HasStopped d.seen d.may_leave d.clock d.left_at d.room d.faults store store' stored (whole ∷ []))
    ((stored : Stored) → IsReady d.seen d.may_leave d.room db contents store stored → IsSome (source_row_at stored.tables c.args.path.now) → HasStopped d.seen d.may_leave d.clock d.left_at d.room d.faults store store' stored (remove_source c.args.path.now ∷ []))
    c.commit.ensures.stopped
    (λ all stored ready there. all stored ready (remove_source c.args.path.now)
    (subst (λ (items : List Item). AreAll (ItemIs (Stands contents)) items (items_of stored.tables (remove_source c.args.path.now))) (sym c.in_ok-change.ensures)
    (says_gone (Stands contents) (Names db.state.things.items contents) stored.tables db.state.tables.jobs.items ready.beside.stands.tables.jobs c.args.path.now db.state.tables.creates.items ready.beside.stands.tables.creates))
    (gone_lawful stored c.args.path.now ready.beside.well.rise there))
