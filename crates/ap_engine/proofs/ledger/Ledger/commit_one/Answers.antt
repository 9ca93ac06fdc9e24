use Rattle.std.proofs.Common.{◌≡◌, [], ◌∷◌, true}
use Rattle.ap_content.specs.Entries.{Stands}
use Rattle.ap_db.specs.Changes.{Whole}
use Rattle.ap_db.specs.Lawful.{is_lawful}
use Rattle.ap_db.specs.Listed.{AreAll}
use Rattle.ap_db.specs.Said.{ItemIs}
use Rattle.ap_db.specs.Stored.{Stored}
use Rattle.ap_db.specs.WholeItems.{items_of}
use Rattle.ap_engine.specs.Ledgers.{IsReady, HasStopped}
use Rattle.ap_engine.proofs.Following.{nothing_given}
use Rattle.ap_engine.proofs.Outcomes.{on_err}
use Rattle.ap_engine.proofs.ledger.Ledger.commit_one.Goals as goal

pub returns-in_err-change-clause-stopped : goal.returns-in_err-change-clause-stopped
returns-in_err-change-clause-stopped g c =
    let d = g.D.Disk in
    let db = c.args.self.now.db in
    let contents = c.args.self.now.contents in
    let store = c.args.store.now in
    on_err c.from_residual.result
    ((stored : Stored) → IsReady d.seen d.may_leave d.room db contents store stored → (whole : Whole) → AreAll (ItemIs (Stands contents)) (c.args.item ∷ []) (items_of stored.tables whole) → is_lawful stored (items_of stored.tables whole) ≡ true
    → HasStopped d.seen d.may_leave d.clock d.left_at d.room d.faults store store stored (whole ∷ []))
    (λ stop failed stored ready whole says lawful. nothing_given d.seen d.may_leave d.clock d.left_at d.room d.faults db contents store stored ready (whole ∷ []))
