use Rattle.std.proofs.Common.{◌≡◌, ◌∙◌, ◌++◌, [], ◌∷◌, true, false, List, Ok, Err, ⊎_elim, refl, sym, ap, subst, arith, length}
use Rattle.std.specs.Prelude.{IfSome}
use Rattle.ap_journal.specs.Records.{standing}
use Rattle.ap_journal.specs.State.{State as JournalState, IsOf}
use Rattle.ap_rows.specs.declared.change.Item.{Item}
use Rattle.ap_rows.specs.Spelling.{spelled}
use Rattle.ap_db.specs.CommitLaw.{commit_law}
use Rattle.ap_db.specs.Commit.{after_commit}
use Rattle.ap_db.specs.Faults.{commit_refusal, IsRefusedFor}
use Rattle.ap_db.specs.Stored.{stored_in}
use Rattle.ap_db.specs.TakenOut.{AreCandidates}
use Rattle.ap_db.proofs.Planning.{err_any}
use Rattle.ap_db.proofs.Committing.{told_on, with_room, wasnt_spent, steps_through, file_after, beside_none, held_alone, nothing_loose, to_commit, settled_by, Remains, remains, disk_or_not}
use Rattle.ap_db.proofs.db.Db.commit.Goals as goal

pub returns-in_err-reserve-clause-unchanged : goal.returns-in_err-reserve-clause-unchanged
returns-in_err-reserve-clause-unchanged g c =
    let d = g.D.Disk in
    let k = c.args.contents.now in
    let s = c.args.self.now in
    let same = c.in_err-reserve.ensures.unchanged in
    err_any (Remains d.seen d.may_leave d.room s k c.args.store.now c.args.change.now.items (record { journal = c.reserve.new.self; state = s.state; loose = s.loose; alloc = s.alloc }) k c.args.store.now) c.from_residual.result
    (λ is plain change. remains d.seen d.may_leave d.room s k c.args.store.now is c.reserve.new.self s.state c.args.store.now
    (subst (λ (j : JournalState). IsOf d.seen d.may_leave d.room j c.args.store.now) (sym same) is.journal) (ap (λ (j : JournalState). j.limit) same) is.stands (λ unspent. is.file (sym (ap (λ (j : JournalState). j.spent) same) ∙ unspent)))

pub returns-in_err-plan-clause-unchanged : goal.returns-in_err-plan-clause-unchanged
returns-in_err-plan-clause-unchanged g c =
    let d = g.D.Disk in
    let k = c.args.contents.now in
    let s = c.args.self.now in
    let kept = c.in_ok-reserve.ensures.kept in
    err_any (Remains d.seen d.may_leave d.room s k c.args.store.now c.args.change.now.items (record { journal = c.reserve.new.self; state = c.plan.new.self; loose = s.loose; alloc = s.alloc }) k c.args.store.now) c.from_residual-in_err-plan.result
    (λ is plain change. remains d.seen d.may_leave d.room s k c.args.store.now is c.reserve.new.self c.plan.new.self c.args.store.now
    (subst (λ (j : JournalState). IsOf d.seen d.may_leave d.room j c.args.store.now) (sym kept) (with_room d.seen d.may_leave d.room s.journal c.reserve.new.self.reserved c.args.store.now is.journal)) (ap (λ (j : JournalState). j.limit) kept)
    (c.in_err-plan.ensures.undone is.stored plain (to_commit k s.state is.stored c.as_slice-items.result.now c.args.change.now.items plain c.as_slice-items.ensures is.well is.stands change) (subst (AreCandidates k is.stored) (sym c.deref.ensures.value) is.loose)) (λ unspent. is.file (sym (ap (λ (j : JournalState). j.spent) kept) ∙ unspent)))

pub settle-requires : goal.settle-requires
settle-requires g c =
    let d = g.D.Disk in
    let k = c.args.contents.now in
    let s = c.args.self.now in
    let r = c.requires in
    record { settled = (s.state, r.0.stored, r.1, settled_by s.state c.plan.new.self k r.0.stored c.as_slice-items.result.now r.1 c.in_ok-plan.plan c.deref-in-Ok.result.now c.deref-in-Ok-2.result.now (c.in_ok-plan.ensures.planned r.0.stored r.1 (to_commit k s.state r.0.stored c.as_slice-items.result.now c.args.change.now.items r.1 c.as_slice-items.ensures r.0.well r.0.stands r.2) (subst (AreCandidates k r.0.stored) (sym c.deref.ensures.value) r.0.loose)) c.deref-in-Ok.ensures.value c.deref-in-Ok-2.ensures.value, r.0.held) }

pub unplan-requires : goal.unplan-requires
unplan-requires g c =
    let d = g.D.Disk in
    let k = c.args.contents.now in
    let s = c.args.self.now in
    let r = c.requires in
    (s.state, r.0.stored, r.1, c.in_ok-plan.ensures.planned r.0.stored r.1 (to_commit k s.state r.0.stored c.as_slice-items.result.now c.args.change.now.items r.1 c.as_slice-items.ensures r.0.well r.0.stands r.2) (subst (AreCandidates k r.0.stored) (sym c.deref.ensures.value) r.0.loose))

pub returns-in-Ok-clause-committed : goal.returns-in-Ok-clause-committed
returns-in-Ok-clause-committed g c = λ is plain change.
    let d = g.D.Disk in
    let k = c.args.contents.now in
    let s = c.args.self.now in
    let planned = c.in_ok-plan.ensures.planned is.stored plain (to_commit k s.state is.stored c.as_slice-items.result.now c.args.change.now.items plain c.as_slice-items.ensures is.well is.stands change) (subst (AreCandidates k is.stored) (sym c.deref.ensures.value) is.loose) in
    let settled = settled_by s.state c.plan.new.self k is.stored c.as_slice-items.result.now plain c.in_ok-plan.plan c.deref-in-Ok.result.now c.deref-in-Ok-2.result.now (c.in_ok-plan.ensures.planned is.stored plain (to_commit k s.state is.stored c.as_slice-items.result.now c.args.change.now.items plain c.as_slice-items.ensures is.well is.stands change) (subst (AreCandidates k is.stored) (sym c.deref.ensures.value) is.loose)) c.deref-in-Ok.ensures.value c.deref-in-Ok-2.ensures.value in
    let kept = c.in_ok-reserve.ensures.kept in
    let unspent : s.journal.spent ≡ false = wasnt_spent s.journal.spent (λ e. absurd (cc (c.in_ok-reserve.ensures.spent e))) in (
      record {
        stored = after_commit is.stored plain;
        journal = c.in-Ok.ensures.is_of;
        stands = c.settle.ensures.stands s.state is.stored plain settled is.held;
        held = held_alone c.plan.new.self.things.items c.settle.new.contents (c.settle.ensures.held (λ _. 0) s.state is.stored plain settled (λ m. omega arith) (beside_none s.state.things.items k is.held));
        well = (commit_law is.stored plain is.well change.1).well;
        loose = nothing_loose c.settle.new.contents is.stored plain c.clear.new.self.items is.well change.1;
        bounded = omega (arith, c.in-Ok.ensures.limit, ap (λ (j : JournalState). j.limit) kept, is.bounded);
        file = λ _. file_after is.stored plain change.1 c.in_ok-plan.plan.written.items planned.written (d.seen c.args.store.now.0) (d.seen c.append_change.new.store.0) c.append_change.new.journal (is.file unspent)
            (c.in-Ok.ensures.is_of.file c.in-Ok.ensures.unspent) c.in-Ok.ensures.records c.in-Ok.ensures.reads;
      },
      refl,
    )

pub returns-in-Ok-clause-refused : goal.returns-in-Ok-clause-refused
returns-in-Ok-clause-refused g c = λ is plain change.
    let d = g.D.Disk in
    let k = c.args.contents.now in
    let s = c.args.self.now in
    let planned = c.in_ok-plan.ensures.planned is.stored plain (to_commit k s.state is.stored c.as_slice-items.result.now c.args.change.now.items plain c.as_slice-items.ensures is.well is.stands change) (subst (AreCandidates k is.stored) (sym c.deref.ensures.value) is.loose) in
    subst (λ (l : List Item). IsRefusedFor {T = Unit {0}} (commit_refusal s.journal (length (spelled l))) (Ok tt)) planned.written
    (subst (λ (j : JournalState). IsRefusedFor {T = Unit {0}} (commit_refusal j (length (spelled c.in_ok-plan.plan.written.items))) (Ok tt)) c.in_ok-reserve.ensures.kept c.in-Ok.ensures.refused)

pub returns-in-Ok-clause-told : goal.returns-in-Ok-clause-told
returns-in-Ok-clause-told g c =
    let d = g.D.Disk in
    told_on (d.seen c.args.store.now.0) (d.seen c.append_change.new.store.0) (λ old new. standing new ≡ standing old ++ spelled c.in_ok-plan.plan.written.items ∷ []) c.in-Ok.ensures.records

pub returns-in-Ok-clause-holds : goal.returns-in-Ok-clause-holds
returns-in-Ok-clause-holds g c = λ others bounded held.
    let d = g.D.Disk in
    let k = c.args.contents.now in
    let s = c.args.self.now in
    let r = c.requires in
    c.settle.ensures.held others s.state r.0.stored r.1 (settled_by s.state c.plan.new.self k r.0.stored c.as_slice-items.result.now r.1 c.in_ok-plan.plan c.deref-in-Ok.result.now c.deref-in-Ok-2.result.now (c.in_ok-plan.ensures.planned r.0.stored r.1 (to_commit k s.state r.0.stored c.as_slice-items.result.now c.args.change.now.items r.1 c.as_slice-items.ensures r.0.well r.0.stands r.2) (subst (AreCandidates k r.0.stored) (sym c.deref.ensures.value) r.0.loose)) c.deref-in-Ok.ensures.value c.deref-in-Ok-2.ensures.value) bounded held

pub returns-in-Ok-clause-follow : goal.returns-in-Ok-clause-follow
returns-in-Ok-clause-follow g c = λ is plain change.
    let d = g.D.Disk in
    let k = c.args.contents.now in
    let s = c.args.self.now in
    c.settle.ensures.exact s.state is.stored plain (settled_by s.state c.plan.new.self k is.stored c.as_slice-items.result.now plain c.in_ok-plan.plan c.deref-in-Ok.result.now c.deref-in-Ok-2.result.now (c.in_ok-plan.ensures.planned is.stored plain (to_commit k s.state is.stored c.as_slice-items.result.now c.args.change.now.items plain c.as_slice-items.ensures is.well is.stands change) (subst (AreCandidates k is.stored) (sym c.deref.ensures.value) is.loose)) c.deref-in-Ok.ensures.value c.deref-in-Ok-2.ensures.value)

pub returns-in-Ok-clause-steps : goal.returns-in-Ok-clause-steps
returns-in-Ok-clause-steps g c = λ is plain change unspent.
    let d = g.D.Disk in
    let k = c.args.contents.now in
    let s = c.args.self.now in
    let planned = c.in_ok-plan.ensures.planned is.stored plain (to_commit k s.state is.stored c.as_slice-items.result.now c.args.change.now.items plain c.as_slice-items.ensures is.well is.stands change) (subst (AreCandidates k is.stored) (sym c.deref.ensures.value) is.loose) in
    steps_through is.stored plain change.1 c.in_ok-plan.plan.written.items planned.written d.seen d.may_leave d.clock d.left_at d.room d.faults c.args.store.now c.append_change.new.store (is.file unspent) c.in-Ok.ensures.steps

pub returns-in-Err-clause-unchanged : goal.returns-in-Err-clause-unchanged
returns-in-Err-clause-unchanged g c = λ is plain change.
    let d = g.D.Disk in
    let k = c.args.contents.now in
    let s = c.args.self.now in
    let planned = c.in_ok-plan.ensures.planned is.stored plain (to_commit k s.state is.stored c.as_slice-items.result.now c.args.change.now.items plain c.as_slice-items.ensures is.well is.stands change) (subst (AreCandidates k is.stored) (sym c.deref.ensures.value) is.loose) in
    let kept = c.in_ok-reserve.ensures.kept in
    remains d.seen d.may_leave d.room s k c.args.store.now is c.append_change.new.journal c.unplan.new.self c.append_change.new.store c.in-Err.ensures.is_of (c.in-Err.ensures.limit ∙ ap (λ (j : JournalState). j.limit) kept)
    (c.unplan.ensures s.state is.stored plain planned)
    (λ unspent. ⊎_elim
    (λ disk. let gone : c.append_change.new.journal.spent ≡ true = c.in-Err.ensures.spent (ap Err disk) in absurd (cc (gone, unspent)))
    (λ other.
    let same = c.in-Err.ensures.unchanged other in
    let was : s.journal.spent ≡ false = sym (ap (λ (j : JournalState). j.spent) kept) ∙ sym (ap (λ (j : JournalState). j.spent) same.0) ∙ unspent in
    subst (λ store. IfSome (d.seen store.0) (λ file. stored_in file ≡ Ok is.stored)) (sym same.1) (is.file was))
    (disk_or_not c.in-Err.stop))

pub returns-in-Err-clause-steps : goal.returns-in-Err-clause-steps
returns-in-Err-clause-steps g c = λ is plain change unspent.
    let d = g.D.Disk in
    let k = c.args.contents.now in
    let s = c.args.self.now in
    let planned = c.in_ok-plan.ensures.planned is.stored plain (to_commit k s.state is.stored c.as_slice-items.result.now c.args.change.now.items plain c.as_slice-items.ensures is.well is.stands change) (subst (AreCandidates k is.stored) (sym c.deref.ensures.value) is.loose) in
    steps_through is.stored plain change.1 c.in_ok-plan.plan.written.items planned.written d.seen d.may_leave d.clock d.left_at d.room d.faults c.args.store.now c.append_change.new.store (is.file unspent) c.in-Err.ensures.steps
