use Rattle.std.proofs.Common.{◌≡◌, ℕ, ◌^◌, ◌<◌, false, List, length, IfSome, sym, ◌∙◌, ap, subst, arith}
use Rattle.ap_disk.specs.Calls.{TellsAs}
use Rattle.ap_journal.specs.Changes.{IsCommitted}
use Rattle.ap_journal.specs.State.{State, IsFileOf}
use Rattle.ap_journal.proofs.Appending.{file_after_commit}
use Rattle.ap_journal.proofs.journal.Journal.append.Goals as goal

pub returns-in_err-fill-clause-memory : goal.returns-in_err-fill-clause-memory
returns-in_err-fill-clause-memory g c is =
    let reserved = ap (λ (s : State). s.reserved) c.self.view_is in
    omega (arith, reserved, c.in_err-fill.ensures.memory)

pub returns-in-Ok-clause-is_of : goal.returns-in-Ok-clause-is_of
returns-in-Ok-clause-is_of g c =
    let d = g.D.Disk in
    let was = c.args.self.now in
    let view = c.self.view_is in
    let unspent : was.spent ≡ false = sym (ap (λ (s : State). s.spent) view) ∙ c.if-self.false in
    let limit = ap (λ (s : State). s.limit) view in
    let size = ap (λ (s : State). s.size) view in
    let fits : length c.args.payload.now < 2 ^ 32 = omega (arith, c.if-wanted-self.false, c.self.inside.bounded) in
    let file = file_after_commit (d.seen c.args.store.now.0) (d.seen c.commit.new.store.0) _ _ c.fill.new.buffer.items c.args.payload.now fits c.in_ok-fill.ensures.frame
    (subst (λ (s : State). IfSome (d.seen c.args.store.now.0) (IsFileOf s)) (sym view) (c.requires.file unspent))
    (subst (λ (l : List ℕ). TellsAs (d.seen c.args.store.now.0) (d.seen c.commit.new.store.0) (IsCommitted l)) c.deref.ensures.value c.in-Ok.ensures.committed) in
    record {
      fits = omega (arith, c.requires.fits, c.commit.ensures.steps.same_room, limit);
      durable = λ unspent. c.in-Ok.ensures.durable;
      file = λ unspent. file;
    }
