use Rattle.std.proofs.Common.{◌≡◌, ℕ, false, List, Some, length, IfSome, sym, ◌∙◌, ap, subst, arith}
use Rattle.std.specs.Prelude.{Option}
use Rattle.ap_journal.specs.Records.{record_at}
use Rattle.ap_journal.specs.State.{State, IsPlace, IsFileOf}
use Rattle.ap_journal.specs.Told.{two, still_durable}
use Rattle.ap_journal.proofs.Places.{place_behind}
use Rattle.ap_journal.proofs.journal.Journal.record.Goals as goal

pub returns-in-Ok-Some-clause-is_of : goal.returns-in-Ok-Some-clause-is_of
returns-in-Ok-Some-clause-is_of g c =
    let d = g.D.Disk in
    let old = d.seen c.args.store.now.0 in
    let new = d.seen c.read_record.new.store.0 in
    let at = c.args.at in
    let was = c.args.self.now in
    let view = c.self.view_is in
    let size = c.self.inside.size in
    let cursor = c.self.inside.cursor in
    let next = c.in-Ok-Some.next in
    let payload = c.in-Ok-Some.payload in
    let unspent : was.spent ≡ false = sym (ap (λ (s : State). s.spent) view) ∙ c.if-self.false in
    let limit = ap (λ (s : State). s.limit) view in
    let journal : State = record { size = size; limit = c.self.inside.limit; reserved = _; spent = c.self.inside.is_spent; cursor = cursor } in
    let file : IfSome old (IsFileOf journal) = subst (λ (s : State). IfSome old (IsFileOf s)) (sym view) (c.requires.file unspent) in
    let Found : List ℕ → Type 0 = λ f. length f ≡ size → IsPlace f cursor → Some (payload, next) ≡ record_at f at in
    let found : IfSome old Found = subst (λ o. IfSome old (λ f. length f ≡ size → IsPlace f cursor → o ≡ record_at f at)) c.in-Ok-Some.field-0-is c.in-Ok-Some.ensures.found in
    let moved = two old (IsFileOf journal) Found (IsFileOf (record journal { cursor = next })) file found
    (λ f is read. record { rests = is.rests; size = is.size; place = place_behind f at payload next (sym (read is.size is.place)) }) in
    record {
      fits = omega (arith, c.requires.fits, c.read_record.ensures.steps.same_room, limit);
      durable = λ _. still_durable old new (d.may_leave c.args.store.now.0) (d.may_leave c.read_record.new.store.0) c.read_record.ensures.seen (c.requires.durable unspent) c.read_record.ensures.steps.crash;
      file = λ _. subst (λ (o : Option (List ℕ)). IfSome o (IsFileOf (record journal { cursor = next }))) (sym c.read_record.ensures.seen) moved;
    }
