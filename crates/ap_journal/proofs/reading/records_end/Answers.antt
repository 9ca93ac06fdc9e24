use Rattle.std.proofs.Common.{◌≡◌, ◌<◌, inr, ◌+◌, ℕ, List, None, length, drop, IfSome, sym, ◌∙◌, ap, subst, arith}
use Rattle.std.specs.Prelude.{Option}
use Rattle.ap_journal.specs.Records.{first_record, end_of, size_of}
use Rattle.ap_journal.specs.State.{IsPlace, length_of}
use Rattle.ap_journal.specs.Between.{and_on}
use Rattle.ap_journal.proofs.Laid.{nothing_stands}
use Rattle.ap_journal.specs.Told.{every, two, not_some}
use Rattle.ap_journal.proofs.Places.{next_place, last_place}
use Rattle.ap_journal.proofs.reading.records_end.Goals as goal

pub returns-then-size-le-FIRST-clause-end : goal.returns-then-size-le-FIRST-clause-end
returns-then-size-le-FIRST-clause-end g c =
    let A : List ℕ → Type 0 = λ file. length file ≡ c.args.size → 16 ≡ end_of file in
    let all : (file : List ℕ) → A file = λ file long. sym (ap (λ (l : List (List ℕ)). 16 + size_of l) (nothing_stands file (omega (arith, long, c.if-size-le-FIRST.true)))) in
    every (g.D.Disk.seen c.args.store.now.0) A all

pub loop-next-preserved : goal.loop-next-preserved
loop-next-preserved g c =
    let d = g.D.Disk in
    let loop = c.loop-next.invariant in
    let told = d.seen c.args.store.now.0 in
    let size = c.args.size in
    let end = c.loop-next.end in
    let next = end + (5 + c.in-Some.length) in
    let count = c.in-Some.length in
    let fits : end + (5 + count) < size = subst (λ (o : Option ℕ). IfSome o (λ n. end + (5 + n) < size)) c.in-Some.is loop.next_fits in
    let Place : ℕ → List ℕ → Type 0 = λ at bytes. length bytes ≡ size → IsPlace bytes at in
    let Says : Option ℕ → ℕ → List ℕ → Type 0 = λ found at bytes. length bytes ≡ size → found ≡ length_of (first_record (drop at bytes)) in
    let place = two told (Place end) (Says c.loop-next.next end) (Place next) loop.place loop.says
    (λ bytes is said long. next_place bytes end count (is long) (sym c.in-Some.is ∙ said long)) in
    let says = subst (λ (o : Option (List ℕ)). IfSome o (Says c.in_ok-next-2.next next)) loop.seen c.in_ok-next-2.ensures.found in
    let read = and_on d.seen d.may_leave d.clock d.left_at d.room d.faults c.args.store.now c.loop-next.store c.payload_length-in-Some.new.store (d.may_leave c.args.store.now.0) (d.may_leave c.loop-next.store.0) (d.may_leave c.args.store.now.0)
    loop.steps c.payload_length-in-Some.ensures.steps (λ l left. left) loop.steps.crash in
    record {
      least = omega (arith, loop.least);
      fits = inr fits;
      inside = omega (arith, fits);
      next_fits = c.in_ok-next-2.ensures.fits;
      place = place;
      says = says;
      seen = c.payload_length-in-Some.ensures.seen ∙ loop.seen;
      steps = read;
    }

pub returns-clause-end : goal.returns-clause-end
returns-clause-end g c =
    let loop = c.loop-next.invariant in
    let told = g.D.Disk.seen c.args.store.now.0 in
    let size = c.args.size in
    let end = c.loop-next.end in
    let nothing : c.loop-next.next ≡ None = not_some c.loop-next.next c.in_default.not-Some in
    two told (λ bytes. length bytes ≡ size → IsPlace bytes end) (λ bytes. length bytes ≡ size → c.loop-next.next ≡ length_of (first_record (drop end bytes))) (λ bytes. length bytes ≡ size → end ≡ end_of bytes)
    loop.place loop.says (λ bytes is said long. last_place bytes end (is long) (sym nothing ∙ said long))
