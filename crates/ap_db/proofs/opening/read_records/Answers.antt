use Rattle.std.proofs.Common.{◌≡◌, ◌<◌, length, ◌+◌, ℕ, List, Option, Some, None, Ok, Err, IfSome, refl, sym, ◌∙◌, ap, subst, arith}
use Rattle.ap_journal.specs.Records.{record_at}
use Rattle.ap_journal.specs.Between.{and_on, stays}
use Rattle.ap_journal.specs.Told.{every, two, not_some}
use Rattle.ap_db.specs.Stored.{nothing_stored, after_payload}
use Rattle.ap_db.specs.Opened.{after_records, HasBadRecord}
use Rattle.ap_db.proofs.RecordByRecord.{HasRead, none_read, read_more, bad_here, all_read}
use Rattle.ap_db.proofs.opening.read_records.Goals as goal

pub loop-payload-init : goal.loop-payload-init
loop-payload-init g c =
    let d = g.D.Disk in
    record {
      is_of = c.requires.is_of;
      fresh = c.requires.fresh;
      limit = refl;
      low = omega arith;
      read = (nothing_stored, c.requires.nothing, every (d.seen c.args.store.now.0) (λ file. HasRead file 16 1 nothing_stored) none_read);
      seen = refl;
      steps = stays d.seen d.may_leave d.clock d.left_at d.room d.faults c.args.store.now (d.may_leave c.args.store.now.0) (λ l left. left);
    }

pub take_payload-requires : goal.take_payload-requires
take_payload-requires g c = (c.loop-payload.invariant.read.0, c.loop-payload.invariant.read.1)

pub returns-in-Err-clause-bad : goal.returns-in-Err-clause-bad
returns-in-Err-clause-bad g c = λ place offset is.
    let told = g.D.Disk.seen c.args.store.now.0 in
    let loop = c.loop-payload.invariant in
    let at = c.loop-payload.at in
    let number = c.loop-payload.number in
    let payload = c.in-Some.payload in
    let next = c.in-Some.next in
    let stored = loop.read.0 in
    let Found : Option (List ℕ × ℕ) → List ℕ → Type 0 = λ found file. found ≡ record_at file at in
    let raw = subst (λ (o : Option (List ℕ × ℕ)). IfSome (g.D.Disk.seen c.loop-payload.store.0) (Found o)) c.in-Some.is c.in_ok-payload.ensures.found in
    let found = subst (λ (o : Option (List ℕ)). IfSome o (Found (Some (payload, next)))) loop.seen raw in
    let fault = c.fault_in.ensures.bad place offset is in
    let bad : after_payload stored payload ≡ Err offset = ap (after_payload stored) (sym c.as_slice.ensures) ∙ c.in-Err.ensures.refused offset fault.0 stored loop.read.1 in
    two told (λ file. HasRead file at number stored) (Found (Some (payload, next))) (HasBadRecord place offset) loop.read.2 found
    (λ file so_far here. bad_here file payload at next number offset stored bad so_far here ∙ ap (λ (k : ℕ). Err (record { place = k; offset = offset })) (sym fault.1))

pub loop-payload-preserved : goal.loop-payload-preserved
loop-payload-preserved g c =
    let d = g.D.Disk in
    let loop = c.loop-payload.invariant in
    let told = d.seen c.args.store.now.0 in
    let at = c.loop-payload.at in
    let number = c.loop-payload.number in
    let payload = c.in-Some.payload in
    let next = c.in-Some.next in
    let stored = loop.read.0 in
    let Found : Option (List ℕ × ℕ) → List ℕ → Type 0 = λ found file. found ≡ record_at file at in
    let raw = subst (λ (o : Option (List ℕ × ℕ)). IfSome (d.seen c.loop-payload.store.0) (Found o)) c.in-Some.is c.in_ok-payload.ensures.found in
    let found = subst (λ (o : Option (List ℕ)). IfSome o (Found (Some (payload, next)))) loop.seen raw in
    let fits = subst (λ (o : Option (List ℕ × ℕ)). IfSome o (λ read. (read.1 ≡ at + (5 + length read.0)) × (read.1 < c.loop-payload.journal.size))) c.in-Some.is c.in_ok-payload.ensures.fits in
    let taken = c.in-Ok.ensures.taken stored loop.read.1 in
    let good : after_payload stored payload ≡ Ok taken.0 = ap (after_payload stored) (sym c.as_slice.ensures) ∙ taken.1 in
    record {
      is_of = c.record.ensures.is_of;
      fresh = c.record.ensures.unspent (λ stop. absurd (cc (stop, c.in_ok-payload.was))) ∙ loop.fresh;
      limit = c.record.ensures.kept.1 ∙ loop.limit;
      low = omega (arith, loop.low, fits.0);
      read = (
        taken.0,
        taken.2,
        two told (λ file. HasRead file at number stored) (Found (Some (payload, next))) (λ file. HasRead file next (number + 1) taken.0) loop.read.2 found
            (λ file so_far here. read_more file payload at next number stored taken.0 good so_far here),
      );
      seen = c.record.ensures.seen ∙ loop.seen;
      steps = and_on d.seen d.may_leave d.clock d.left_at d.room d.faults c.args.store.now c.loop-payload.store c.record.new.store (d.may_leave c.args.store.now.0) (d.may_leave c.loop-payload.store.0) (d.may_leave c.args.store.now.0)
          loop.steps c.record.ensures.steps (λ l left. left) loop.steps.crash;
    }

pub returns-clause-read : goal.returns-clause-read
returns-clause-read g c =
    let told = g.D.Disk.seen c.args.store.now.0 in
    let loop = c.loop-payload.invariant in
    let at = c.loop-payload.at in
    let number = c.loop-payload.number in
    let stored = loop.read.0 in
    let nothing : c.in_ok-payload.field-0 ≡ None = not_some c.in_ok-payload.field-0 c.in_default.not-Some in
    let Found : Option (List ℕ × ℕ) → List ℕ → Type 0 = λ found file. found ≡ record_at file at in
    let raw = subst (λ (o : Option (List ℕ × ℕ)). IfSome (g.D.Disk.seen c.loop-payload.store.0) (Found o)) nothing c.in_ok-payload.ensures.found in
    let found = subst (λ (o : Option (List ℕ)). IfSome o (Found None)) loop.seen raw in (
      stored,
      loop.read.1,
      two told (λ file. HasRead file at number stored) (Found None) (λ file. after_records file ≡ Ok stored) loop.read.2 found (λ file so_far here. all_read file at number stored so_far here),
    )
