use Rattle.std.proofs.Common.{◌≡◌, ◌≤◌, ◌<◌, ◌⊎◌, inl, inr, ◌+◌, ℕ, List, Some, None, length, drop, IfSome, sym, ◌∙◌, ap, subst, arith}
use Rattle.std.specs.Prelude.{Option}
use Rattle.ap_journal.specs.Records.{first_record, record_at}
use Rattle.ap_journal.specs.State.{IsPlace, length_of}
use Rattle.ap_journal.specs.Between.{and_on}
use Rattle.ap_journal.specs.Told.{one, two, where_ok, not_some}
use Rattle.ap_journal.proofs.Places.{next_place, none_past_end, none_here, found_here, passed_here}
use Rattle.ap_journal.proofs.reading.length_at.Goals as goal

pub loop-here-preserved : goal.loop-here-preserved
loop-here-preserved g c =
    let d = g.D.Disk in
    let loop = c.loop-here.invariant in
    let told = d.seen c.args.store.now.0 in
    let size = c.args.size in
    let here = c.loop-here.here in
    let count = c.in-Some.length in
    let next = here + (5 + count) in
    let Place : ℕ → List ℕ → Type 0 = λ at bytes. length bytes ≡ size → IsPlace bytes c.args.place → IsPlace bytes at in
    let Says : List ℕ → Type 0 = λ bytes. length bytes ≡ size → Some count ≡ length_of (first_record (drop here bytes)) in
    let Passed : List ℕ → Type 0 = λ bytes. length bytes ≡ size → IsPlace bytes c.args.place → c.args.at < next → record_at bytes c.args.at ≡ None in
    let raw : IfSome (d.seen c.loop-here.store.0) (λ bytes. length bytes ≡ size → c.in_ok-length.field-0 ≡ length_of (first_record (drop here bytes))) = c.in_ok-length.ensures.found in
    let raw_some = subst (λ (o : Option ℕ). IfSome (d.seen c.loop-here.store.0) (λ bytes. length bytes ≡ size → o ≡ length_of (first_record (drop here bytes)))) c.in-Some.is raw in
    let says = subst (λ (o : Option (List ℕ)). IfSome o Says) loop.seen raw_some in
    let read = and_on d.seen d.may_leave d.clock d.left_at d.room d.faults c.args.store.now c.loop-here.store c.payload_length.new.store (d.may_leave c.args.store.now.0) (d.may_leave c.loop-here.store.0) (d.may_leave c.args.store.now.0)
    loop.steps c.payload_length.ensures.steps (λ l left. left) loop.steps.crash in
    record {
      place = two told (Place here) Says (Place next) loop.place says (λ bytes is said long from. next_place bytes here count (is long from) (said long));
      passed = two told (Place here) Says Passed loop.place says (λ bytes is said long from past. passed_here bytes here count c.args.at (is long from) (said long) c.loop-here-test.true past);
      seen = c.payload_length.ensures.seen ∙ loop.seen;
      steps = read;
    }

pub returns-then-here-size-clause-found : goal.returns-then-here-size-clause-found
returns-then-here-size-clause-found g c =
    let here = c.loop-here.here in
    let Place : List ℕ → Type 0 = λ bytes. length bytes ≡ c.args.size → IsPlace bytes c.args.place → IsPlace bytes here in
    let Nothing : List ℕ → Type 0 = λ bytes. length bytes ≡ c.args.size → IsPlace bytes c.args.place → None ≡ length_of (record_at bytes c.args.at) in
    one (g.D.Disk.seen c.args.store.now.0) Place Nothing c.loop-here.invariant.place
    (λ bytes is long from. none_past_end bytes here c.args.at (is long from) (omega (arith, long, c.if-here-size.true)) (omega (arith, c.loop-here-test.true)))

pub returns-in_default-clause-found : goal.returns-in_default-clause-found
returns-in_default-clause-found g c =
    let here = c.loop-here.here in
    let nothing : c.in_ok-length.field-0 ≡ None = not_some c.in_ok-length.field-0 c.in_default.not-Some in
    let Place : List ℕ → Type 0 = λ bytes. length bytes ≡ c.args.size → IsPlace bytes c.args.place → IsPlace bytes here in
    let Says : List ℕ → Type 0 = λ bytes. length bytes ≡ c.args.size → c.in_ok-length.field-0 ≡ length_of (first_record (drop here bytes)) in
    let Nothing : List ℕ → Type 0 = λ bytes. length bytes ≡ c.args.size → IsPlace bytes c.args.place → None ≡ length_of (record_at bytes c.args.at) in
    let says = subst (λ (o : Option (List ℕ)). IfSome o Says) c.loop-here.invariant.seen c.in_ok-length.ensures.found in
    two (g.D.Disk.seen c.args.store.now.0) Place Says Nothing c.loop-here.invariant.place says
    (λ bytes is said long from. none_here bytes here c.args.at (is long from) (sym nothing ∙ said long) (omega (arith, c.loop-here-test.true)))

pub returns-then-here-at-clause-found : goal.returns-then-here-at-clause-found
returns-then-here-at-clause-found g c =
    let here = c.loop-here.here in
    let P : List ℕ → Type 0 = λ bytes. length bytes ≡ c.args.size → IsPlace bytes c.args.place → IsPlace bytes here in
    let Q : List ℕ → Type 0 = λ bytes. length bytes ≡ c.args.size → IsPlace bytes c.args.place → c.args.at < here → record_at bytes c.args.at ≡ None in
    let Nothing : List ℕ → Type 0 = λ bytes. length bytes ≡ c.args.size → IsPlace bytes c.args.place → None ≡ length_of (record_at bytes c.args.at) in
    two (g.D.Disk.seen c.args.store.now.0) P Q Nothing c.loop-here.invariant.place c.loop-here.invariant.passed
    (λ bytes is passed long from. by_case bytes here c.args.at c.args.size long (is long from) (passed long from) (omega (arith, c.loop-here-test.false)) c.then-here-at.either)
  where
    by_case : (bytes : List ℕ) (here at size : ℕ) → length bytes ≡ size → IsPlace bytes here → (at < here → record_at bytes at ≡ None) → at ≤ here → (at < here) ⊎ ((here ≤ at) × (size < at)) → None ≡ length_of (record_at bytes at)
    by_case bytes here at size long is passed le (inl lt) = sym (ap length_of (passed lt))
    by_case bytes here at size long is passed le (inr past) = none_past_end bytes here at is (omega (arith, long, past.1, past.0, le)) past.0

pub returns-clause-found : goal.returns-clause-found
returns-clause-found g c =
    let told = g.D.Disk.seen c.args.store.now.0 in
    let at = c.args.at in
    let here_at : c.loop-here.here ≡ at = omega (arith, c.loop-here-test.false, c.if-here-at.false) in
    let Place : List ℕ → Type 0 = λ bytes. length bytes ≡ c.args.size → IsPlace bytes c.args.place → IsPlace bytes at in
    let Says : Option ℕ → List ℕ → Type 0 = λ found bytes. length bytes ≡ c.args.size → found ≡ length_of (first_record (drop at bytes)) in
    let Found : Option ℕ → List ℕ → Type 0 = λ found bytes. length bytes ≡ c.args.size → IsPlace bytes c.args.place → found ≡ length_of (record_at bytes at) in
    let place = subst (λ (n : ℕ). IfSome told (λ bytes. length bytes ≡ c.args.size → IsPlace bytes c.args.place → IsPlace bytes n)) here_at c.loop-here.invariant.place in
    where_ok c.payload_length-2.result (λ found. IfSome (g.D.Disk.seen c.loop-here.store.0) (Says found)) (λ found. IfSome told (Found found)) c.payload_length-2.ensures.found
    (λ found said. two told Place (Says found) (Found found) place (subst (λ (o : Option (List ℕ)). IfSome o (Says found)) c.loop-here.invariant.seen said)
    (λ bytes is says long from. found_here bytes at found (is long from) (says long)))
