use Rattle.std.proofs.Common.{◌≡◌, ℕ, ◌+◌, ◌≤◌, ◌<◌, List, Some, None, length, take, drop, IfSome, sym, ◌∙◌, ap, subst, arith}
use Rattle.std.specs.Prelude.{Option}
use Rattle.ap_journal.specs.Records.{record_at}
use Rattle.ap_journal.specs.State.{IsPlace, length_of}
use Rattle.ap_journal.specs.Told.{every, two}
use Rattle.ap_journal.proofs.Places.{none_in_header, payload_at}
use Rattle.ap_journal.proofs.journal.read_record.Goals as goal

pub returns-then-at-lt-FIRST-clause-found : goal.returns-then-at-lt-FIRST-clause-found
returns-then-at-lt-FIRST-clause-found g c =
    every (g.D.Disk.seen c.args.store.now.0) (λ file. length file ≡ c.args.size → IsPlace file c.args.place → None ≡ record_at file c.args.at) (λ file long is. sym (none_in_header file c.args.at c.if-at-lt-FIRST.true))

-- the length, the bytes and the place behind them are the record
is_record : (file : List ℕ) (at count size : ℕ) (payload : List ℕ) → length file ≡ size → at + (5 + count) < size → Some count ≡ length_of (record_at file at)
    → (at + 5 + count ≤ length file → Some payload ≡ Some (take count (drop (at + 5) file))) → Some (payload, at + 5 + count) ≡ record_at file at
is_record file at count size payload long fits said bytes =
    let same : payload ≡ take count (drop (at + 5) file) = cc (bytes (omega (arith, long, fits))) in
    ap (λ (l : List ℕ). Some (l, at + 5 + count)) same ∙ sym (payload_at file at count said)

pub returns-clause-found : goal.returns-clause-found
returns-clause-found g c =
    let told = g.D.Disk.seen c.args.store.now.0 in
    let at = c.args.at in
    let size = c.args.size in
    let count = c.in-Some.count in
    let payload = c.in-Some-2.payload in
    let fits : at + (5 + count) < size = subst (λ (o : Option ℕ). IfSome o (λ n. at + (5 + n) < size)) c.in-Some.is c.in_ok-count.ensures.fits in
    let Length : List ℕ → Type 0 = λ file. length file ≡ size → IsPlace file c.nearest-from.result → Some count ≡ length_of (record_at file at) in
    let Bytes : List ℕ → Type 0 = λ file. at + 5 + count ≤ length file → Some payload ≡ Some (take count (drop (at + 5) file)) in
    let said : IfSome told Length = subst (λ (o : Option ℕ). IfSome told (λ file. length file ≡ size → IsPlace file c.nearest-from.result → o ≡ length_of (record_at file at))) c.in-Some.is c.in_ok-count.ensures.found in
    let raw : IfSome (g.D.Disk.seen c.length_at.new.store.0) Bytes = subst (λ (o : Option (List ℕ)). IfSome (g.D.Disk.seen c.length_at.new.store.0) (λ file. at + 5 + count ≤ length file → o ≡ Some (take count (drop (at + 5) file)))) c.in-Some-2.is c.in_ok-payload.ensures.bytes in
    let bytes = subst (λ (o : Option (List ℕ)). IfSome o Bytes) c.length_at.ensures.seen raw in
    two told Length Bytes (λ file. length file ≡ size → IsPlace file c.args.place → Some (payload, at + 5 + count) ≡ record_at file at) said bytes
    (λ file says has long from. is_record file at count size payload long fits (says long (c.nearest-from.ensures.place file from)) has)
