use Rattle.std.proofs.Common.{◌≡◌, ℕ, ◌+◌, ◌-◌, ◌≤◌, ◌<◌, Some, IfSome, length, drop, sym, subst}
use Rattle.ap_journal.specs.Records.{first_record}
use Rattle.ap_journal.specs.State.{length_of}
use Rattle.ap_journal.proofs.Heads.{says_few, says_shut, says_beyond, says_whole}
use Rattle.ap_journal.proofs.reading.payload_length.Goals as goal

pub returns-then-count-lt5-clause-found : goal.returns-then-count-lt5-clause-found
returns-then-count-lt5-clause-found g c = says_few (g.D.Disk.seen c.args.store.now.0) c.args.at c.args.size c.in_ok-count.count c.read.new.buf c.in_ok-count.ensures.bytes c.if-count-lt5.true

pub returns-then-gate-ne-OPEN-clause-found : goal.returns-then-gate-ne-OPEN-clause-found
returns-then-gate-ne-OPEN-clause-found g c = says_shut (g.D.Disk.seen c.args.store.now.0) c.args.at c.args.size c.in_ok-count.count c.read.new.buf c.in_ok-count.ensures.bytes c.if-count-lt5.false c.if-gate-ne-OPEN.true

pub returns-then-size-at-clause-found : goal.returns-then-size-at-clause-found
returns-then-size-at-clause-found g c =
    let le = subst (λ (n : ℕ). c.args.size - c.args.at ≤ 5 + n) c.from_be_bytes-length.ensures c.if-size-at.true in
    says_beyond (g.D.Disk.seen c.args.store.now.0) c.args.at c.args.size c.in_ok-count.count c.read.new.buf c.in_ok-count.ensures.bytes c.if-count-lt5.false c.if-gate-ne-OPEN.false le

pub returns-clause-found : goal.returns-clause-found
returns-clause-found g c =
    let lt = subst (λ (n : ℕ). 5 + n < c.args.size - c.args.at) c.from_be_bytes-length.ensures c.if-size-at.false in
    let found = says_whole (g.D.Disk.seen c.args.store.now.0) c.args.at c.args.size c.in_ok-count.count c.read.new.buf c.in_ok-count.ensures.bytes c.if-count-lt5.false c.if-gate-ne-OPEN.false lt in
    subst (λ (n : ℕ). IfSome (g.D.Disk.seen c.args.store.now.0) (λ file. length file ≡ c.args.size → Some n ≡ length_of (first_record (drop c.args.at file)))) (sym c.from_be_bytes-length.ensures) found
