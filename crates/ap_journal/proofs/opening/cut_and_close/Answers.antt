use Rattle.std.proofs.Common.{◌≡◌, ℕ, ◌+◌, ◌<◌, List, length, take, IfSome, sym, ◌∙◌, ap, subst, arith}
use Rattle.ap_disk.specs.Crashes.{Shortened}
use Rattle.ap_disk.specs.Calls.{TellsAs}
use Rattle.ap_journal.specs.Records.{end_of, IsSameStore}
use Rattle.ap_journal.specs.Changes.{with_byte, HasSomeByteAt, IsCleaned, EndsAt}
use Rattle.ap_journal.specs.Between.{and_on, more}
use Rattle.ap_journal.specs.Told.{two, back, across, on_ok}
use Rattle.ap_journal.proofs.Committing.{cut_behind, gate_behind, cleaned}
use Rattle.ap_journal.proofs.opening.cut_and_close.Goals as goal

-- what these facts give of one file
cut_same : (end size : ℕ) (old c : List ℕ) → EndsAt end size old → Shortened (end + 1) old c → IsSameStore old c
cut_same end size old c is cut =
    let before : end_of old < length old = omega (arith, is.ends, is.long, is.before) in
    cut_behind old (omega (arith, before)) c before (subst (λ (n : ℕ). Shortened (n + 1) old c) is.ends cut)

byte_same : (end size : ℕ) (old cut c : List ℕ) → EndsAt end size old → cut ≡ take (end + 1) old → HasSomeByteAt cut end c → IsSameStore old c
byte_same end size old cut c is was has =
    let before : end_of old < length old = omega (arith, is.ends, is.long, is.before) in
    gate_behind old (omega (arith, before)) cut c before (was ∙ ap (λ (n : ℕ). take (n + 1) old) is.ends) (subst (λ (n : ℕ). HasSomeByteAt cut n c) is.ends has)

closed_same : (end size : ℕ) (old cut c : List ℕ) → EndsAt end size old → cut ≡ take (end + 1) old → c ≡ with_byte cut end 0 → IsCleaned (end + 1) old c
closed_same end size old cut c is was has =
    let before : end_of old < length old = omega (arith, is.ends, is.long, is.before) in
    let all = cleaned old (omega (arith, before)) cut c before (was ∙ ap (λ (n : ℕ). take (n + 1) old) is.ends) (has ∙ ap (λ (n : ℕ). with_byte cut n 0) is.ends) is.marked in
    record { rests = all.0; same = all.1; long = all.2 ∙ ap (λ (n : ℕ). n + 1) (sym is.ends) }

pub returns-in_err-cut-clause-steps : goal.returns-in_err-cut-clause-steps
returns-in_err-cut-clause-steps g c =
    let d = g.D.Disk in
    let told = d.seen c.args.store.now.0 in
    let end = c.args.end in
    let size = c.args.size in
    more d.seen d.may_leave d.clock d.left_at d.room d.faults c.args.store.now c.cut.new.store (λ l. IfSome told (λ old. Shortened (end + 1) old l)) (λ l. IfSome told (λ old. IsSameStore old l)) c.cut.ensures.steps
    (λ l cut. two told (EndsAt end size) (λ old. Shortened (end + 1) old l) (λ old. IsSameStore old l) c.requires.file cut (λ old is short. cut_same end size old l is short))

pub returns-clause-cleaned : goal.returns-clause-cleaned
returns-clause-cleaned g c =
    let d = g.D.Disk in
    let old = d.seen c.args.store.now.0 in
    let mid = d.seen c.cut.new.store.0 in
    let new = d.seen c.set_byte.new.store.0 in
    let end = c.args.end in
    let size = c.args.size in
    on_ok c.set_byte.result (TellsAs mid new (λ x y. y ≡ with_byte x end 0)) (TellsAs old new (IsCleaned (end + 1))) c.set_byte.ensures.written
    (λ written. across old mid new (EndsAt end size) (λ x y. y ≡ take (end + 1) x) (λ y z. z ≡ with_byte y end 0) (IsCleaned (end + 1)) c.requires.file c.in_ok-cut.ensures.written written
    (λ x y z is was has. closed_same end size x y z is was has))

pub returns-clause-steps : goal.returns-clause-steps
returns-clause-steps g c =
    let d = g.D.Disk in
    let told = d.seen c.args.store.now.0 in
    let mid = d.seen c.cut.new.store.0 in
    let end = c.args.end in
    let size = c.args.size in
    let P : List ℕ → Type 0 = λ l. IfSome told (λ old. IsSameStore old l) in
    and_on d.seen d.may_leave d.clock d.left_at d.room d.faults c.args.store.now c.cut.new.store c.set_byte.new.store (λ l. IfSome told (λ old. Shortened (end + 1) old l)) (λ l. IfSome mid (λ x. HasSomeByteAt x end l)) P c.cut.ensures.steps c.set_byte.ensures.steps
    (λ l cut. two told (EndsAt end size) (λ old. Shortened (end + 1) old l) (λ old. IsSameStore old l) c.requires.file cut (λ old is short. cut_same end size old l is short))
    (λ l has. back told mid (EndsAt end size) (λ x y. y ≡ take (end + 1) x) (λ y. HasSomeByteAt y end l) (λ old. IsSameStore old l) c.requires.file c.in_ok-cut.ensures.written has
    (λ x y is was some. byte_same end size x y l is was some))
