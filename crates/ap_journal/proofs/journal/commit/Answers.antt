use Rattle.std.proofs.Common.{◌≡◌, ℕ, ◌-◌, inl, List, ◌++◌, length, IfSome, ◌∙◌, ap, subst, arith}
use Rattle.ap_disk.specs.Calls.{TellsAs}
use Rattle.ap_journal.specs.Records.{end_of, IsAtRest}
use Rattle.ap_journal.specs.Changes.{Extends, with_byte, HasSomeByteAt, IsCommitted, IsWithinCommit, frame}
use Rattle.ap_journal.specs.Between.{and_on, more}
use Rattle.ap_journal.specs.Told.{two, back, across, on_ok}
use Rattle.ap_journal.proofs.Committing.{rest_length, behind_gate, at_gate, committed}
use Rattle.ap_journal.proofs.journal.commit.Goals as goal

abbrev AtGate : ℕ → List ℕ → Type 0
AtGate size old = IsAtRest old × (length old ≡ size)

gate_is : (size : ℕ) (old : List ℕ) → AtGate size old → size - 1 ≡ end_of old
gate_is size old is = omega (arith, is.1, rest_length old is.0)

staging : (size : ℕ) (bytes old c : List ℕ) → AtGate size old → Extends old (length bytes) c → IsWithinCommit bytes c old
staging size bytes old c is more = λ payload fits framed. inl (behind_gate old is.0 (length bytes) c more)

gating : (size : ℕ) (bytes old staged c : List ℕ) → AtGate size old → staged ≡ old ++ bytes → HasSomeByteAt staged (size - 1) c → IsWithinCommit bytes c old
gating size bytes old staged c is added has = λ payload fits framed.
    at_gate old is.0 payload fits c (subst (λ (n : ℕ). HasSomeByteAt (old ++ frame payload) n c) (gate_is size old is) (subst (λ (l : List ℕ). HasSomeByteAt l (size - 1) c) (added ∙ ap (λ (l : List ℕ). old ++ l) framed) has))

done : (size : ℕ) (bytes old staged c : List ℕ) → AtGate size old → staged ≡ old ++ bytes → c ≡ with_byte staged (size - 1) 1 → IsCommitted bytes old c
done size bytes old staged c is added has = λ payload fits framed.
    committed old is.0 payload fits c (has ∙ ap (λ (l : List ℕ). with_byte l (size - 1) 1) (added ∙ ap (λ (l : List ℕ). old ++ l) framed) ∙ ap (λ (n : ℕ). with_byte (old ++ frame payload) n 1) (gate_is size old is))

pub returns-in_err-extend-clause-steps : goal.returns-in_err-extend-clause-steps
returns-in_err-extend-clause-steps g c =
    let d = g.D.Disk in
    let told = d.seen c.args.store.now.0 in
    let bytes = c.args.bytes.now in
    let size = c.args.size in
    more d.seen d.may_leave d.clock d.left_at d.room d.faults c.args.store.now c.extend.new.store (λ l. IfSome told (λ old. Extends old (length bytes) l)) (λ l. IfSome told (IsWithinCommit bytes l)) c.extend.ensures.steps
    (λ l added. two told (AtGate size) (λ old. Extends old (length bytes) l) (IsWithinCommit bytes l) c.requires.file added (λ old is begun. staging size bytes old l is begun))

pub returns-clause-committed : goal.returns-clause-committed
returns-clause-committed g c =
    let d = g.D.Disk in
    let old = d.seen c.args.store.now.0 in
    let mid = d.seen c.extend.new.store.0 in
    let new = d.seen c.set_byte.new.store.0 in
    let bytes = c.args.bytes.now in
    let size = c.args.size in
    on_ok c.set_byte.result (TellsAs mid new (λ x y. y ≡ with_byte x (size - 1) 1)) (TellsAs old new (IsCommitted bytes)) c.set_byte.ensures.written
    (λ written. across old mid new (AtGate size) (λ x y. y ≡ x ++ bytes) (λ y z. z ≡ with_byte y (size - 1) 1) (IsCommitted bytes) c.requires.file c.in_ok-extend.ensures.written written
    (λ x y z is added has. done size bytes x y z is added has))

pub returns-clause-steps : goal.returns-clause-steps
returns-clause-steps g c =
    let d = g.D.Disk in
    let told = d.seen c.args.store.now.0 in
    let mid = d.seen c.extend.new.store.0 in
    let bytes = c.args.bytes.now in
    let size = c.args.size in
    and_on d.seen d.may_leave d.clock d.left_at d.room d.faults c.args.store.now c.extend.new.store c.set_byte.new.store (λ l. IfSome told (λ old. Extends old (length bytes) l)) (λ l. IfSome mid (λ x. HasSomeByteAt x (size - 1) l)) (λ l. IfSome told (IsWithinCommit bytes l)) c.extend.ensures.steps c.set_byte.ensures.steps
    (λ l added. two told (AtGate size) (λ old. Extends old (length bytes) l) (IsWithinCommit bytes l) c.requires.file added (λ old is begun. staging size bytes old l is begun))
    (λ l has. back told mid (AtGate size) (λ x y. y ≡ x ++ bytes) (λ y. HasSomeByteAt y (size - 1) l) (IsWithinCommit bytes l) c.requires.file c.in_ok-extend.ensures.written has
    (λ x y is added some. gating size bytes x y l is added some))
