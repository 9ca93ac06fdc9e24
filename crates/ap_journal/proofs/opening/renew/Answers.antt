use Rattle.std.proofs.Common.{◌≡◌, ℕ, List, [], ◌++◌, length, take, IfSome, sym, ◌∙◌}
use Rattle.ap_disk.specs.Crashes.{Shortened}
use Rattle.ap_disk.specs.Calls.{TellsAs}
use Rattle.ap_journal.specs.Records.{standing, IsSameStore}
use Rattle.ap_journal.specs.Changes.{Extends, IsCleaned}
use Rattle.ap_journal.specs.Between.{and_on, more}
use Rattle.ap_journal.specs.Told.{two, back, across, on_ok}
use Rattle.ap_journal.proofs.Committing.{cut_to_nothing, header_written, begun_file, first_bytes}
use Rattle.ap_journal.proofs.opening.renew.Goals as goal

pub returns-in_err-cut-clause-steps : goal.returns-in_err-cut-clause-steps
returns-in_err-cut-clause-steps g c =
    let d = g.D.Disk in
    let told = d.seen c.args.store.now.0 in
    more d.seen d.may_leave d.clock d.left_at d.room d.faults c.args.store.now c.cut.new.store (λ l. IfSome told (λ old. Shortened 0 old l)) (λ l. IfSome told (λ old. IsSameStore old l)) c.cut.ensures.steps
    (λ l cut. two told (λ old. standing old ≡ []) (λ old. Shortened 0 old l) (λ old. IsSameStore old l) c.requires.none cut (λ old none is. cut_to_nothing old l none is))

pub returns-clause-cleaned : goal.returns-clause-cleaned
returns-clause-cleaned g c =
    let d = g.D.Disk in
    let old = d.seen c.args.store.now.0 in
    let mid = d.seen c.cut.new.store.0 in
    let new = d.seen c.extend.new.store.0 in
    on_ok c.extend.result (TellsAs mid new (λ x y. y ≡ x ++ first_bytes)) (TellsAs old new (IsCleaned 17)) c.extend.ensures.written
    (λ written. across old mid new (λ x. standing x ≡ []) (λ x y. y ≡ take 0 x) (λ y z. z ≡ y ++ first_bytes) (IsCleaned 17) c.requires.none c.in_ok-cut.ensures.written written
    (λ x y z none cut has. let begun = begun_file y z cut has in record { rests = begun.0; same = begun.1 ∙ sym none; long = begun.2 }))

pub returns-clause-steps : goal.returns-clause-steps
returns-clause-steps g c =
    let d = g.D.Disk in
    let told = d.seen c.args.store.now.0 in
    let mid = d.seen c.cut.new.store.0 in
    let P : List ℕ → Type 0 = λ l. IfSome told (λ old. IsSameStore old l) in
    and_on d.seen d.may_leave d.clock d.left_at d.room d.faults c.args.store.now c.cut.new.store c.extend.new.store (λ l. IfSome told (λ old. Shortened 0 old l)) (λ l. IfSome mid (λ x. Extends x (length first_bytes) l)) P c.cut.ensures.steps c.extend.ensures.steps
    (λ l cut. two told (λ old. standing old ≡ []) (λ old. Shortened 0 old l) (λ old. IsSameStore old l) c.requires.none cut (λ old none is. cut_to_nothing old l none is))
    (λ l more. back told mid (λ old. standing old ≡ []) (λ x y. y ≡ take 0 x) (λ y. Extends y (length first_bytes) l) (λ old. IsSameStore old l) c.requires.none c.in_ok-cut.ensures.written more
    (λ x y none cut is. header_written x y l none cut is))
