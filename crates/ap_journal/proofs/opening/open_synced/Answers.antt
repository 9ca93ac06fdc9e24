use Rattle.std.proofs.Common.{◌≡◌, ℕ, List, [], ◌∷◌, length, IfSome, refl, sym, ◌∙◌, subst, arith}
use Rattle.std.specs.Prelude.{Option, Some, None}
use Rattle.ap_disk.specs.Crashes.{Only}
use Rattle.ap_journal.specs.Records.{standing, size_of, end_of, IsSameStore}
use Rattle.ap_journal.specs.Between.{and_on}
use Rattle.ap_journal.specs.Told.{two}
use Rattle.ap_journal.proofs.opening.open_synced.Goals as goal

nothing_of : (payloads : List (List ℕ)) → size_of payloads ≡ 0 → payloads ≡ []
nothing_of [] none = cc
nothing_of (payload ∷ others) none = absurd (omega (arith, none))

pub renew-requires-clause-none : goal.renew-requires-clause-none
renew-requires-clause-none g c =
    let told = g.D.Disk.seen c.args.store.now.0 in
    let size = c.in_ok-size.size in
    let end = c.in_ok-end.end in
    let None_stand : List ℕ → Type 0 = λ old. standing old ≡ [] in
    let ends : IfSome told (λ bytes. length bytes ≡ size → end ≡ end_of bytes) =
    subst (λ (o : Option (List ℕ)). IfSome o (λ bytes. length bytes ≡ size → end ≡ end_of bytes)) c.length.ensures.seen c.in_ok-end.ensures.end in
    let none : IfSome told None_stand = two told (λ bytes. size ≡ length bytes) (λ bytes. length bytes ≡ size → end ≡ end_of bytes) None_stand c.in_ok-size.ensures.length ends
    (λ bytes long at. nothing_of (standing bytes) (omega (arith, at (sym long), c.if-end-eq-FIRST.true))) in
    subst (λ (o : Option (List ℕ)). IfSome o None_stand) (sym (c.records_end.ensures.seen ∙ c.length.ensures.seen)) none

pub returns-in_err-renew-clause-steps : goal.returns-in_err-renew-clause-steps
returns-in_err-renew-clause-steps g c =
    let d = g.D.Disk in
    let old = c.args.store.now in
    let one = c.length.new.store in
    let two_ = c.records_end.new.store in
    let new = c.renew.new.store in
    let P : List ℕ → Type 0 = λ l. IfSome (d.seen old.0) (λ x. IsSameStore x l) in
    let same = λ (l : List ℕ). IfSome (d.seen two_.0) (λ x. IsSameStore x l) in
    let to_p : (l : List ℕ) → same l → P l = λ l h. subst (λ (o : Option (List ℕ)). IfSome o (λ x. IsSameStore x l)) (c.records_end.ensures.seen ∙ c.length.ensures.seen) h in
    let was : (l : List ℕ) → d.may_leave old.0 l → P l = λ l left. of_durable (d.seen old.0) l (d.may_leave old.0) c.requires.durable left in
    let read = and_on d.seen d.may_leave d.clock d.left_at d.room d.faults old one two_ (d.may_leave old.0) (d.may_leave one.0) (d.may_leave old.0) c.length.ensures.steps c.records_end.ensures.steps (λ l left. left) c.length.ensures.steps.crash in
    and_on d.seen d.may_leave d.clock d.left_at d.room d.faults old two_ new (d.may_leave old.0) same P read c.renew.ensures.steps was to_p
  where
    of_durable : (told : Option (List ℕ)) (l : List ℕ) (may_leave : List ℕ → Type 0) → Only told may_leave → may_leave l → IfSome told (λ x. IsSameStore x l)
    of_durable None l may_leave durable left = tt
    of_durable (Some x) l may_leave durable left = subst (λ (y : List ℕ). IsSameStore x y) (sym (durable l left)) (record { same = refl; header = refl })
