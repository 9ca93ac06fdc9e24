use Rattle.std.proofs.Common.{◌≡◌, ◌+◌, ◌-◌, ◌<◌, ◌++◌, ◌∷◌, [], length, ◌==◌, cond, Ok, Err, ap, sym, ◌∙◌, arith}
use Rattle.std.proofs.lemmas.List.{append-nil, length_push}
use Rattle.ap_rows.specs.Grammar.{items_from}
use Rattle.ap_rows.specs.Listing.{change_behind}
use Rattle.ap_rows.proofs.ChangeByItem.{items-step, items-bad, items-done, start, something, nothing}
use Rattle.ap_rows.proofs.Numbers.{are_bytes}
use Rattle.ap_rows.proofs.ChangeTold.{decoded-told}
use Rattle.ap_rows.proofs.decoding.decode.Goals as goal

pub loop-reader-init : goal.loop-reader-init
loop-reader-init c =
    let same = ap length c.new-reader.ensures in
    let none = ap length c.new-items.ensures.items in
    (start c.args.bytes.now c.new-reader.result c.new-items.result.items c.new-reader.ensures c.new-items.ensures.items, omega arith)

pub returns-in-Err-Outside-clause-bad : goal.returns-in-Err-Outside-clause-bad
returns-in-Err-Outside-clause-bad c = λ offset e.
    let all = c.args.bytes.now in
    let reader = c.loop-reader.reader in
    let items = c.loop-reader.items.items in
    let within = c.loop-reader.invariant.1 in
    let more : 0 < length reader = something reader c.is_empty.result (c.is_empty.ensures ∙ ap (λ r. length r == 0) c.rest.ensures) c.loop-reader-test.true in
    let some : 0 < length all - length items = omega arith in
    let same : length all - length c.rest-in-loop-reader.result.now ≡ offset = cc in
    let at : length c.rest-in-loop-reader.result.now ≡ length reader = ap length c.rest-in-loop-reader.ensures in
    let found : length all - length reader ≡ offset = omega arith in
    c.loop-reader.invariant.0
    ∙ ap (change_behind items) (items-bad (length all - length items) (length all - length reader) reader some more (c.in-Err-Outside.ensures.outside c.in-Err-Outside.field-0-is))
    ∙ ap Err found

pub loop-reader-preserved : goal.loop-reader-preserved
loop-reader-preserved c =
    let all = c.args.bytes.now in
    let reader = c.loop-reader.reader in
    let new = c.read_item.new.reader in
    let items = c.loop-reader.items.items in
    let x = c.in-Ok.item in
    let within = c.loop-reader.invariant.1 in
    let more : 0 < length reader = something reader c.is_empty.result (c.is_empty.ensures ∙ ap (λ r. length r == 0) c.rest.ensures) c.loop-reader-test.true in
    let some : 0 < length all - length items = omega arith in
    let pushed : c.push.new.self.items ≡ items ++ x ∷ [] = c.push.ensures.items ∙ ap (λ b. cond b (items ++ x ∷ []) items) c.if-is_err.ensures.negation in
    let long : length c.push.new.self.items ≡ length items + 1 = ap length pushed ∙ length_push items x in
    let taken : length new < length reader = c.in-Ok.ensures.taken in
    let turns : length all - length c.push.new.self.items ≡ length all - length items - 1 = omega arith in
    let at : length all - length new ≡ length all - length reader + (length reader - length new) = omega arith in (
      c.loop-reader.invariant.0
          ∙ items-step (length all - length items) (length all - length reader) items x reader new some more c.in-Ok.ensures.read
          ∙ ap (λ k. change_behind (items ++ x ∷ []) (items_from k (length all - length reader + (length reader - length new)) new)) (sym turns)
          ∙ ap (λ o. change_behind (items ++ x ∷ []) (items_from (length all - length c.push.new.self.items) o new)) (sym at)
          ∙ ap (λ xs. change_behind xs (items_from (length all - length c.push.new.self.items) (length all - length new) new)) (sym pushed),
      omega arith,
    )

pub returns-clause-change : goal.returns-clause-change
returns-clause-change c =
    let reader = c.loop-reader.reader in
    let items = c.loop-reader.items.items in
    let none = nothing reader c.is_empty.result (c.is_empty.ensures ∙ ap (λ r. length r == 0) c.rest.ensures) c.loop-reader-test.false in
    c.loop-reader.invariant.0
    ∙ ap (change_behind items) (items-done (length c.args.bytes.now - length items) (length c.args.bytes.now - length reader) reader none)
    ∙ ap Ok (append-nil items ∙ sym c.of.ensures)

pub returns-clause-one_spelling : goal.returns-clause-one_spelling
returns-clause-one_spelling c = (decoded-told c.args.bytes.now c.of.result (are_bytes c.args.bytes.now (λ i. omega (arith, c.type_inv.bytes i))) (returns-clause-change c)).0

pub returns-clause-folded : goal.returns-clause-folded
returns-clause-folded c = (decoded-told c.args.bytes.now c.of.result (are_bytes c.args.bytes.now (λ i. omega (arith, c.type_inv.bytes i))) (returns-clause-change c)).1
