use Rattle.std.proofs.Common.{◌==◌, length, ap, sym, ◌∙◌, arith}
use Rattle.ap_rows.specs.Readers.{number}
use Rattle.ap_rows.proofs.ChangeByItem.{something, nothing}
use Rattle.ap_rows.proofs.Numbers.{are_bytes}
use Rattle.ap_rows.proofs.ProductsTold.{text-told}
use Rattle.ap_rows.proofs.RowByRow.{no-count, other-count, no-rows, all-rows, more-bytes}
use Rattle.ap_rows.proofs.node.products_in.Goals as goal

pub returns-in-Err-clause-outside : goal.returns-in-Err-clause-outside
returns-in-Err-clause-outside c = λ outside. no-count c.args.kids.now c.args.text.now (sym (ap (number 4) c.new-reader.ensures) ∙ c.in-Err.ensures.outside outside)

pub returns-then-count-kids-clause-outside : goal.returns-then-count-kids-clause-outside
returns-then-count-kids-clause-outside c = λ _.
    other-count c.args.kids.now c.args.text.now c.in-Ok.count c.read_u32.new.reader (sym (ap (number 4) c.new-reader.ensures) ∙ c.in-Ok.ensures.read) c.if-count-kids.true

pub returns-then-is_empty-clause-read : goal.returns-then-is_empty-clause-read
returns-then-is_empty-clause-read c =
    all-rows c.args.kids.now c.args.text.now c.in-Ok.count c.read_u32.new.reader c.in-Ok-read_rows.rows.items c.read_rows.new.reader
    (sym (ap (number 4) c.new-reader.ensures) ∙ c.in-Ok.ensures.read) c.if-count-kids.false c.in-Ok-read_rows.ensures.read
    (nothing c.read_rows.new.reader c.is_empty.result (c.is_empty.ensures ∙ ap (λ r. length r == 0) c.rest.ensures) c.if-is_empty.true)

pub returns-then-is_empty-clause-one_spelling : goal.returns-then-is_empty-clause-one_spelling
returns-then-is_empty-clause-one_spelling c =
    (text-told c.args.kids.now c.args.text.now c.in-Ok-read_rows.rows.items (are_bytes c.args.text.now (λ i. omega (arith, c.type_inv.text i))) (returns-then-is_empty-clause-read c)).0

pub returns-then-is_empty-clause-spelled_again : goal.returns-then-is_empty-clause-spelled_again
returns-then-is_empty-clause-spelled_again c =
    (text-told c.args.kids.now c.args.text.now c.in-Ok-read_rows.rows.items (are_bytes c.args.text.now (λ i. omega (arith, c.type_inv.text i))) (returns-then-is_empty-clause-read c)).1

pub returns-else-is_empty-clause-outside : goal.returns-else-is_empty-clause-outside
returns-else-is_empty-clause-outside c = λ _.
    more-bytes c.args.kids.now c.args.text.now c.in-Ok.count c.read_u32.new.reader c.in-Ok-read_rows.rows.items c.read_rows.new.reader
    (sym (ap (number 4) c.new-reader.ensures) ∙ c.in-Ok.ensures.read) c.if-count-kids.false c.in-Ok-read_rows.ensures.read
    (something c.read_rows.new.reader c.is_empty.result (c.is_empty.ensures ∙ ap (λ r. length r == 0) c.rest.ensures) c.if-is_empty.false)

pub returns-in-Err-read_rows-clause-outside : goal.returns-in-Err-read_rows-clause-outside
returns-in-Err-read_rows-clause-outside c = λ outside.
    no-rows c.args.kids.now c.args.text.now c.in-Ok.count c.read_u32.new.reader (sym (ap (number 4) c.new-reader.ensures) ∙ c.in-Ok.ensures.read) c.if-count-kids.false
    (c.in-Err-read_rows.ensures.outside outside)
