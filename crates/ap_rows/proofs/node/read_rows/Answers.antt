use Rattle.std.proofs.Common.{◌≡◌, ◌+◌, ◌++◌, ◌∷◌, [], true, not, drop, cond, is_ok, Some, ap, sym, ◌∙◌}
use Rattle.std.proofs.lemmas.List.{append-nil}
use Rattle.std.proofs.Math.ListN.{drop_of_length-le}
use Rattle.ap_rows.specs.Products.{product_rows}
use Rattle.ap_rows.specs.Listing.{items_behind}
use Rattle.ap_rows.proofs.RowByRow.{rows-step, rows-bad, rows-done}
use Rattle.ap_rows.proofs.node.read_rows.Goals as goal

pub returns-in-Err-clause-outside : goal.returns-in-Err-clause-outside
returns-in-Err-clause-outside c = λ outside.
    c.loop-kid.invariant ∙ rows-bad c.args.kids.now c.loop-kid.kid-index (record { 0 = 0 }) c.loop-kid.rows.items c.loop-kid.reader c.loop-kid-test.true (c.in-Err.ensures.outside outside)

pub loop-kid-preserved : goal.loop-kid-preserved
loop-kid-preserved c =
    let kids = c.args.kids.now in
    let rows = c.loop-kid.rows.items in
    let ok : is_ok c.push.result ≡ true = c.is_err.ensures.negation ∙ ap not c.if-is_err.false in
    let pushed : c.push.new.self.items ≡ rows ++ c.in-Ok.row ∷ [] = c.push.ensures.items ∙ ap (λ b. cond b (rows ++ c.in-Ok.row ∷ []) rows) ok in
    c.loop-kid.invariant
    ∙ rows-step kids c.loop-kid.kid-index (record { 0 = 0 }) rows c.in-Ok.row c.loop-kid.reader c.read_product.new.reader c.loop-kid-test.true c.in-Ok.ensures.read
    ∙ ap (λ xs. items_behind xs (product_rows (drop (c.loop-kid.kid-index + 1) kids) c.read_product.new.reader)) (sym pushed)

pub returns-clause-read : goal.returns-clause-read
returns-clause-read c =
    let rows = c.loop-kid.rows.items in
    c.loop-kid.invariant
    ∙ ap (λ left. items_behind rows (product_rows left c.loop-kid.reader)) (drop_of_length-le c.args.kids.now c.loop-kid-test.false)
    ∙ rows-done rows c.loop-kid.reader
    ∙ ap (λ xs. Some (xs, c.loop-kid.reader)) (append-nil rows)
