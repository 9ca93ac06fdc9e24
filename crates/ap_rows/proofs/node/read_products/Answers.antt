use Rattle.std.proofs.Common.{List, ℕ, ap, sym, ◌∙◌}
use Rattle.ap_content.specs.declared.node.Number.{Number}
use Rattle.ap_content.specs.declared.node.Node.{Node}
use Rattle.ap_rows.specs.Products.{products_by, whole}
use Rattle.ap_rows.proofs.RowByRow.{other-tag, tagged}
use Rattle.ap_rows.proofs.node.read_products.Goals as goal

pub returns-then-node-ne-PRODUCTS_TAG-clause-read : goal.returns-then-node-ne-PRODUCTS_TAG-clause-read
returns-then-node-ne-PRODUCTS_TAG-clause-read c = sym (other-tag c.args.node.now c.if-node-ne-PRODUCTS_TAG.true)

pub returns-in-Ok-clause-read : goal.returns-in-Ok-clause-read
returns-in-Ok-clause-read c =
    let node = c.args.node.now in
    sym (tagged node c.if-node-ne-PRODUCTS_TAG.false
    ∙ sym (ap (λ kids. whole (products_by kids node.text)) c.as_slice-2.ensures)
    ∙ sym (ap (λ text. whole (products_by c.as_slice-2.result.now text)) c.as_slice.ensures)
    ∙ c.in-Ok.ensures.read)

pub returns-in-Ok-clause-one_spelling : goal.returns-in-Ok-clause-one_spelling
returns-in-Ok-clause-one_spelling c =
    let node = c.args.node.now in
    let made : ℕ → List ℕ → List Number → Node = λ tag text kids. record { tag = tag; text = text; kids = kids } in
    c.in-Ok.ensures.one_spelling
    ∙ ap (λ text. made 3 text c.as_slice-2.result.now) c.as_slice.ensures
    ∙ ap (made 3 node.text) c.as_slice-2.ensures
    ∙ ap (λ tag. made tag node.text node.kids) (sym c.if-node-ne-PRODUCTS_TAG.false)

pub returns-in-Err-Outside-clause-read : goal.returns-in-Err-Outside-clause-read
returns-in-Err-Outside-clause-read c =
    let node = c.args.node.now in
    sym (tagged node c.if-node-ne-PRODUCTS_TAG.false
    ∙ sym (ap (λ kids. whole (products_by kids node.text)) c.as_slice-2.ensures)
    ∙ sym (ap (λ text. whole (products_by c.as_slice-2.result.now text)) c.as_slice.ensures)
    ∙ c.in-Err-Outside.ensures.outside c.in-Err-Outside.field-0-is)
