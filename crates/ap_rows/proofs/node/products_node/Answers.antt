use Rattle.std.proofs.Common.{◌≡◌, ◌++◌, List, ℕ, map, ap, ◌∙◌}
use Rattle.ap_content.specs.declared.node.Number.{Number}
use Rattle.ap_content.specs.declared.node.Node.{Node}
use Rattle.ap_rows.specs.Fields.{list_field}
use Rattle.ap_rows.specs.Products.{product_field, products_of}
use Rattle.ap_rows.specs.declared.product.ProductRow.{ProductRow}
use Rattle.ap_rows.proofs.ProductsBack.{node-back}
use Rattle.ap_rows.proofs.node.products_node.Goals as goal

pub returns-clause-read_back : goal.returns-clause-read_back
returns-clause-read_back c =
    let rows = c.args.rows.now in
    let text : c.of.result ≡ list_field 4 product_field rows = c.of.ensures ∙ c.in_ok-write_list.ensures.put ∙ ap (λ out. out ++ list_field 4 product_field rows) c.new-text.ensures.items in
    let kids : c.of-kids.result ≡ map (λ (row : ProductRow). row.bytes) rows = c.of-kids.ensures ∙ c.in_ok-bytes_of.ensures in
    let made : List ℕ → List Number → Node = λ text kids. record { tag = 3; text = text; kids = kids } in
    ap (λ t. products_of (made t c.of-kids.result)) text
    ∙ ap (λ k. products_of (made (list_field 4 product_field rows) k)) kids
    ∙ node-back rows c.requires.count c.in_ok-write_list.ensures.is_typed.1 c.requires.folded
