use Rattle.std.proofs.Common.{[], ◌∷◌, refl, sym, ◌∙◌, ap}
use Rattle.ap_rows.specs.Forms.{plain_product}
use Rattle.ap_cli.specs.Layout.{files_in}
use Rattle.ap_cli.specs.ProductIds.{ids_in}
use Rattle.ap_cli.proofs.JobProducts.{one_product}
use Rattle.ap_cli.proofs.lay.product_under.Goals as goal

pub returns-clause-laid : goal.returns-clause-laid
returns-clause-laid c = λ x stands.
    let row = c.in_ok-row.row in
    let bytes = c.in-Some-bytes_under.bytes.now in
    ap (files_in c.args.id.now) (one_product c.args.contents.now c.args.number c.in-Some.node.now (sym c.in-Some.ensures.node) row bytes x c.in_ok-row.ensures.row c.in_ok-row.ensures.kid c.in-Some-bytes_under.ensures stands)
    ∙ ap (λ file. file ∷ []) (sym (c.in_ok-file.ensures (plain_product row bytes) refl refl))

pub returns-clause-id : goal.returns-clause-id
returns-clause-id c = λ x stands.
    let row = c.in_ok-row.row in
    let bytes = c.in-Some-bytes_under.bytes.now in
    ap (ids_in c.args.id.now) (one_product c.args.contents.now c.args.number c.in-Some.node.now (sym c.in-Some.ensures.node) row bytes x c.in_ok-row.ensures.row c.in_ok-row.ensures.kid c.in-Some-bytes_under.ensures stands)
    ∙ ap (λ id. id ∷ []) (sym (c.product_id.ensures (plain_product row bytes) refl))
