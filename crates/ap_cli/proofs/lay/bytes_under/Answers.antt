use Rattle.std.proofs.Common.{◌≡◌, List, length, sym, ◌∙◌, ap, subst}
use Rattle.std.proofs.lemmas.Bool.Decides.{Decides-eqb}
use Rattle.ap_content.specs.Things.{bytes_thing}
use Rattle.ap_content.specs.declared.node.Number.{Number}
use Rattle.ap_cli.proofs.JobProducts.{is_bytes}
use Rattle.ap_cli.proofs.lay.bytes_under.Goals as goal

pub returns-then-is_empty : goal.returns-then-is_empty
returns-then-is_empty c = λ x stands.
    let node = c.in_ok-node.node.now in
    let empty : length c.as_slice.result.now ≡ 0 = (Decides-eqb (length c.as_slice.result.now) 0).0 (sym c.is_empty.ensures ∙ c.if-is_empty.true) in
    is_bytes c.args.contents.now c.args.number node (sym c.in_ok-node.ensures.node) x c.if-node-eq0.true (subst (λ (l : List Number). length l ≡ 0) c.as_slice.ensures empty) stands
    ∙ ap bytes_thing (sym c.as_slice-then-is_empty.ensures)
