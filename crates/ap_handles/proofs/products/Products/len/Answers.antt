use Rattle.std.proofs.Common.{rules, ◌≡◌, length, ap, ◌∙◌}
use Rattle.ap_handles.proofs.Keys.{index_length}
use Rattle.ap_handles.proofs.products.Products.len.Goals as goal

pub returns : goal.returns
returns c =
    let count : c.len.result ≡ length c.self.inside.by_key.items = search rules in
    count ∙ index_length _ _ _ c.self.invariant ∙ ap length c.self.view_is
