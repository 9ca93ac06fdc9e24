use Rattle.std.proofs.Common.{◌≡◌, ◌-◌, ◌++◌, ◌∷◌, [], true, not, cond, is_ok, ap, sym, ◌∙◌, arith}
use Rattle.ap_rows.specs.Readers.{times}
use Rattle.ap_rows.specs.Listing.{items_behind}
use Rattle.ap_rows.proofs.ItemByItem.{times-step}
use Rattle.ap_rows.proofs.forms.read_list.Goals as goal

pub loop-left-preserved : goal.loop-left-preserved
loop-left-preserved g c =
    let ok : is_ok c.push.result ≡ true = c.is_err.ensures.negation ∙ ap not c.if-is_err.false in
    let items : c.push.new.self.items ≡ c.loop-left.items.items ++ c.in_ok-item.item ∷ [] =
    c.push.ensures.items ∙ ap (λ b. cond b (c.loop-left.items.items ++ c.in_ok-item.item ∷ []) c.loop-left.items.items) ok in (
      c.loop-left.invariant.0
          ∙ times-step g.X.Form.form c.loop-left.left c.loop-left.items.items c.in_ok-item.item c.loop-left.reader c.read.new.reader c.loop-left-test.true c.in_ok-item.ensures.read
          ∙ ap (λ xs. items_behind xs (times g.X.Form.form (c.loop-left.left - 1) c.read.new.reader)) (sym items),
      omega (arith, c.loop-left.invariant.1, c.read.ensures.shorter),
    )
