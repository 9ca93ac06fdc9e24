use Rattle.std.proofs.Common.{List, ℕ, length, subst, arith}
use Rattle.ap_graph.specs.Rows.{AddsBack}
use Rattle.ap_graph.proofs.RowFacts.{reverses_more, targets_within}
use Rattle.ap_graph.proofs.reverse.reverse.Goals as goal

pub add_back-requires : goal.add_back-requires
add_back-requires c = targets_within c.args.arrows.now c.loop-from.from c.row.result.now (length c.loop-from.back) c.requires c.row.ensures c.loop-from.invariant.places

pub loop-from-preserved : goal.loop-from-preserved
loop-from-preserved c = reverses_more c.args.arrows.now c.loop-from.back c.add_back.new.back c.loop-from.from (omega arith)
    (subst (λ (l : List ℕ). AddsBack c.loop-from.back c.add_back.new.back c.loop-from.from l) c.row.ensures c.in_ok-add_back.ensures) c.loop-from.invariant
