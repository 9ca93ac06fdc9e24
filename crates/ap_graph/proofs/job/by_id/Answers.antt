use Rattle.std.proofs.Common.{◌≡◌, List, map, Bor, IsPermutation, subst, ◌∙◌, rules, arith}
use Rattle.std.specs.Ordering.{is_lt}
use Rattle.std.proofs.lemmas.Fn.{always_returns_same}
use Rattle.std.proofs.lemmas.List.{take_all}
use Rattle.std.proofs.lemmas.List.Sorted.{ranks_by, IsPermutation-map}
use Rattle.ap_graph.specs.declared.node.JobNode.{JobNode}
use Rattle.ap_graph.specs.Nodes.{node_cmp}
use Rattle.ap_graph.proofs.IdOrder.{node_total, listed}
use Rattle.ap_graph.proofs.Holding.{sorted_map}
use Rattle.ap_graph.proofs.job.by_id.Goals as goal

pub returns : goal.returns
returns c =
    let order = c.sort_unstable_by.ensures.sorted (λ a b. is_lt (node_cmp a.now b.now)) (ranks_by node_total (λ (r : Bor JobNode). r.now)) (always_returns_same _ _ _ (λ a r q k. search rules)) in
    let all : map (λ node. node.now) c.loop-node.sorted.items ≡ c.args.nodes.now = c.loop-node.invariant ∙ take_all c.loop-node.node-index c.args.nodes.now (omega arith) in
    let moved = IsPermutation-map (λ (r : Bor JobNode). r.now) c.loop-node.sorted.items c.sort_unstable_by.new.self.items c.sort_unstable_by.ensures.permutation in
    listed c.args.nodes.now (map (λ node. node.now) c.sort_unstable_by.new.self.items) c.requires
    (subst (λ (l : List JobNode). IsPermutation l (map (λ node. node.now) c.sort_unstable_by.new.self.items)) all moved)
    (sorted_map (λ (r : Bor JobNode). r.now) (λ a b. is_lt (node_cmp a b)) c.sort_unstable_by.new.self.items order)
