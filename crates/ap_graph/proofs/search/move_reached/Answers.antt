use Rattle.std.proofs.Common.{◌≡◌, ◌<◌, ◌+◌, ℕ, List, [], length, get_or, refl, sym, ◌∙◌, ap, subst, arith, rules, ◌++◌, ◌∷◌, drop, Vec, Global}
use Rattle.std.proofs.lemmas.List.{length_push}
use Rattle.ap_graph.specs.Rows.{row_at, count_of}
use Rattle.ap_graph.proofs.Searching.{searching_pop, looking_moves, looking_stays, looking_end, looked_within, moving_counts, Looking}
use Rattle.ap_graph.proofs.search.move_reached.Goals as goal
use Rattle.ap_graph.proofs.search.move_reached.Goals.{then-group-target+in_ok-push-2, else-group-target}

pub row-target-items-requires : goal.row-target-items-requires
row-target-items-requires c =
    let popped = searching_pop c.args.arrows.now c.args.start c.args.to c.args.group.now c.loop-node.group c.loop-node.stack.items c.pop.new.self.items c.args.start c.in-Some.node c.in-Some.ensures.items c.loop-node.invariant in
    omega (arith, popped.within, c.requires.places)

pub loop-target-init : goal.loop-target-init
loop-target-init c = record {
  looking = searching_pop c.args.arrows.now c.args.start c.args.to c.args.group.now c.loop-node.group c.loop-node.stack.items c.pop.new.self.items c.args.start c.in-Some.node c.in-Some.ensures.items c.loop-node.invariant;
  weight = refl;
  grows = omega arith;
}

pub loop-node-preserved : goal.loop-node-preserved
loop-node-preserved c = looking_end c.args.arrows.now c.args.start c.args.to c.args.group.now c.loop-target.group c.loop-target.stack.items c.in-Some.node c.loop-target.target-index
    c.row-target-items.result.now c.row-target-items.ensures (omega arith) c.loop-target.invariant.looking

pub bounds-group-target : goal.bounds-group-target
bounds-group-target c = looked_within _ _ _ _ _ _ _ c.loop-target.target-index c.row-target-items.result.now _ c.requires.closed c.requires.places c.row-target-items.ensures (omega arith) c.loop-target.invariant.looking

pub offset_bounds-group-target : goal.offset_bounds-group-target
offset_bounds-group-target c =
    let inside : get_or c.row-target-items.result.now c.loop-target.target-index 0 < length c.loop-target.group =
    looked_within _ _ _ _ _ _ _ c.loop-target.target-index c.row-target-items.result.now _ c.requires.closed c.requires.places c.row-target-items.ensures (omega arith) c.loop-target.invariant.looking in
    search rules

pub bounds-group-target-then-group-target : goal.bounds-group-target-then-group-target
bounds-group-target-then-group-target c = looked_within _ _ _ _ _ _ _ c.loop-target.target-index c.row-target-items.result.now _ c.requires.closed c.requires.places c.row-target-items.ensures (omega arith) c.loop-target.invariant.looking

pub offset_bounds-group-target-then-group-target : goal.offset_bounds-group-target-then-group-target
offset_bounds-group-target-then-group-target c =
    let inside : get_or c.row-target-items.result.now c.loop-target.target-index 0 < length c.loop-target.group =
    looked_within _ _ _ _ _ _ _ c.loop-target.target-index c.row-target-items.result.now _ c.requires.closed c.requires.places c.row-target-items.ensures (omega arith) c.loop-target.invariant.looking in
    search rules

pub loop-target-preserved : goal.loop-target-preserved
loop-target-preserved c =
    let targets = c.row-target-items.result.now in
    let i = c.loop-target.target-index in
    let old = c.args.group.now in
    let there : i < length targets = omega arith in
    let row = c.row-target-items.ensures in
    let there' : i < length (row_at c.args.arrows.now c.in-Some.node) = subst (λ (r : List ℕ). i < length r) row there in
    let read : get_or targets i 0 ≡ get_or (row_at c.args.arrows.now c.in-Some.node) i 0 = ap (λ (r : List ℕ). get_or r i 0) row in
    let within : get_or targets i 0 < length c.loop-target.group =
    looked_within _ _ _ _ _ _ _ i targets _ c.requires.closed c.requires.places row there c.loop-target.invariant.looking in
    let places : length c.loop-target.group ≡ length old = c.loop-target.invariant.looking.searching.places in
    let inside : get_or targets i 0 < length old = omega arith in
    elim c.if-group-target.branch [
      | then-group-target+in_ok-push-2 w ↦
          let stack' : c.if-group-target.stack.items ≡ c.loop-target.stack.items ++ get_or targets i 0 ∷ [] = ap (λ (v : Vec ℕ Global). v.items) w.stack-is ∙ w.in_ok-push-2.ensures.items in
          let counts = moving_counts old c.args.start c.args.to c.loop-target.group c.if-group-target.group c.loop-target.stack.items c.if-group-target.stack.items (get_or targets i 0)
          c.requires.new c.requires.start within w.if-group-target.true w.group-is stack' in
          record {
            looking = looking_moves c.args.arrows.now c.args.start c.args.to old c.loop-target.group c.loop-target.stack.items c.in-Some.node i (get_or targets i 0) c.requires.new c.requires.start
                inside there' read c.loop-target.invariant.looking w.if-group-target.true c.if-group-target.group c.if-group-target.stack.items w.group-is stack';
            weight = counts ∙ c.loop-target.invariant.weight;
            grows = let longer : length c.if-group-target.stack.items ≡ length c.loop-target.stack.items + 1 = ap length stack' ∙ length_push c.loop-target.stack.items (get_or targets i 0) in
                omega (arith, c.loop-target.invariant.grows);
          }
      | else-group-target w ↦
          let same_group : c.if-group-target.group ≡ c.loop-target.group = w.group-is in
          let same_stack : c.if-group-target.stack.items ≡ c.loop-target.stack.items = ap (λ (v : Vec ℕ Global). v.items) w.stack-is in
          record {
            looking = subst (λ (g : List ℕ). Looking c.args.arrows.now c.args.start c.args.to old g c.if-group-target.stack.items c.in-Some.node (drop (i + 1) (row_at c.args.arrows.now c.in-Some.node))) (sym same_group)
                (subst (λ (s : List ℕ). Looking c.args.arrows.now c.args.start c.args.to old c.loop-target.group s c.in-Some.node (drop (i + 1) (row_at c.args.arrows.now c.in-Some.node))) (sym same_stack)
                (looking_stays c.args.arrows.now c.args.start c.args.to old c.loop-target.group c.loop-target.stack.items c.in-Some.node i (get_or targets i 0) c.requires.new c.requires.start
                inside there' read c.loop-target.invariant.looking w.if-group-target.false));
            weight = omega (arith, c.loop-target.invariant.weight, ap (count_of (get_or old c.args.start 0)) same_group, ap length same_stack);
            grows = omega (arith, c.loop-target.invariant.grows, ap length same_stack);
          }
    ]
