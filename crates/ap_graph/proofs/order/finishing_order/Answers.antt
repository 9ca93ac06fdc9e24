use Rattle.std.proofs.Common.{◌≡◌, ◌++◌, ◌∷◌, [], Bool, true, List, length, set, ◌∙◌, refl, ap, arith, rules}
use Rattle.std.proofs.lemmas.List.{with_items_is, length-set}
use Rattle.ap_graph.specs.declared.order.Visit.{Visit}
use Rattle.ap_graph.specs.declared.order.Visit.TheVariants.{Enter}
use Rattle.ap_graph.specs.Visits.{entered}
use Rattle.ap_graph.proofs.Ordering.{walk_leaves, walk_enters, walk_ends, enter_within, leaving_smaller, entering_smaller}
use Rattle.ap_graph.proofs.order.finishing_order.Goals as goal

pub loop-visit-smaller-in-Continue-branch-4 : goal.loop-visit-smaller-in-Continue-branch-4
loop-visit-smaller-in-Continue-branch-4 c =
    let is : c.loop-visit.stack.items ≡ c.pop.new.self.items ++ Enter c.in-Enter.node ∷ [] = c.in-Some.ensures.items ∙ ap (λ (x : Visit). c.pop.new.self.items ++ x ∷ []) c.in-Enter.is in
    let value : c.deref_mut.result.now ≡ c.loop-visit.seen.items = c.deref_mut.ensures.value in
    let saw : c.enter.new.seen ≡ set c.loop-visit.seen.items c.in-Enter.node true = c.in_ok-enter-in-Enter.ensures.seen ∙ ap (λ (l : List Bool). set l c.in-Enter.node true) value in
    let kept = with_items_is c.loop-visit.seen c.enter.new.seen (omega (arith, ap length saw, length-set c.loop-visit.seen.items c.in-Enter.node true, c.loop-visit.seen.ok.0)) in
    let enters : c.enter.new.stack.items ≡ entered c.args.arrows.now c.loop-visit.seen.items c.pop.new.self.items c.in-Enter.node =
    c.in_ok-enter-in-Enter.ensures.stack ∙ ap (λ (l : List Bool). entered c.args.arrows.now l c.pop.new.self.items c.in-Enter.node) value in
    let inside = enter_within (length c.args.arrows.now) c.loop-visit.seen.items c.loop-visit.stack.items c.pop.new.self.items c.loop-visit.order.items c.in-Enter.node is c.loop-visit.invariant in
    entering_smaller c.args.arrows.now c.loop-visit.seen.items _ c.loop-visit.stack.items c.pop.new.self.items c.enter.new.stack.items c.in-Enter.node
    (omega (arith, c.loop-visit.invariant.places, inside)) inside is (kept ∙ saw) enters

pub loop-visit-preserved-in-Continue-branch-4 : goal.loop-visit-preserved-in-Continue-branch-4
loop-visit-preserved-in-Continue-branch-4 c =
    let is : c.loop-visit.stack.items ≡ c.pop.new.self.items ++ Enter c.in-Enter.node ∷ [] = c.in-Some.ensures.items ∙ ap (λ (x : Visit). c.pop.new.self.items ++ x ∷ []) c.in-Enter.is in
    let value : c.deref_mut.result.now ≡ c.loop-visit.seen.items = c.deref_mut.ensures.value in
    let saw : c.enter.new.seen ≡ set c.loop-visit.seen.items c.in-Enter.node true = c.in_ok-enter-in-Enter.ensures.seen ∙ ap (λ (l : List Bool). set l c.in-Enter.node true) value in
    let kept = with_items_is c.loop-visit.seen c.enter.new.seen (omega (arith, ap length saw, length-set c.loop-visit.seen.items c.in-Enter.node true, c.loop-visit.seen.ok.0)) in
    let enters : c.enter.new.stack.items ≡ entered c.args.arrows.now c.loop-visit.seen.items c.pop.new.self.items c.in-Enter.node =
    c.in_ok-enter-in-Enter.ensures.stack ∙ ap (λ (l : List Bool). entered c.args.arrows.now l c.pop.new.self.items c.in-Enter.node) value in
    walk_enters c.args.arrows.now (length c.args.arrows.now) c.loop-visit.seen.items _ c.loop-visit.stack.items c.pop.new.self.items c.enter.new.stack.items c.loop-visit.order.items c.in-Enter.node
    refl c.requires is (kept ∙ saw) enters c.loop-visit.invariant

pub loop-visit-smaller : goal.loop-visit-smaller
loop-visit-smaller c = leaving_smaller c.args.arrows.now c.loop-visit.seen.items c.loop-visit.stack.items c.pop.new.self.items c.in-Some.visit c.in-Some.ensures.items

pub loop-visit-preserved : goal.loop-visit-preserved
loop-visit-preserved c =
    walk_leaves (length c.args.arrows.now) c.loop-visit.seen.items c.loop-visit.stack.items c.pop.new.self.items c.loop-visit.order.items c.push.new.self.items c.in-Leave.node
    (c.in-Some.ensures.items ∙ ap (λ (x : Visit). c.pop.new.self.items ++ x ∷ []) c.in-Leave.is) c.in_ok-push-in-Leave.ensures.items c.loop-visit.invariant

pub returns-clause-all : goal.returns-clause-all
returns-clause-all c = walk_ends (length c.args.arrows.now) c.loop-visit.seen.items c.loop-visit.stack.items c.loop-visit.order.items (search rules) c.loop-visit.invariant
