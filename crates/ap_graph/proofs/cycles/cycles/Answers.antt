use Rattle.std.proofs.Common.{◌≡◌, ◌++◌, ◌∷◌, [], ℕ, List, length, sym, subst, arith, rules}
use Rattle.std.proofs.lemmas.List.{with_items_is}
use Rattle.std.proofs.lemmas.Result.{IfOk-weaker}
use Rattle.ap_graph.specs.Groups.{TellsInside, TellsCycles}
use Rattle.ap_graph.proofs.Parting.{Rooting, rooting_more, rooting_end, root_within, whole_read, cycles_told}
use Rattle.ap_graph.proofs.cycles.cycles.Goals as goal

pub loop-root-preserved-in-Continue-branch-5 : goal.loop-root-preserved-in-Continue-branch-5
loop-root-preserved-in-Continue-branch-5 c =
    let is : c.loop-root.order.items ≡ c.pop.new.self.items ++ c.in-Some.root ∷ [] = c.in-Some.ensures.items in
    let value : c.deref_mut.result.now ≡ c.loop-root.group.items = c.deref_mut.ensures.value in
    let places : length c.part.new.group ≡ length c.args.arrows.now = c.in_ok-part.ensures.parts.places in
    let kept = with_items_is c.loop-root.group c.part.new.group (omega (arith, places, c.loop-root.invariant.parts.places, c.loop-root.group.ok.0)) in
    subst (λ (g : List ℕ). Rooting c.args.arrows.now g c.part.new.whole.items c.pop.new.self.items) (sym kept)
    (rooting_more c.args.arrows.now c.deref_mut.result.now c.part.new.group c.loop-root.whole.items c.part.new.whole.items c.loop-root.order.items c.pop.new.self.items c.in-Some.root is
    c.in_ok-part.ensures.parts c.in_ok-part.ensures.keeps c.in_ok-part.ensures.root
    (subst (λ (g : List ℕ). Rooting c.args.arrows.now g c.loop-root.whole.items c.loop-root.order.items) (sym value) c.loop-root.invariant))

pub loop-root-preserved : goal.loop-root-preserved
loop-root-preserved c =
    let inside = root_within c.args.arrows.now c.loop-root.group.items c.loop-root.whole.items c.loop-root.order.items c.pop.new.self.items c.in-Some.root c.in-Some.ensures.items c.loop-root.invariant in
    rooting_more c.args.arrows.now c.loop-root.group.items c.loop-root.group.items c.loop-root.whole.items c.loop-root.whole.items c.loop-root.order.items c.pop.new.self.items c.in-Some.root c.in-Some.ensures.items
    c.loop-root.invariant.parts (λ v within full. full)
    (whole_read c.loop-root.group.items c.loop-root.whole.items c.in-Some.root c.index.result.now c.index-in-Some.result.now (omega (arith, inside, c.loop-root.invariant.parts.places)) c.loop-root.invariant.parts.known
    c.index.ensures c.index-in-Some.ensures c.if-not-index.false)
    c.loop-root.invariant

pub returns : goal.returns
returns c = IfOk-weaker c.inside.result (λ told. TellsInside c.args.arrows.now c.deref.result.now told.items) (λ told. TellsCycles c.args.arrows.now told.items)
    (λ told tells. cycles_told c.args.arrows.now c.loop-root.group.items c.loop-root.whole.items told.items c.requires c.loop-root.invariant.parts
    (rooting_end c.args.arrows.now c.loop-root.group.items c.loop-root.whole.items c.loop-root.order.items (search rules) c.loop-root.invariant)
    (subst (λ (g : List ℕ). TellsInside c.args.arrows.now g told.items) c.deref.ensures.value tells))
    c.inside.ensures
