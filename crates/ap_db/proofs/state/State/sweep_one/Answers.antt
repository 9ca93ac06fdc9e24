use Rattle.std.proofs.Common.{◌∙◌, ◌≡◌, ◌-◌, ◌++◌, ◌∷◌, [], length-append, List, Option, Some, None, length, sym, ap, subst, arith}
use Rattle.std.specs.Prelude.{option_map, IfSome}
use Rattle.ap_content.specs.declared.node.Number.{Number}
use Rattle.ap_content.specs.declared.node.Node.{Node}
use Rattle.ap_db.specs.declared.things.FileThing.{FileThing}
use Rattle.ap_db.specs.declared.drops.Dropped.{Dropped}
use Rattle.ap_db.specs.States.{file_thing}
use Rattle.ap_db.specs.TakenOut.{without_things, IsSwept}
use Rattle.ap_db.proofs.Dropping.{has_node}
use Rattle.ap_db.proofs.Sweeping.{it_stays, it_goes, few_kids}
use Rattle.ap_db.proofs.state.State.sweep_one.Goals as goal

pub returns-in_default-clause-swept : goal.returns-in_default-clause-swept
returns-in_default-clause-swept c = λ stored swept.
    let gone : file_thing c.args.self.now.things.items c.args.m ≡ None = ap (λ (l : List (Option FileThing)). file_thing l c.args.m) (sym c.deref.ensures.value) ∙ sym c.in_default.ensures in
    it_stays c.args.self.now c.args.contents.now stored c.args.sweep.now.dropped.items c.args.sweep.now.awaited.items c.args.m swept (λ t is. absurd (cc (gone, is)))

pub returns-then-thing-gt0-clause-swept : goal.returns-then-thing-gt0-clause-swept
returns-then-thing-gt0-clause-swept c = λ stored swept.
    let there : file_thing c.args.self.now.things.items c.args.m ≡ Some c.in-Some.thing = ap (λ (l : List (Option FileThing)). file_thing l c.args.m) (sym c.deref.ensures.value) ∙ sym c.in-Some.ensures in
    it_stays c.args.self.now c.args.contents.now stored c.args.sweep.now.dropped.items c.args.sweep.now.awaited.items c.args.m swept
    (λ t is. let same : c.in-Some.thing ≡ t = cc (there, is) in let named = ap (λ (f : FileThing). f.named) same in omega (arith, c.if-thing-gt0.true, named))

pub returns-in_default-get-clause-swept : goal.returns-in_default-get-clause-swept
returns-in_default-get-clause-swept c = λ stored swept.
    let there : file_thing c.args.self.now.things.items c.args.m ≡ Some c.in-Some.thing = ap (λ (l : List (Option FileThing)). file_thing l c.args.m) (sym c.deref.ensures.value) ∙ sym c.in-Some.ensures in
    let known = swept.out.stands.known c.args.m c.in-Some.thing there in
    let node = has_node c.args.contents.now c.args.m known.value known.stands in
    absurd (cc (c.in_default-get.ensures.node, node.1))

pub returns-clause-swept : goal.returns-clause-swept
returns-clause-swept c = λ stored swept.
    let there : file_thing c.args.self.now.things.items c.args.m ≡ Some c.in-Some.thing = ap (λ (l : List (Option FileThing)). file_thing l c.args.m) (sym c.deref.ensures.value) ∙ sym c.in-Some.ensures in
    let node = c.in-Some-get.node.now in
    let dropped = c.args.sweep.now.dropped.items in
    let awaited = c.args.sweep.now.awaited.items in
    let now = without_things stored dropped in
    let then = it_goes c.args.self.now c.args.contents.now stored dropped awaited c.args.m swept c.in-Some.thing there (omega (arith, c.if-thing-gt0.false)) node (sym c.in-Some-get.ensures.node)
    c.take_out.new.self c.take_out.ensures.kept.2 (c.take_out.ensures.stands now c.in-Some.thing.number swept.out.stands (ap (λ (o : Option FileThing). option_map (λ t. t.number) o) there)) in
    let pushed : dropped ++ record { m = c.args.m; thing = c.in-Some.thing } ∷ [] ≡ c.push.new.self.items = sym c.in_ok-push.ensures.items in
    let more : awaited ++ node.kids ≡ c.extend_from_slice.new.self.items = ap (λ (l : List Number). awaited ++ l) (sym c.as_slice.ensures) ∙ sym c.in_ok-extend_from_slice.ensures.items in
    subst (λ (l : List Number). IsSwept c.take_out.new.self c.args.contents.now stored c.push.new.self.items l) more
    (subst (λ (l : List Dropped). IsSwept c.take_out.new.self c.args.contents.now stored l (awaited ++ node.kids)) pushed then)

pub returns-clause-fewer : goal.returns-clause-fewer
returns-clause-fewer c =
    let there : file_thing c.args.self.now.things.items c.args.m ≡ Some c.in-Some.thing = ap (λ (l : List (Option FileThing)). file_thing l c.args.m) (sym c.deref.ensures.value) ∙ sym c.in-Some.ensures in
    let few = few_kids c.args.self.now c.args.contents.now c.requires.0 c.args.sweep.now.dropped.items c.args.sweep.now.awaited.items c.args.m c.requires.1 c.in-Some.thing there (omega (arith, c.if-thing-gt0.false)) c.in-Some-get.node.now (sym c.in-Some-get.ensures.node) in
    let names = subst (λ (o : Option Node). IfSome o (λ node. c.take_out.new.self.names ≡ c.args.self.now.names - length node.kids)) (sym c.in-Some-get.ensures.node) c.take_out.ensures.names in
    let long : length c.extend_from_slice.new.self.items ≡ length (c.args.sweep.now.awaited.items ++ c.in-Some-get.node.now.kids) =
    ap (λ (l : List Number). length l) (c.in_ok-extend_from_slice.ensures.items ∙ ap (λ (l : List Number). c.args.sweep.now.awaited.items ++ l) c.as_slice.ensures) in
    let both = length-append c.args.sweep.now.awaited.items c.in-Some-get.node.now.kids in
    omega (arith, few, names, long, both)
