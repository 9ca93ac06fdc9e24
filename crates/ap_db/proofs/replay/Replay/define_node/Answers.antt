use Rattle.std.proofs.Common.{◌∙◌, List, Option, sym, subst, ap}
use Rattle.std.specs.Prelude.{option_map}
use Rattle.ap_content.specs.Things.{thing, kids_of}
use Rattle.ap_db.specs.declared.things.FileThing.{FileThing}
use Rattle.ap_content.specs.declared.node.Number.{Number}
use Rattle.ap_db.specs.States.{file_thing, IsIndexOf}
use Rattle.ap_db.proofs.Taking.{contains_lives, gained, each_stands, kids_live, new_among, old_among, index_gains, same_index}
use Rattle.ap_db.proofs.Holding.{still_held, held_gained, held_then, held_with}
use Rattle.ap_db.proofs.replay.Replay.define_node.Goals as goal

pub intern_node-requires : goal.intern_node-requires
intern_node-requires c = λ k has.
    let can = c.requires.1 c.requires.0.0 c.requires.0.1 in
    contains_lives c.args.self.now.state.things.items c.args.contents.now c.args.node.kids can.0 can.1 k has.0 has.1 has.2

pub returns-in-Some-clause-refused : goal.returns-in-Some-clause-refused
returns-in-Some-clause-refused c = λ e stored xs replays are.
    let before = gained c.args.self.now.state c.args.contents.now c.intern_node.new.self stored c.in-Ok.m c.args.node replays.stands c.in-Ok.ensures.gains c.intern_node.ensures.tidy in
    let stands = c.grow.ensures.stands c.intern_node.new.self stored before in
    old_among c.grow.new.self c.intern_node.new.self stored c.in-Ok.m (thing c.args.node.tag c.args.node.text (kids_of xs)) c.in-Some.field-0 stands
    (c.in-Ok.ensures.thing (kids_of xs) (each_stands c.args.self.now.state.things.items c.args.contents.now c.args.node.kids xs are))
    (ap (λ (l : List (Option FileThing)). file_thing l c.in-Ok.m) (sym c.deref.ensures.value) ∙ sym c.in-Some.ensures)

pub define-requires-clause-new : goal.define-requires-clause-new
define-requires-clause-new c =
    let stored = c.requires.0.0 in
    let replays = c.requires.0.1 in
    let can = c.requires.1 stored replays in
    let before = gained c.args.self.now.state c.args.contents.now c.intern_node.new.self stored c.in-Ok.m c.args.node replays.stands c.in-Ok.ensures.gains c.intern_node.ensures.tidy in (
      stored,
      thing c.args.node.tag c.args.node.text (kids_of can.0),
      c.grow.ensures.stands c.intern_node.new.self stored before,
      record {
        stands = c.in-Ok.ensures.thing (kids_of can.0) (each_stands c.args.self.now.state.things.items c.args.contents.now c.args.node.kids can.0 can.1);
        not_yet = ap (λ (l : List (Option FileThing)). file_thing l c.in-Ok.m) (sym c.deref.ensures.value) ∙ sym c.in_default.ensures;
        formed = can.2;
        kids = kids_live c.args.self.now.state c.args.contents.now stored replays.stands c.args.node.kids can.0 can.1;
      },
    )

pub returns-in-Ok-push-clause-applied : goal.returns-in-Ok-push-clause-applied
returns-in-Ok-push-clause-applied c = λ stored xs replays are formed.
    let before = gained c.args.self.now.state c.args.contents.now c.intern_node.new.self stored c.in-Ok.m c.args.node replays.stands c.in-Ok.ensures.gains c.intern_node.ensures.tidy in
    let stands = c.grow.ensures.stands c.intern_node.new.self stored before in
    let s = c.in-Ok.ensures.thing (kids_of xs) (each_stands c.args.self.now.state.things.items c.args.contents.now c.args.node.kids xs are) in
    let not_yet = ap (λ (l : List (Option FileThing)). file_thing l c.in-Ok.m) (sym c.deref.ensures.value) ∙ sym c.in_default.ensures in (
      new_among c.grow.new.self c.intern_node.new.self stored c.in-Ok.m (thing c.args.node.tag c.args.node.text (kids_of xs)) stands s not_yet,
      record {
        stands = c.in-Ok-define.ensures.stands stored (thing c.args.node.tag c.args.node.text (kids_of xs)) stands (record {
          stands = s;
          not_yet = not_yet;
          formed = formed;
          kids = kids_live c.args.self.now.state c.args.contents.now stored replays.stands c.args.node.kids xs are;
        });
        held = held_with c.grow.new.self c.define.new.self c.intern_node.new.self c.in-Ok.m c.in-Ok-define.ensures.others
            (held_then c.args.contents.now c.intern_node.new.self c.in-Ok.m c.args.node c.in-Ok.ensures.gains)
            (still_held c.args.self.now.state c.grow.new.self c.intern_node.new.self c.grow.ensures.numbers.0
            (held_gained c.args.self.now.state.things.items c.args.contents.now c.intern_node.new.self c.in-Ok.m c.args.node c.in-Ok.ensures.gains replays.held));
        index = subst (λ (l : List (Option Number)). IsIndexOf l c.define.new.self) (sym c.in-Ok-push.ensures.items)
            (index_gains c.args.self.now.index.items c.grow.new.self c.define.new.self c.in-Ok.m
            (same_index c.args.self.now.index.items c.args.self.now.state c.grow.new.self replays.index c.grow.ensures.numbers.0 c.grow.ensures.numbers.1)
            (ap (λ (o : Option FileThing). option_map (λ t. t.number) o) not_yet) c.in-Ok-define.ensures.number c.in-Ok-define.ensures.others c.in-Ok-define.ensures.defined);
      },
    )
