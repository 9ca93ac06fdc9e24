use Rattle.std.proofs.Common.{◌∙◌, List, Option, refl, sym, subst, ap, arith}
use Rattle.std.specs.Prelude.{IsSome}
use Rattle.ap_content.specs.declared.node.Number.{Number}
use Rattle.ap_db.specs.declared.things.FileThing.{FileThing}
use Rattle.ap_db.specs.declared.state.State.{State}
use Rattle.ap_db.specs.Stored.{and_no_thing}
use Rattle.ap_db.specs.States.{StandsFor, AreHeld, IsIndexOf, indexed, file_thing}
use Rattle.ap_db.proofs.Taking.{drop_unknown, drop_missing, drop_named, drop_taken, index_forgets}
use Rattle.ap_db.proofs.Holding.{held_without}
use Rattle.ap_db.proofs.replay.Replay.drop_thing.Goals as goal

pub returns-in_default-clause-refused : goal.returns-in_default-clause-refused
returns-in_default-clause-refused c = λ e stored replays.
    drop_unknown c.args.self.now.state c.args.contents.now stored c.args.self.now.index.items replays.stands replays.index c.args.n
    (ap (λ (l : List (Option Number)). indexed l c.args.n.0) (sym c.deref.ensures.value) ∙ sym c.in_default.ensures)

pub returns-in_default-thing_of-clause-refused : goal.returns-in_default-thing_of-clause-refused
returns-in_default-thing_of-clause-refused c = λ e stored replays.
    drop_missing c.args.self.now.state c.args.contents.now stored c.args.self.now.index.items replays.stands replays.index c.args.n c.in-Some.m
    (ap (λ (l : List (Option Number)). indexed l c.args.n.0) (sym c.deref.ensures.value) ∙ sym c.in-Some.ensures)
    (ap (λ (l : List (Option FileThing)). file_thing l c.in-Some.m) (sym c.deref-2.ensures.value) ∙ sym c.in_default-thing_of.ensures)

pub returns-then-thing-gt0-clause-refused : goal.returns-then-thing-gt0-clause-refused
returns-then-thing-gt0-clause-refused c = λ e stored replays.
    drop_named c.args.self.now.state c.args.contents.now stored c.args.self.now.index.items replays.stands replays.index c.args.n c.in-Some.m
    (ap (λ (l : List (Option Number)). indexed l c.args.n.0) (sym c.deref.ensures.value) ∙ sym c.in-Some.ensures)
    c.in-Some-thing_of.thing
    (ap (λ (l : List (Option FileThing)). file_thing l c.in-Some.m) (sym c.deref-2.ensures.value) ∙ sym c.in-Some-thing_of.ensures)
    c.if-thing-gt0.true

pub release-requires-clause-held : goal.release-requires-clause-held
release-requires-clause-held c =
    let is = ap (λ (l : List (Option FileThing)). file_thing l c.in-Some.m) (sym c.deref-2.ensures.value) ∙ sym c.in-Some-thing_of.ensures in
    c.requires.1.held c.in-Some.m (subst IsSome (sym is) refl)

pub returns-clause-applied : goal.returns-clause-applied
returns-clause-applied c = λ stored replays.
    let at = ap (λ (l : List (Option Number)). indexed l c.args.n.0) (sym c.deref.ensures.value) ∙ sym c.in-Some.ensures in
    let is = ap (λ (l : List (Option FileThing)). file_thing l c.in-Some.m) (sym c.deref-2.ensures.value) ∙ sym c.in-Some-thing_of.ensures in
    let held = held_without c.args.self.now.state c.take_out.new.self c.args.contents.now c.in-Some.m c.take_out.ensures.others c.take_out.ensures.number replays.held in
    let same = c.forget.ensures.kept.0 in (
      and_no_thing stored c.args.n.0,
      drop_taken c.args.self.now.state c.args.contents.now stored c.args.self.now.index.items replays.stands replays.index c.args.n c.in-Some.m at c.in-Some-thing_of.thing is (omega (arith, c.if-thing-gt0.false)),
      record {
        stands = subst (λ s. StandsFor s c.release.new.contents (and_no_thing stored c.args.n.0)) (sym same)
            (c.release.ensures.stands (and_no_thing stored c.args.n.0) (c.take_out.ensures.stands stored c.args.n.0 replays.stands (replays.index.points c.args.n.0 c.in-Some.m at)) held);
        held = subst (λ (s : State). AreHeld s.things.items c.release.new.contents) (sym same) (c.release.ensures.held held);
        index = subst (λ s. IsIndexOf c.forget.new.self.index.items s) (sym same)
            (index_forgets c.args.self.now.index.items c.forget.new.self.index.items c.args.self.now.state c.take_out.new.self c.in-Some.m c.args.n.0 replays.index at
            c.forget.ensures.kept.1 c.forget.ensures.here c.forget.ensures.others c.take_out.ensures.number c.take_out.ensures.others c.take_out.ensures.kept.1);
      },
    )
