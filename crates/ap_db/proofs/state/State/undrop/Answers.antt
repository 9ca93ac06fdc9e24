use Rattle.std.proofs.Common.{◌∙◌, ◌+◌, List, length, sym, ap, inl, refl, arith}
use Rattle.ap_content.specs.declared.node.Number.{Number}
use Rattle.ap_db.specs.States.{file_thing}
use Rattle.ap_db.specs.Naming.{raised, times_of}
use Rattle.ap_db.proofs.Dropping.{has_node}
use Rattle.ap_db.proofs.Renaming.{have_room}
use Rattle.ap_db.proofs.Returning.{names_then, is_undropped}
use Rattle.ap_db.proofs.state.State.undrop.Goals as goal

pub returns-in_default-clause-stands : goal.returns-in_default-clause-stands
returns-in_default-clause-stands c = λ stored has.
    let node = has_node c.args.contents.now c.args.dropped.m has.spare.0.value has.spare.0.stands in
    absurd (cc (c.in_default.ensures.node, node.1))

pub overflow_add-names : goal.overflow_add-names
overflow_add-names c =
    let then = names_then c.args.self.now c.args.contents.now c.requires.0 c.args.dropped c.requires.1 c.in-Some.node.now (sym c.in-Some.ensures.node) in
    let long = ap (λ (l : List Number). length l) c.as_slice-kids.ensures in
    omega (arith, then, long, c.requires.1.room)

pub name_kids-requires : goal.name_kids-requires
name_kids-requires c =
    let then = names_then c.args.self.now c.args.contents.now c.requires.0 c.args.dropped c.requires.1 c.in-Some.node.now (sym c.in-Some.ensures.node) in
    let long = ap (λ (l : List Number). length l) c.as_slice-kids.ensures in
    have_room c.args.self.now c.args.contents.now _ _ c.requires.1.stands (omega (arith, then, long, c.requires.1.room))

pub set-requires : goal.set-requires
set-requires c =
    let fits = c.requires.1.fit c.args.dropped (inl refl) in
    let long = c.name_kids.ensures.kept.2 in
    omega (arith, fits, long)

pub returns-clause-stands : goal.returns-clause-stands
returns-clause-stands c = λ stored has. is_undropped c.args.self.now c.args.contents.now stored c.args.dropped has c.in-Some.node.now (sym c.in-Some.ensures.node) c.set.new.self
    (c.set.ensures.kept.0 ∙ c.name_kids.ensures.kept.0)
    (c.set.ensures.kept.1 ∙ c.name_kids.ensures.kept.1)
    (c.set.ensures.kept.2 ∙ c.name_kids.ensures.names ∙ ap (λ (l : List Number). c.args.self.now.names + length l) c.as_slice-kids.ensures)
    c.set.ensures.here
    (λ k apart. c.set.ensures.others k apart ∙ c.name_kids.ensures.counts k ∙ ap (λ (l : List Number). raised (times_of l k) (file_thing c.args.self.now.things.items k)) c.as_slice-kids.ensures)
