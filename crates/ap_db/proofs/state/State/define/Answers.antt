use Rattle.std.proofs.Common.{◌+◌, ◌∙◌, ℕ, List, Some, length, sym, ap, arith}
use Rattle.ap_content.specs.declared.node.Number.{Number}
use Rattle.ap_db.specs.States.{file_thing}
use Rattle.ap_db.specs.Naming.{raised, times_of}
use Rattle.ap_db.proofs.Renaming.{have_room}
use Rattle.ap_db.proofs.Defining.{is_defined}
use Rattle.ap_db.proofs.state.State.define.Goals as goal

pub name_kids-requires : goal.name_kids-requires
name_kids-requires c = have_room c.args.self.now c.args.contents.now c.requires.new.0 _ c.requires.new.2 (omega (arith, c.in-Some-checked_add.ensures))

pub returns-clause-stands : goal.returns-clause-stands
returns-clause-stands c = λ stored x stands is. is_defined c.args.self.now c.set.new.self c.args.contents.now stored c.args.m x c.in-Some.node.now stands is
    (sym c.in-Some.ensures.node)
    (c.set.ensures.kept.0 ∙ c.name_kids.ensures.kept.0)
    (c.set.ensures.kept.1 ∙ c.in-Some-checked_add-2.ensures.1)
    (c.set.ensures.kept.2 ∙ c.name_kids.ensures.names ∙ c.in-Some-checked_add.ensures.1 ∙ ap (λ (l : List Number). c.args.self.now.names + length l) c.as_slice-kids.ensures)
    (c.set.ensures.here ∙ ap (λ (n : ℕ). Some (record { number = n; named = 0 })) c.in-Some-checked_add-2.ensures.1)
    (λ k apart. c.set.ensures.others k apart ∙ c.name_kids.ensures.counts k ∙ ap (λ (l : List Number). raised (times_of l k) (file_thing c.args.self.now.things.items k)) c.as_slice-kids.ensures)
