use Rattle.std.proofs.Common.{List, sym, subst}
use Rattle.ap_content.specs.declared.node.Number.{Number}
use Rattle.ap_content.specs.Entries.{Stands}
use Rattle.ap_db.specs.Commit.{new_things}
use Rattle.ap_db.specs.CommitLaw.{after_defines, after_puts, grown}
use Rattle.ap_db.specs.Listed.{AreAll}
use Rattle.ap_db.specs.TakenOut.{HasTakenOut}
use Rattle.ap_db.proofs.Unplanning.{rows_again}
use Rattle.ap_db.proofs.state.State.unplan.Goals as goal

pub undrop_all-requires : goal.undrop_all-requires
undrop_all-requires c =
    let planned = c.requires.3 in
    (after_puts c.requires.1 c.requires.2, subst (HasTakenOut c.args.self.now c.args.contents.now (after_puts c.requires.1 c.requires.2)) (sym c.deref.ensures.value) planned.swept.out)

pub unput_items-requires : goal.unput_items-requires
unput_items-requires c = (
  c.args.contents.now,
  after_defines c.requires.1 c.requires.2,
  c.requires.2,
  rows_again c.args.self.now c.undrop_all.new.self c.args.contents.now c.requires.1 c.args.items.now c.requires.2 c.args.plan.olds.items c.requires.3.rows c.undrop_all.ensures.kept.0
      (c.undrop_all.ensures.stands (after_puts c.requires.1 c.requires.2) (subst (HasTakenOut c.args.self.now c.args.contents.now (after_puts c.requires.1 c.requires.2)) (sym c.deref.ensures.value) c.requires.3.swept.out)),
)

pub undefine_all-requires : goal.undefine_all-requires
undefine_all-requires c =
    let stored = c.requires.1 in
    let plain = c.requires.2 in
    let planned = c.requires.3 in (
      stored,
      new_things stored plain,
      planned.takes.well,
      grown stored plain planned.takes.well planned.takes.lawful,
      c.unput_items.ensures.undone c.args.contents.now (after_defines stored plain) plain (rows_again c.args.self.now c.undrop_all.new.self c.args.contents.now stored c.args.items.now plain c.args.plan.olds.items planned.rows c.undrop_all.ensures.kept.0
          (c.undrop_all.ensures.stands (after_puts stored plain) (subst (HasTakenOut c.args.self.now c.args.contents.now (after_puts stored plain)) (sym c.deref.ensures.value) planned.swept.out))),
      subst (λ (l : List Number). AreAll (Stands c.args.contents.now) l (new_things stored plain)) (sym c.deref-2.ensures.value) planned.defined,
    )

pub returns : goal.returns
returns c = λ old stored plain planned.
    c.undefine_all.ensures stored (new_things stored plain) planned.takes.well (grown stored plain planned.takes.well planned.takes.lawful)
    (c.unput_items.ensures.undone c.args.contents.now (after_defines stored plain) plain (rows_again c.args.self.now c.undrop_all.new.self c.args.contents.now stored c.args.items.now plain c.args.plan.olds.items planned.rows c.undrop_all.ensures.kept.0
    (c.undrop_all.ensures.stands (after_puts stored plain) (subst (HasTakenOut c.args.self.now c.args.contents.now (after_puts stored plain)) (sym c.deref.ensures.value) planned.swept.out))))
    (subst (λ (l : List Number). AreAll (Stands c.args.contents.now) l (new_things stored plain)) (sym c.deref-2.ensures.value) planned.defined)
