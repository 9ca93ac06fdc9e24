use Rattle.std.proofs.Common.{List, ◌++◌, refl, sym, ◌∙◌, ap, subst}
use Rattle.ap_rows.specs.declared.change.Item.{Item}
use Rattle.ap_db.specs.declared.state.State.{State}
use Rattle.ap_db.specs.Stored.{Stored}
use Rattle.ap_db.specs.Commit.{PlainItem, new_live, drops}
use Rattle.ap_db.specs.CommitLaw.{after_defines, after_puts}
use Rattle.ap_db.specs.Planned.{IsAsked}
use Rattle.ap_db.specs.Putting.{AreAllPut}
use Rattle.ap_db.specs.States.{StandsFor}
use Rattle.ap_db.proofs.FileNumbers.{numbers_of_commit}
use Rattle.ap_db.proofs.NamedItems.{items_in_file}
use Rattle.ap_db.proofs.Planning.{err_any}
use Rattle.ap_db.proofs.Unplanning.{rows_again}
use Rattle.ap_db.proofs.state.State.plan_rows.Goals as goal

pub put_items-requires : goal.put_items-requires
put_items-requires c =
    let r = c.requires in
    (c.args.contents.now, after_defines r.1 r.2, r.2, r.4, items_in_file c.args.contents.now r.0 c.args.self.now r.1 c.args.items.now r.2 r.3.takes r.4)

pub returns-in_err-olds-clause-undone : goal.returns-in_err-olds-clause-undone
returns-in_err-olds-clause-undone c =
    let k = c.args.contents.now in
    err_any
    ((old : State) (stored : Stored) (plain : List PlainItem) → IsAsked old k stored c.args.items.now plain c.args.loose.now c.args.defined.now → StandsFor c.args.self.now k (after_defines stored plain)
    → StandsFor c.put_items.new.self k (after_defines stored plain))
    c.from_residual-in_err-olds.result
    (λ old stored plain asked stands. c.in_err-olds.ensures.undone k (after_defines stored plain) plain stands (items_in_file k old c.args.self.now stored c.args.items.now plain asked.takes stands))

pub plan_drops-requires : goal.plan_drops-requires
plan_drops-requires c =
    let r = c.requires in
    let names = items_in_file c.args.contents.now r.0 c.args.self.now r.1 c.args.items.now r.2 r.3.takes r.4 in (
      r.0,
      r.1,
      r.2,
      c.args.items.now,
      r.3,
      subst (AreAllPut c.put_items.new.self c.args.contents.now (after_defines r.1 r.2) r.2 c.args.items.now) (sym c.deref.ensures.value)
          (c.in_ok-olds.ensures.put c.args.contents.now (after_defines r.1 r.2) r.2 r.4 names),
    )

pub unput_items-requires : goal.unput_items-requires
unput_items-requires c =
    let r = c.requires in
    let names = items_in_file c.args.contents.now r.0 c.args.self.now r.1 c.args.items.now r.2 r.3.takes r.4 in
    let put = c.in_ok-olds.ensures.put c.args.contents.now (after_defines r.1 r.2) r.2 r.4 names in (
      c.args.contents.now,
      after_defines r.1 r.2,
      r.2,
      rows_again c.put_items.new.self c.plan_drops.new.self c.args.contents.now r.1 c.args.items.now r.2 c.in_ok-olds.olds.items (record { put = c.put_items.new.self; rows = put; same = refl }) c.plan_drops.ensures.kept
          (c.in-Err.ensures.undone r.0 r.1 r.2 c.args.items.now r.3 (subst (AreAllPut c.put_items.new.self c.args.contents.now (after_defines r.1 r.2) r.2 c.args.items.now) (sym c.deref.ensures.value) put)),
    )

pub returns-in-Ok-clause-put : goal.returns-in-Ok-clause-put
returns-in-Ok-clause-put c = λ old stored plain asked stands.
    let k = c.args.contents.now in
    let names = items_in_file k old c.args.self.now stored c.args.items.now plain asked.takes stands in
    let put = c.in_ok-olds.ensures.put k (after_defines stored plain) plain stands names in
    let swept = c.in-Ok.ensures.swept old stored plain c.args.items.now asked (subst (AreAllPut c.put_items.new.self k (after_defines stored plain) plain c.args.items.now) (sym c.deref.ensures.value) put) in
    let written = c.in_ok-write_items.ensures k (stored.live ++ new_live stored plain) (after_defines stored plain) plain stands (numbers_of_commit stored plain asked.takes.well asked.takes.lawful) names in (
      record { put = c.put_items.new.self; rows = put; same = c.plan_drops.ensures.kept },
      swept.0,
      swept.1 ∙ ap (λ (l : List Item). l ++ drops (after_puts stored plain)) written,
    )

pub returns-in-Err-clause-undone : goal.returns-in-Err-clause-undone
returns-in-Err-clause-undone c = λ old stored plain asked stands.
    let k = c.args.contents.now in
    let names = items_in_file k old c.args.self.now stored c.args.items.now plain asked.takes stands in
    let put = c.in_ok-olds.ensures.put k (after_defines stored plain) plain stands names in
    c.unput_items.ensures.undone k (after_defines stored plain) plain
    (rows_again c.put_items.new.self c.plan_drops.new.self k stored c.args.items.now plain c.in_ok-olds.olds.items (record { put = c.put_items.new.self; rows = put; same = refl }) c.plan_drops.ensures.kept
    (c.in-Err.ensures.undone old stored plain c.args.items.now asked (subst (AreAllPut c.put_items.new.self k (after_defines stored plain) plain c.args.items.now) (sym c.deref.ensures.value) put)))
