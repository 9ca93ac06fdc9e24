use Rattle.std.proofs.Common.{List, sym, ◌∙◌, subst}
use Rattle.ap_content.specs.Entries.{Stands}
use Rattle.ap_content.specs.declared.node.Number.{Number}
use Rattle.ap_db.specs.Commit.{new_things}
use Rattle.ap_db.specs.CommitLaw.{grown}
use Rattle.ap_db.specs.Listed.{AreAll}
use Rattle.ap_db.specs.Planned.{IsAsked}
use Rattle.ap_db.proofs.Planning.{written_right}
use Rattle.ap_db.proofs.state.State.plan.Goals as goal

pub plan_rows-requires : goal.plan_rows-requires
plan_rows-requires c =
    let r = c.requires in (
      c.args.self.now,
      r.0,
      r.1,
      record {
        takes = r.2;
        unnamed = r.3;
        new = subst (λ (l : List Number). AreAll (Stands c.args.contents.now) l (new_things r.0 r.1)) (sym c.deref.ensures.value) (c.in_ok-defined.ensures.gives r.0 r.1 r.2);
      },
      c.in_ok-defined.ensures.stands r.0 r.1 r.2,
    )

pub undefine_all-requires : goal.undefine_all-requires
undefine_all-requires c =
    let r = c.requires in (
      r.0,
      new_things r.0 r.1,
      r.2.well,
      grown r.0 r.1 r.2.well r.2.lawful,
      c.in-Err.ensures.undone c.args.self.now r.0 r.1
          (record { takes = r.2; unnamed = r.3; new = subst (λ (l : List Number). AreAll (Stands c.args.contents.now) l (new_things r.0 r.1)) (sym c.deref.ensures.value) (c.in_ok-defined.ensures.gives r.0 r.1 r.2) })
          (c.in_ok-defined.ensures.stands r.0 r.1 r.2),
      subst (λ (l : List Number). AreAll (Stands c.args.contents.now) l (new_things r.0 r.1)) (sym c.deref-in-Err.ensures.value) (c.in_ok-defined.ensures.gives r.0 r.1 r.2),
    )

pub returns-in-Ok-clause-planned : goal.returns-in-Ok-clause-planned
returns-in-Ok-clause-planned c = λ stored plain takes loose.
    let gives = c.in_ok-defined.ensures.gives stored plain takes in
    let asked : IsAsked c.args.self.now c.args.contents.now stored c.args.items.now plain c.args.loose.now c.deref.result.now = record { takes = takes; unnamed = loose; new = subst (λ (l : List Number). AreAll (Stands c.args.contents.now) l (new_things stored plain)) (sym c.deref.ensures.value) gives } in
    let put = c.in-Ok.ensures.put c.args.self.now stored plain asked (c.in_ok-defined.ensures.stands stored plain takes) in
    record {
      takes = takes;
      written = c.of.ensures ∙ written_right stored plain takes.well takes.lawful c.new-written.result.items c.define_named.new.written.items c.plan_rows.new.written.items c.new-written.ensures.items
          (c.in_ok-defined.ensures.written stored plain takes) put.2;
      defined = gives;
      swept = put.1;
      rows = put.0;
    }

pub returns-in-Err-clause-undone : goal.returns-in-Err-clause-undone
returns-in-Err-clause-undone c = λ stored plain takes loose.
    let gives = c.in_ok-defined.ensures.gives stored plain takes in
    let asked : IsAsked c.args.self.now c.args.contents.now stored c.args.items.now plain c.args.loose.now c.deref.result.now = record { takes = takes; unnamed = loose; new = subst (λ (l : List Number). AreAll (Stands c.args.contents.now) l (new_things stored plain)) (sym c.deref.ensures.value) gives } in
    c.undefine_all.ensures stored (new_things stored plain) takes.well (grown stored plain takes.well takes.lawful)
    (c.in-Err.ensures.undone c.args.self.now stored plain asked (c.in_ok-defined.ensures.stands stored plain takes))
    (subst (λ (l : List Number). AreAll (Stands c.args.contents.now) l (new_things stored plain)) (sym c.deref-in-Err.ensures.value) gives)
