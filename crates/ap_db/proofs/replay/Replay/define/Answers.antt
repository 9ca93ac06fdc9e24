use Rattle.std.proofs.Common.{◌∙◌, ℕ, List, Option, Vec, Global, sym, subst, ap}
use Rattle.ap_content.specs.Things.{thing, kids_of}
use Rattle.ap_content.specs.Entries.{StandEach}
use Rattle.ap_content.specs.declared.node.Number.{Number}
use Rattle.ap_rows.specs.Forms.{has_form}
use Rattle.ap_db.specs.Stored.{things_at, and_thing}
use Rattle.ap_db.specs.Listed.{AreAll, AreBoth}
use Rattle.ap_db.specs.States.{Names, IsIndexOf}
use Rattle.ap_db.proofs.Told.{on_ok}
use Rattle.ap_db.proofs.Taking.{both_some, both_none, each_stands, kids_formed, define_taken, define_unformed, define_again, define_unknown}
use Rattle.ap_db.proofs.replay.Replay.define.Goals as goal

pub returns-in-Ok-None-clause-refused : goal.returns-in-Ok-None-clause-refused
returns-in-Ok-None-clause-refused c = λ e stored replays.
    let state = c.args.self.now.state in
    let contents = c.args.contents.now in
    let index = subst (λ (l : List (Option Number)). IsIndexOf l state) (sym c.deref.ensures.value) replays.index in
    let none = both_none {X = Vec Number Global} (λ numbers things. AreAll (Names state.things.items contents) numbers.items things) (things_at stored c.as_slice.result.now) (subst (λ o. AreBoth {X = Vec Number Global} (λ numbers things. AreAll (Names state.things.items contents) numbers.items things) o (things_at stored c.as_slice.result.now)) c.in-Ok-None.field-0-is (c.in-Ok-None.ensures state contents stored replays.stands index)) in
    define_unknown stored c.args.tag c.args.text c.args.kids (ap (λ (l : List Number). things_at stored l) (sym c.as_slice.ensures) ∙ none)

pub returns-then-not-has_form-clause-refused : goal.returns-then-not-has_form-clause-refused
returns-then-not-has_form-clause-refused c = λ e stored replays.
    let state = c.args.self.now.state in
    let contents = c.args.contents.now in
    let index = subst (λ (l : List (Option Number)). IsIndexOf l state) (sym c.deref.ensures.value) replays.index in
    let found = both_some {X = Vec Number Global} (λ numbers things. AreAll (Names state.things.items contents) numbers.items things) c.in-Ok-Some.numbers (things_at stored c.as_slice.result.now) (subst (λ o. AreBoth {X = Vec Number Global} (λ numbers things. AreAll (Names state.things.items contents) numbers.items things) o (things_at stored c.as_slice.result.now)) c.in-Ok-Some.field-0-is (c.in-Ok-Some.ensures state contents stored replays.stands index)) in
    let at = ap (λ (l : List Number). things_at stored l) (sym c.as_slice.ensures) ∙ found.1 in
    let each = subst (λ (l : List Number). StandEach contents l (kids_of found.0)) (sym c.deref-2.ensures.value) (each_stands state.things.items contents c.in-Ok-Some.numbers.items found.0 found.2) in
    let forms = kids_formed state contents stored replays.stands c.in-Ok-Some.numbers.items found.0 found.2 in
    define_unformed stored c.args.tag c.args.text c.args.kids found.0 at
    (ap (λ (t : List ℕ). has_form (thing c.args.tag t (kids_of found.0))) (sym c.as_slice-2.ensures) ∙ sym (c.has_form.ensures (kids_of found.0) each forms) ∙ c.if-not-has_form.true)

pub define_node-requires : goal.define_node-requires
define_node-requires c = (
  c.requires,
  λ stored replays.
      let state = c.args.self.now.state in
      let contents = c.args.contents.now in
      let index = subst (λ (l : List (Option Number)). IsIndexOf l state) (sym c.deref.ensures.value) replays.index in
      let found = both_some {X = Vec Number Global} (λ numbers things. AreAll (Names state.things.items contents) numbers.items things) c.in-Ok-Some.numbers (things_at stored c.as_slice.result.now) (subst (λ o. AreBoth {X = Vec Number Global} (λ numbers things. AreAll (Names state.things.items contents) numbers.items things) o (things_at stored c.as_slice.result.now)) c.in-Ok-Some.field-0-is (c.in-Ok-Some.ensures state contents stored replays.stands index)) in
      let each = subst (λ (l : List Number). StandEach contents l (kids_of found.0)) (sym c.deref-2.ensures.value) (each_stands state.things.items contents c.in-Ok-Some.numbers.items found.0 found.2) in
      let forms = kids_formed state contents stored replays.stands c.in-Ok-Some.numbers.items found.0 found.2 in (
        found.0,
        subst (λ (l : List Number). AreAll (Names state.things.items contents) l found.0) (sym c.of.ensures) found.2,
        ap (λ (t : List ℕ). has_form (thing c.args.tag t (kids_of found.0))) (sym c.as_slice-2.ensures) ∙ sym (c.has_form.ensures (kids_of found.0) each forms) ∙ c.if-not-has_form.false,
      ),
)

pub returns-clause-applied : goal.returns-clause-applied
returns-clause-applied c = on_ok c.define_node.result _ _ c.define_node.ensures.applied (λ defined stored replays.
    let state = c.args.self.now.state in
    let contents = c.args.contents.now in
    let index = subst (λ (l : List (Option Number)). IsIndexOf l state) (sym c.deref.ensures.value) replays.index in
    let found = both_some {X = Vec Number Global} (λ numbers things. AreAll (Names state.things.items contents) numbers.items things) c.in-Ok-Some.numbers (things_at stored c.as_slice.result.now) (subst (λ o. AreBoth {X = Vec Number Global} (λ numbers things. AreAll (Names state.things.items contents) numbers.items things) o (things_at stored c.as_slice.result.now)) c.in-Ok-Some.field-0-is (c.in-Ok-Some.ensures state contents stored replays.stands index)) in
    let at = ap (λ (l : List Number). things_at stored l) (sym c.as_slice.ensures) ∙ found.1 in
    let each = subst (λ (l : List Number). StandEach contents l (kids_of found.0)) (sym c.deref-2.ensures.value) (each_stands state.things.items contents c.in-Ok-Some.numbers.items found.0 found.2) in
    let forms = kids_formed state contents stored replays.stands c.in-Ok-Some.numbers.items found.0 found.2 in
    let formed = ap (λ (t : List ℕ). has_form (thing c.args.tag t (kids_of found.0))) (sym c.as_slice-2.ensures) ∙ sym (c.has_form.ensures (kids_of found.0) each forms) ∙ c.if-not-has_form.false in
    let are = subst (λ (l : List Number). AreAll (Names state.things.items contents) l found.0) (sym c.of.ensures) found.2 in
    let done = defined stored found.0 replays are formed in (
      and_thing stored (thing c.args.tag c.args.text (kids_of found.0)),
      define_taken stored c.args.tag c.args.text c.args.kids found.0 at formed done.0,
      done.1,
    ))

pub returns-clause-refused : goal.returns-clause-refused
returns-clause-refused c = λ e stored replays.
    let state = c.args.self.now.state in
    let contents = c.args.contents.now in
    let index = subst (λ (l : List (Option Number)). IsIndexOf l state) (sym c.deref.ensures.value) replays.index in
    let found = both_some {X = Vec Number Global} (λ numbers things. AreAll (Names state.things.items contents) numbers.items things) c.in-Ok-Some.numbers (things_at stored c.as_slice.result.now) (subst (λ o. AreBoth {X = Vec Number Global} (λ numbers things. AreAll (Names state.things.items contents) numbers.items things) o (things_at stored c.as_slice.result.now)) c.in-Ok-Some.field-0-is (c.in-Ok-Some.ensures state contents stored replays.stands index)) in
    let at = ap (λ (l : List Number). things_at stored l) (sym c.as_slice.ensures) ∙ found.1 in
    let are = subst (λ (l : List Number). AreAll (Names state.things.items contents) l found.0) (sym c.of.ensures) found.2 in
    define_again stored c.args.tag c.args.text c.args.kids found.0 at (c.define_node.ensures.refused e stored found.0 replays are)
