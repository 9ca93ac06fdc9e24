use Rattle.std.proofs.Common.{◌<◌, List, length, sym, ◌∙◌, ap, subst, rules, slice_index_or}
use Rattle.ap_db.specs.declared.old.Old.{Old}
use Rattle.ap_db.specs.Putting.{ArePut}
use Rattle.ap_db.proofs.PutSteps.{room_for_one, last_within, last_put, others_put, none_put, before_last, last}
use Rattle.ap_db.proofs.state.State.unput_items.Goals as goal

pub bounds-items-len : goal.bounds-items-len
bounds-items-len c =
    let at = c.requires in
    let items = c.args.items.now in
    let front = c.pop.new.self.items in
    let put = subst (λ (l : List Old). ArePut c.loop-old.self at.0 at.1 at.2 items l) c.in-Some.ensures.items (c.loop-old.invariant.0 at.0 at.1 at.2 at.3) in
    subst (λ n. n < length items) (sym (c.len.ensures ∙ c.pop.new.self.ok.0)) (last_within at.0 at.1 at.2 items c.loop-old.self front c.in-Some.old put)

pub offset_bounds-items-len : goal.offset_bounds-items-len
offset_bounds-items-len c =
    let at = c.requires in
    let items = c.args.items.now in
    let front = c.pop.new.self.items in
    let put = subst (λ (l : List Old). ArePut c.loop-old.self at.0 at.1 at.2 items l) c.in-Some.ensures.items (c.loop-old.invariant.0 at.0 at.1 at.2 at.3) in
    let inside : c.len.result < length items = subst (λ n. n < length items) (sym (c.len.ensures ∙ c.pop.new.self.ok.0)) (last_within at.0 at.1 at.2 items c.loop-old.self front c.in-Some.old put) in
    search rules

pub unput_item-requires-clause-room : goal.unput_item-requires-clause-room
unput_item-requires-clause-room c =
    let at = c.requires in
    room_for_one at.0 at.1 at.2 c.args.items.now c.loop-old.self c.loop-old.given.items (c.loop-old.invariant.0 at.0 at.1 at.2 at.3)

pub unput_item-requires-clause-put : goal.unput_item-requires-clause-put
unput_item-requires-clause-put c =
    let at = c.requires in
    let items = c.args.items.now in
    let front = c.pop.new.self.items in
    let put = subst (λ (l : List Old). ArePut c.loop-old.self at.0 at.1 at.2 items l) c.in-Some.ensures.items (c.loop-old.invariant.0 at.0 at.1 at.2 at.3) in
    let long = c.len.ensures ∙ c.pop.new.self.ok.0 in
    let is = ap (λ n. slice_index_or items n c.index-items-len.result) (sym long) ∙ sym c.index-items-len.is in (
      at.0,
      before_last at.0 at.1 at.2 items c.loop-old.self front c.in-Some.old put,
      (last at.0 at.1 at.2 items c.loop-old.self front c.in-Some.old put).item,
      last_put at.0 at.1 at.2 items c.loop-old.self front c.in-Some.old put c.index-items-len.result is,
    )

pub loop-old-preserved : goal.loop-old-preserved
loop-old-preserved c =
    let items = c.args.items.now in
    let front = c.pop.new.self.items in
    let old = c.in-Some.old in
    let state = c.loop-old.self in
    let long = c.len.ensures ∙ c.pop.new.self.ok.0 in
    let is = ap (λ n. slice_index_or items n c.index-items-len.result) (sym long) ∙ sym c.index-items-len.is in (
      λ contents stored plain start.
          let put = subst (λ (l : List Old). ArePut state contents stored plain items l) c.in-Some.ensures.items (c.loop-old.invariant.0 contents stored plain start) in
          let before = before_last contents stored plain items state front old put in
          others_put contents stored plain items state front old put c.unput_item.new.self c.unput_item.ensures.keeps c.unput_item.ensures.numbers.0
          (c.unput_item.ensures.undone contents before (last contents stored plain items state front old put).item (last_put contents stored plain items state front old put c.index-items-len.result is)),
      λ m. c.unput_item.ensures.numbers.0 m ∙ c.loop-old.invariant.1 m,
      c.unput_item.ensures.numbers.1 ∙ c.loop-old.invariant.2,
    )

pub returns-clause-undone : goal.returns-clause-undone
returns-clause-undone c = λ contents stored plain start.
    none_put contents stored plain c.args.items.now c.loop-old.self c.loop-old.given.items (sym c.loop-old.given.ok.0 ∙ c.in_default.ensures.cases.0) (c.loop-old.invariant.0 contents stored plain start)
