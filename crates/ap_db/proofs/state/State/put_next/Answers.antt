use Rattle.std.proofs.Common.{List, sym, subst}
use Rattle.ap_rows.specs.declared.change.Item.{Item}
use Rattle.ap_db.specs.declared.old.Old.{Old}
use Rattle.ap_db.specs.Putting.{ArePutBefore}
use Rattle.ap_db.specs.Said.{ItemIs}
use Rattle.ap_db.specs.States.{Names}
use Rattle.ap_db.specs.Stored.{with_tables}
use Rattle.ap_db.specs.Lawful.{after_plain}
use Rattle.std.specs.Prelude.{fold}
use Rattle.ap_db.proofs.PutSteps.{room_for_one, next_item, one_put}
use Rattle.ap_db.proofs.state.State.put_next.Goals as goal

pub put_item-old-requires-clause-room : goal.put_item-old-requires-clause-room
put_item-old-requires-clause-room c =
    let put = c.requires.put in
    room_for_one put.0 put.1 put.2 put.3 c.args.self.now c.args.olds.now.items put.5.put

pub returns-clause-put : goal.returns-clause-put
returns-clause-put c = λ contents stored plain items rest before.
    let state = c.args.self.now in
    let olds = c.args.olds.now.items in
    let next = next_item contents stored plain items state olds c.args.item.now rest before in
    let now = with_tables stored (fold after_plain stored.tables before.put.has.first) in
    let is = subst (λ (i : Item). ItemIs (Names state.things.items contents) i next.next) (sym c.in_ok-row.ensures) next.is in
    subst (λ (l : List Old). ArePutBefore c.put_item-old.new.self contents stored plain items l rest) (sym c.push_reserved.ensures.items)
    (one_put contents stored plain items state olds c.args.item.now rest before c.put_item-old.new.self c.put_item-old.result c.put_item-old.ensures.keeps c.put_item-old.ensures.numbers.0
    (c.put_item-old.ensures.stands contents now next.next before.put.has.stands is)
    (c.put_item-old.ensures.gives contents now next.next before.put.has.stands is))
