use Rattle.ap_content.specs.Things.{Kids, thing}
use Rattle.ap_content.specs.Entries.{Gains, Stands, StandEach}
use Rattle.ap_db.specs.Stored.{Stored}
use Rattle.ap_engine.specs.Ledgers.{IsBeside, IsHeld, StayHeld}
use Rattle.ap_engine.proofs.Gains.{beside_gained, stay_gained, held_now}
use Rattle.ap_engine.proofs.Outcomes.{on_ok, if_ok}
use Rattle.ap_engine.proofs.ledger.Ledger.intern_node.Goals as goal

pub returns-clause-held : goal.returns-clause-held
returns-clause-held c =
    let db = c.args.self.now.db in
    let old = c.args.self.now.contents in
    let new = c.intern_node.new.self in
    let node = c.args.node.now in
    if_ok c.intern_node.result (λ n. (kids : Kids) → StandEach old node.kids kids → Stands new n (thing node.tag node.text kids)) (λ n. Gains old new n node)
    (λ n. (stored : Stored) → IsBeside db old stored → (kids : Kids) → StandEach old node.kids kids → IsHeld db new n (thing node.tag node.text kids)) c.intern_node.ensures.thing c.intern_node.ensures.gains
    (λ n stands gains stored is kids each. held_now old new n node gains c.intern_node.ensures.tidy db stored (thing node.tag node.text kids) is (stands kids each))

pub returns-clause-beside : goal.returns-clause-beside
returns-clause-beside c =
    let db = c.args.self.now.db in
    let old = c.args.self.now.contents in
    let new = c.intern_node.new.self in
    let node = c.args.node.now in
    on_ok c.intern_node.result (λ n. Gains old new n node) ((stored : Stored) → IsBeside db old stored → IsBeside db new stored) c.intern_node.ensures.gains
    (λ n gains stored is. beside_gained old new n node gains c.intern_node.ensures.tidy db stored is)

pub returns-clause-stay : goal.returns-clause-stay
returns-clause-stay c =
    let db = c.args.self.now.db in
    let old = c.args.self.now.contents in
    let new = c.intern_node.new.self in
    let node = c.args.node.now in
    on_ok c.intern_node.result (λ n. Gains old new n node) ((stored : Stored) → IsBeside db old stored → StayHeld db old db new) c.intern_node.ensures.gains
    (λ n gains stored is. stay_gained old new n node gains c.intern_node.ensures.tidy db stored is)
