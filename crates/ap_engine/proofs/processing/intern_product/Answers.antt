use Rattle.std.proofs.Common.{[], ◌∷◌, sym, subst}
use Rattle.ap_content.specs.Things.{Kids, thing, no_kids, kid, bytes_thing}
use Rattle.ap_content.specs.Entries.{Stands, StandEach}
use Rattle.ap_content.specs.declared.node.Node.{Node}
use Rattle.ap_rows.specs.Inputs.{products_thing}
use Rattle.ap_builder.specs.Views.{plain_of}
use Rattle.ap_db.specs.Stored.{Stored}
use Rattle.ap_engine.specs.Ledgers.{IsBeside, IsHeld, StayHeld}
use Rattle.ap_engine.proofs.Outcomes.{if_ok, on_map}
use Rattle.ap_engine.proofs.ProductThings.{product_thing}
use Rattle.ap_engine.proofs.processing.intern_product.Goals as goal

pub returns-clause-held : goal.returns-clause-held
returns-clause-held c =
    let old = c.args.ledger.now in
    let mid = c.intern.new.self in
    let new = c.intern_node.new.self in
    let node = c.in_ok-node.node in
    let product = c.args.product in
    if_ok c.intern_node.result
    (λ n. (stored : Stored) → IsBeside mid.db mid.contents stored → (kids : Kids) → StandEach mid.contents node.kids kids → IsHeld new.db new.contents n (thing node.tag node.text kids))
    (λ n. (stored : Stored) → IsBeside mid.db mid.contents stored → (kids : Kids) → StandEach mid.contents node.kids kids → IsHeld new.db new.contents n (thing node.tag node.text kids))
    (λ n. (stored : Stored) → IsBeside old.db old.contents stored → IsHeld new.db new.contents n (products_thing (plain_of product ∷ [])))
    c.intern_node.ensures.held c.intern_node.ensures.held
    (λ n held again stored is.
    let stands = subst (λ bytes. Stands mid.contents c.in_ok-bytes.bytes (bytes_thing bytes)) c.as_slice.ensures (c.in_ok-bytes.ensures.held stored is).stands in
    subst (IsHeld new.db new.contents n) (product_thing c.in_ok-bytes.bytes product node c.in_ok-node.ensures)
    (held stored (c.in_ok-bytes.ensures.beside stored is) (kid (bytes_thing product.bytes) no_kids)
    (subst (λ (node : Node). StandEach mid.contents node.kids (kid (bytes_thing product.bytes) no_kids)) (sym c.in_ok-node.ensures) (stands, tt))))

pub returns-clause-stay : goal.returns-clause-stay
returns-clause-stay c =
    let old = c.args.ledger.now in
    let mid = c.intern.new.self in
    let new = c.intern_node.new.self in
    on_map c.intern_node.result ((stored : Stored) → IsBeside mid.db mid.contents stored → StayHeld mid.db mid.contents new.db new.contents)
    ((stored : Stored) → IsBeside old.db old.contents stored → StayHeld old.db old.contents new.db new.contents) c.intern_node.ensures.stay
    (λ stay stored is n x held. stay stored (c.in_ok-bytes.ensures.beside stored is) n x (c.in_ok-bytes.ensures.stay stored is n x held))
