use Rattle.std.proofs.Common.{◌∙◌, List, ℕ, map, Bor, refl, ap, sym, subst}
use Rattle.ap_content.specs.Things.{Kids, thing, bytes_thing}
use Rattle.ap_content.specs.Entries.{Stands, StandEach}
use Rattle.ap_config.specs.declared.offer.Offer.{Offer}
use Rattle.ap_rows.specs.Inputs.{create_thing}
use Rattle.ap_rows.specs.InputNodes.{builder_of}
use Rattle.ap_db.specs.Stored.{Stored}
use Rattle.ap_engine.specs.Ledgers.{IsBeside, IsHeld}
use Rattle.ap_engine.specs.Asked.{versions_of, plain_from}
use Rattle.ap_engine.proofs.Outcomes.{if_ok}
use Rattle.ap_engine.proofs.creations.create_input.Goals as goal

pub returns-clause-held : goal.returns-clause-held
returns-clause-held c =
    let db = c.args.ledger.now.db in
    let old = c.args.ledger.now.contents in
    let new = c.intern_node.new.self in
    let node = c.in_ok-node.node in
    let config = c.args.config.now in
    let path = c.args.source.now.path in
    if_ok c.intern_node.result
    (λ n. (stored : Stored) → IsBeside db old stored → (kids : Kids) → StandEach old node.kids kids → IsHeld new.db new.contents n (thing node.tag node.text kids))
    (λ n. (stored : Stored) → IsBeside db old stored → (kids : Kids) → StandEach old node.kids kids → IsHeld new.db new.contents n (thing node.tag node.text kids))
    (λ n. (stored : Stored) → IsBeside db old stored → (bytes : List ℕ) → Stands old c.args.source.now.content (bytes_thing bytes) → IsHeld new.db new.contents n (create_thing (plain_from config path bytes)))
    c.intern_node.ensures.held c.intern_node.ensures.held
    (λ n held again stored is bytes stands.
    let of = c.in_ok-node.ensures.thing old (plain_from config path bytes) (record {
      builders = sym (ap (map builder_of) c.deref-2.ensures.value ∙ c.in_ok-list.ensures ∙ ap (λ (offers : List (Bor Offer)). versions_of (map (λ offer. offer.now) offers)) c.deref.ensures.value ∙ ap versions_of c.in_ok-offers.ensures);
      platforms = sym c.as_slice.ensures;
      path = refl;
      seen = stands;
      reached = tt;
    }) in
    subst (IsHeld new.db new.contents n) of.2 (held stored is of.0 of.1))
