use Rattle.std.proofs.Common.{All, subst, arith}
use Rattle.std.proofs.lemmas.List.{take_all}
use Rattle.std.proofs.lemmas.List.Elements.{All-more}
use Rattle.ap_config.specs.declared.offer.Offer.{Offer}
use Rattle.ap_rows.specs.InputRanges.{IsBuilder}
use Rattle.ap_engine.proofs.creations.read_builders.Goals as goal

pub loop-offer-preserved : goal.loop-offer-preserved
loop-offer-preserved c =
    let IsListed = λ (offer : Offer). IsBuilder (offer.name, offer.version) in
    All-more IsListed c.args.offers.now c.loop-offer.offer-index c.offer-item.result (omega arith) c.loop-offer.invariant (subst IsListed c.offer-item.is (c.as_slice-name.ensures.name, c.look_at_number.ensures))

pub returns-clause-each : goal.returns-clause-each
returns-clause-each c =
    let IsListed = λ (offer : Offer). IsBuilder (offer.name, offer.version) in
    subst (All IsListed) (take_all c.loop-offer.offer-index c.args.offers.now (omega arith)) c.loop-offer.invariant
