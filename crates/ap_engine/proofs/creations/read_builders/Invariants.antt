use Rattle.std.proofs.Common.{All, take}
use Rattle.ap_rows.specs.InputRanges.{IsBuilder}
use Rattle.ap_engine.proofs.creations.read_builders.Given as goal

abbrev pub invariant-loop-offer : goal.invariant-loop-offer
invariant-loop-offer l = All (λ offer. IsBuilder (offer.name, offer.version)) (take l.offer-index l.offers)
