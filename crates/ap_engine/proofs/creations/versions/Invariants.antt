use Rattle.std.proofs.Common.{◌≡◌, take, map}
use Rattle.ap_engine.specs.Asked.{versions_of}
use Rattle.ap_engine.proofs.creations.versions.Given as goal

abbrev pub invariant-loop-offer : goal.invariant-loop-offer
invariant-loop-offer l = l.list.items ≡ versions_of (map (λ offer. offer.now) (take l.offer-index l.offers))
