use Rattle.std.proofs.Common.{◌≡◌, take, map}
use Rattle.ap_rows.specs.InputNodes.{builder_of}
use Rattle.ap_engine.specs.Asked.{versions_of}
use Rattle.ap_engine.proofs.creations.listed.Given as goal

abbrev pub invariant-loop-offer : goal.invariant-loop-offer
invariant-loop-offer l = map builder_of l.list.items ≡ versions_of (map (λ offer. offer.now) (take l.offer-index l.offers))
