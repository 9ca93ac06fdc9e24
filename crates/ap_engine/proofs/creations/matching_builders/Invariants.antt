use Rattle.std.proofs.Common.{◌≡◌, take, map, filter}
use Rattle.ap_text.specs.Wild.{some_matches_lem}
use Rattle.ap_engine.proofs.creations.matching_builders.Given as goal

abbrev pub invariant-loop-offer : goal.invariant-loop-offer
invariant-loop-offer l = map (λ offer. offer.now) l.matching.items ≡ filter (λ offer. some_matches_lem offer.patterns l.fn.path) (take l.offer-index l.fn.config.builders)
