use Rattle.std.proofs.Common.{◌≡◌, length}
use Rattle.ap_config.specs.Configuration.{offer_of}
use Rattle.ap_config.proofs.judge.find_offer.Given as goal

abbrev pub invariant-loop-rest : goal.invariant-loop-rest
invariant-loop-rest l = offer_of l.rest l.name ≡ offer_of l.offers l.name

abbrev pub decreases-loop-rest : goal.decreases-loop-rest
decreases-loop-rest l = length l.rest
