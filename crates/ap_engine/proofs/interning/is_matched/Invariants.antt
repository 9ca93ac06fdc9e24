use Rattle.std.proofs.Common.{◌≡◌, length}
use Rattle.std.specs.List.{filter}
use Rattle.ap_text.specs.Wild.{some_matches_lem}
use Rattle.ap_config.specs.declared.offer.Offer.{Offer}
use Rattle.ap_sources.specs.Sources.{is_some_item, matching}
use Rattle.ap_engine.proofs.interning.is_matched.Given as goal

abbrev pub invariant-loop-rest : goal.invariant-loop-rest
invariant-loop-rest l = is_some_item (filter (λ (offer : Offer). some_matches_lem offer.patterns l.path) l.rest) ≡ is_some_item (matching l.config l.path)

abbrev pub decreases-loop-rest : goal.decreases-loop-rest
decreases-loop-rest l = length l.rest
