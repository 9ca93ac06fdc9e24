use Rattle.std.proofs.Common.{◌≡◌, ◌&&◌, length}
use Rattle.std.specs.Prelude.{IsTrue}
use Rattle.std.specs.List.{AllByRecursion, list_any}
use Rattle.ap_text.specs.Wild.{some_matches_lem}
use Rattle.ap_config.specs.declared.offer.Offer.{Offer}
use Rattle.ap_builder.specs.Offers.{is_offered}
use Rattle.ap_sources.specs.Sources.{is_some_item}
use Rattle.ap_cli.proofs.declaring.some_declares.Given as goal

abbrev pub invariant-loop-rest : goal.invariant-loop-rest
invariant-loop-rest g l = record {
  some : list_any (λ (offer : Offer). some_matches_lem offer.patterns l.path && is_some_item (g.B.Builders.declares offer.name l.path l.bytes)) l.rest
      ≡ list_any (λ (offer : Offer). some_matches_lem offer.patterns l.path && is_some_item (g.B.Builders.declares offer.name l.path l.bytes)) l.offers;
  offered : AllByRecursion (λ (offer : Offer). IsTrue (is_offered (g.B.Builders.offers l.builders) offer.name)) l.rest;
}

abbrev pub decreases-loop-rest : goal.decreases-loop-rest
decreases-loop-rest g l = length l.rest
