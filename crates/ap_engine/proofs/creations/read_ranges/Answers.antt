use Rattle.std.proofs.Common.{ℕ, List, All, length, subst}
use Rattle.std.proofs.lemmas.List.Elements.{All-contains}
use Rattle.ap_text.specs.NameRules.{IsPlatform}
use Rattle.ap_text.specs.PathRules.{IsRelPath}
use Rattle.ap_config.specs.declared.offer.Offer.{Offer}
use Rattle.ap_rows.specs.InputRanges.{Fits64, IsBuilder}
use Rattle.ap_engine.specs.declared.source.Source.{Source}
use Rattle.ap_engine.proofs.PutCreations.{in_ranges}
use Rattle.ap_engine.proofs.creations.read_ranges.Goals as goal

pub returns : goal.returns
returns c = λ source has bytes folded.
    let config = c.args.config.now in
    in_ranges config
    (subst (All (λ (offer : Offer). IsBuilder (offer.name, offer.version))) c.as_slice.ensures c.read_builders.ensures.each)
    (subst (λ (offers : List Offer). Fits64 (length offers)) c.as_slice.ensures c.read_builders.ensures.count)
    (subst (All IsPlatform) c.as_slice-2.ensures c.read_platforms.ensures.each)
    (subst (λ (platforms : List (List ℕ)). Fits64 (length platforms)) c.as_slice-2.ensures c.read_platforms.ensures.count)
    source.path bytes (All-contains (λ (source : Source). IsRelPath source.path) c.args.all.now source c.read_paths.ensures has) folded
