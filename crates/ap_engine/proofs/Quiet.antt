-- A file that names nothing reaches nothing, and the sources of a quiet project rise by path.
use Rattle.std.proofs.Common.{◌≡◌, ℕ, zero, suc, not, List, [], ◌∷◌, length, map, Contains, refl, ap}
use Rattle.std.specs.Prelude.{bytes_eq}
use Rattle.std.specs.List.{filter, flat_map}
use Rattle.std.specs.List.Sorted.{IsStrictlySortedBy}
use Rattle.std.specs.Ordering.{on}
use Rattle.std.proofs.lemmas.List.Kept.{IsStrictlySortedBy-filter}
use Rattle.ap_text.specs.Order.{bytes_cmp, in_order}
use Rattle.ap_text.specs.Chain.{ends}
use Rattle.ap_config.specs.declared.config.Config.{Config}
use Rattle.ap_scan.specs.declared.results.Winner.{Winner}
use Rattle.ap_builder.specs.Meanings.{Meanings}
use Rattle.ap_sources.specs.Sources.{matching, is_some_item, sources, seen_at, targets, reach, reached}
use Rattle.ap_create.specs.Creation.{create_from}
use Rattle.ap_engine.specs.Worlds.{AreQuiet}
use Rattle.ap_engine.proofs.RisingLists.{keys_rise}

-- no chain leads from what leads nowhere
pub no_ends : {X : Type 0} (next : X → List X) (n : ℕ) (a : X) → next a ≡ [] → ends next n a ≡ []
no_ends next zero a e = refl
no_ends next (suc n) a e = ap (flat_map (λ b. b ∷ ends next n b)) e

module _ (builders : Meanings) (config : Config) (winners : List Winner) where
  pub nothing_is_reached : (path : List ℕ) → targets builders config winners path ≡ [] → reached builders config winners path ≡ []
  nothing_is_reached path e =
      let none : reach builders config winners path ≡ [] = ap (λ paths. in_order bytes_cmp (filter (λ other. not (bytes_eq other path)) paths)) (no_ends (targets builders config winners) (length winners) path e) in
      ap (map (λ other. (other, seen_at winners other))) none

  module _ (quiet : AreQuiet builders config winners) where
    -- nothing is reached from a source
    pub source_reaches_nothing : (winner : Winner) → Contains (sources config winners) winner → reached builders config winners winner.path ≡ []
    source_reaches_nothing winner is = nothing_is_reached winner.path (quiet.untargeted winner is)

    pub creation_reaches_nothing : (winner : Winner) → Contains (sources config winners) winner → (create_from builders config winners winner.path).reached ≡ []
    creation_reaches_nothing winner is = source_reaches_nothing winner is

    -- the sources rise by path
    pub sources_rise : IsStrictlySortedBy (on (λ winner. winner.path) bytes_cmp) (sources config winners)
    sources_rise = IsStrictlySortedBy-filter (on (λ winner. winner.path) bytes_cmp) (λ winner. is_some_item (matching config winner.path)) winners quiet.rise

    pub paths_rise : IsStrictlySortedBy bytes_cmp (map (λ winner. winner.path) (sources config winners))
    paths_rise = keys_rise bytes_cmp (λ winner. winner.path) (sources config winners) sources_rise
