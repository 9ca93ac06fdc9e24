-- A scan without large winners and targets is a project.
use Rattle.std.proofs.Common.{◌≡◌, ◌≤◌, ◌+◌, ◌⊎◌, inl, inr, ℕ, true, List, [], ◌∷◌, length, Contains, refl, sym, ◌∙◌, ap, subst, arith, ⊎_elim}
use Rattle.std.specs.Prelude.{Option, Some, None, Ok, Err, IfSome}
use Rattle.std.proofs.lemmas.List.Sums.{sum_by-cons}
use Rattle.ap_text.specs.declared.seen.Seen.{Seen}
use Rattle.ap_text.specs.declared.seen.Seen.TheVariants.{Bytes, Absent, TooLarge}
use Rattle.ap_text.specs.declared.seen.Which.{Which}
use Rattle.ap_text.proofs.Members.{AllByRecursion-at, Contains-none, Contains-cons_cases}
use Rattle.ap_content.proofs.Members.{Contains-filtered}
use Rattle.ap_config.specs.declared.config.Config.{Config}
use Rattle.ap_config.specs.declared.offer.Offer.{Offer}
use Rattle.ap_scan.specs.Limits.{Scans, IsLawful, AreLawful, IsThere, bytes_of, size_of}
use Rattle.ap_scan.specs.Winners.{Files}
use Rattle.ap_scan.specs.declared.fault.ScanFault.{ScanFault}
use Rattle.ap_scan.specs.declared.fault.ScanFault.TheVariants.{TreeFault, Limit as ScanLimit, OutOfMemory as ScanMemory}
use Rattle.ap_scan.specs.declared.results.Scan.{Scan}
use Rattle.ap_scan.specs.declared.results.Winner.{Winner}
use Rattle.ap_rows.specs.Folding.{fold_gives_folded}
use Rattle.ap_rows.specs.Readers.{is_folded}
use Rattle.ap_builder.specs.Meanings.{Meanings}
use Rattle.ap_builder.specs.Paths.{IsShort}
use Rattle.ap_sources.specs.Sources.{matching, is_some_item, sources}
use Rattle.ap_engine.specs.Need.{is_too_large}
use Rattle.ap_engine.specs.Worlds.{AreQuiet, IsRead}
use Rattle.ap_cli.specs.declared.stop.Stop.{Stop}
use Rattle.ap_cli.specs.declared.stop.Stop.TheVariants.{Tree, Limit, Memory, Unbuilt}
use Rattle.ap_cli.specs.Project.{IsProject, IsOver}
use Rattle.ap_cli.specs.Refusals.{of_scan}
use Rattle.ap_cli.specs.Unbuilt.{HasTooLarge, IsTargeted, IsRefused, IsUnbuilt}
use Rattle.ap_cli.specs.Working.{Configures, IsFound}
use Rattle.ap_cli.proofs.Building.{refused_where_told}
use Rattle.ap_cli.proofs.Targeting.{no_targets}

-- ---- what holds of the winners, whatever the tree tells

module _ (winners : List Winner) (lawful : AreLawful winners) where
  module _ (small : ¬ HasTooLarge winners) where
    -- each was there and isn't too large
    is_read : (winner : Winner) → Contains winners winner → IsRead winner
    is_read winner member = by_seen winner.seen refl
      where
        by_seen : (seen : Seen) → winner.seen ≡ seen → IsRead winner
        by_seen (Bytes bytes) is = record { bytes = bytes; seen = is }
        by_seen Absent is = absurd ((AllByRecursion-at IsThere winners winner lawful.there member).there is)
        by_seen TooLarge is = absurd (small (record { winner = winner; is = member; large = ap is_too_large is }))

    is_folded_path : (winner : Winner) → Contains winners winner → is_folded winner.path ≡ true
    is_folded_path winner member = ap is_folded (AllByRecursion-at IsThere winners winner lawful.there member).folds ∙ fold_gives_folded winner.name

    pub are_quiet : (builders : Meanings) (config : Config) → (¬ IsTargeted builders config winners) → AreQuiet builders config winners
    are_quiet builders config untargeted = record {
      rise = lawful.rises;
      read = is_read;
      folded = is_folded_path;
      untargeted = no_targets builders config winners untargeted;
    }

  -- the bytes of one are no more than those of all
  of_all : (all : List Winner) (winner : Winner) → Contains all winner → size_of winner.seen ≤ bytes_of all
  of_all [] winner member = absurd (Contains-none winner member)
  of_all (first ∷ all) winner member = let sum : bytes_of (first ∷ all) ≡ size_of first.seen + bytes_of all = sum_by-cons (λ (w : Winner). size_of w.seen) first all in ⊎_elim
      (λ is. let same : size_of winner.seen ≡ size_of first.seen = ap (λ (w : Winner). size_of w.seen) (sym is) in omega (arith, same, sum))
      (λ later. let less = of_all all winner later in omega (arith, less, sum))
      (Contains-cons_cases first all winner member)

  pub are_short : (config : Config) (winner : Winner) → Contains (sources config winners) winner → (bytes : List ℕ) → winner.seen ≡ Bytes bytes → IsShort bytes
  are_short config winner is bytes seen =
      let some = of_all winners winner (Contains-filtered (λ (w : Winner). is_some_item (matching config w.path)) winners winner is).0 in
      let size : size_of winner.seen ≡ length bytes = ap size_of seen in
      let all = lawful.small in
      omega (arith, some, size, all)

-- ---- where the tree tells its files

module _ (builders : Meanings) (offers : List Offer) (path : List ℕ) (config : Config) where
  module _ (scan : Scan) (lawful : IsLawful scan) (told : Option Files) (configures : Configures offers path told config) (scans : IfSome told (λ files. Scans config files (Ok scan))) where
    project_where_told : IfSome told (λ files. IsProject offers path files config scan)
    project_where_told = both told configures scans
      where
        both : (told : Option Files) → Configures offers path told config → IfSome told (λ files. Scans config files (Ok scan)) → IfSome told (λ files. IsProject offers path files config scan)
        both None c s = tt
        both (Some files) c s = record { configured = c; winners = s.0; hidden = s.1; odd = s.2; few = lawful.winners.few; small = lawful.winners.small }

    pub is_found : (¬ HasTooLarge scan.winners) → (¬ IsTargeted builders config scan.winners) → IsFound builders offers path told config scan
    is_found small untargeted = record {
      told = project_where_told;
      quiet = are_quiet scan.winners lawful.winners small builders config untargeted;
      untargeted = untargeted;
    }

    pub is_refused : IsRefused builders config scan.winners → IfSome told (IsUnbuilt builders offers path)
    is_refused why = refused_where_told builders offers path told config scan project_where_told why

  -- a limit that a scan met
  pub is_over : (told : Option Files) (fault : ScanFault) (stop : Stop) → stop ≡ of_scan fault → (which : Which) (count : ℕ) → stop ≡ Limit which count → Configures offers path told config
      → IfSome told (λ files. Scans config files (Err fault)) → IfSome told (λ files. IsOver offers path files which count)
  is_over None fault stop is which count why configures scans = tt
  is_over (Some files) TreeFault stop is which count why configures scans = absurd (cc (is, why))
  is_over (Some files) ScanMemory stop is which count why configures scans = absurd (cc (is, why))
  is_over (Some files) (ScanLimit which' count') stop is which count why configures scans =
      let same : Limit which' count' ≡ Limit which count = sym is ∙ why in
      subst (λ (w : Which). IsOver offers path files w count) (cc same) (subst (λ (n : ℕ). IsOver offers path files which' n) (cc same)
      (record { config = config; configured = configures; winners = scans.0; are = scans.1; passes = scans.2 }))

pub scan_only : (fault : ScanFault) (stop : Stop) → stop ≡ of_scan fault → (stop ≡ Memory) ⊎ (stop ≡ Tree) ⊎ (stop ≡ Unbuilt) ⊎ ((which : Which) × (count : ℕ) × (stop ≡ Limit which count))
scan_only TreeFault stop is = inr (inl is)
scan_only ScanMemory stop is = inl is
scan_only (ScanLimit which count) stop is = inr (inr (inr (which, count, is)))

pub scan_built : (fault : ScanFault) (stop : Stop) → stop ≡ of_scan fault → stop ≡ Unbuilt → ⊥
scan_built TreeFault stop is why = cc (is, why)
scan_built ScanMemory stop is why = cc (is, why)
scan_built (ScanLimit which count) stop is why = cc (is, why)

pub scan_failed : (fault : ScanFault) (stop : Stop) → stop ≡ of_scan fault → stop ≡ Tree → fault ≡ TreeFault
scan_failed TreeFault stop is why = refl
scan_failed ScanMemory stop is why = absurd (cc (is, why))
scan_failed (ScanLimit which count) stop is why = absurd (cc (is, why))
