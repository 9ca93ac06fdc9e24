-- A project whose products were delivered isn't refused, and one that was refused isn't built.
use Rattle.std.proofs.Common.{◌≡◌, inl, inr, true, ℕ, List, subst}
use Rattle.std.specs.Prelude.{Option, IfSome}
use Rattle.std.specs.Cmp.{IsTotalOrder, on_total}
use Rattle.std.proofs.lemmas.Cmp.{nat_list_cmp_total}
use Rattle.ap_config.specs.declared.config.Config.{Config}
use Rattle.ap_config.specs.declared.offer.Offer.{Offer}
use Rattle.ap_scan.specs.Winners.{Files, IsWinner, winner_cmp}
use Rattle.ap_scan.specs.declared.results.Scan.{Scan}
use Rattle.ap_scan.specs.declared.results.Winner.{Winner}
use Rattle.ap_builder.specs.Meanings.{Meanings}
use Rattle.ap_engine.specs.Settled.{settled}
use Rattle.ap_engine.specs.Worlds.{AreFree, AreQuiet}
use Rattle.ap_journal.specs.Told.{one as each}
use Rattle.ap_text.specs.Order.{Lists}
use Rattle.ap_cli.specs.Layout.{AreApart, files_of, have_one_product}
use Rattle.ap_cli.specs.ProductIds.{AreDistinct, ids_of}
use Rattle.ap_cli.specs.Project.{IsProject}
use Rattle.ap_cli.specs.Unbuilt.{IsTargeted, HasTooLarge, IsRefused, too_large, targeted, unfree, unmade, in_the_way, of_one_id, IsUnbuilt}
use Rattle.ap_cli.specs.Working.{IsFound, IsUndeliverable}
use Rattle.ap_cli.proofs.OneList.{Lists-unique}
use Rattle.ap_cli.proofs.Singles.{each_makes_one, some_makes_other}

winner_cmp_total : IsTotalOrder winner_cmp
winner_cmp_total = on_total (λ (winner : Winner). winner.path) nat_list_cmp_total

module _ (builders : Meanings) (offers : List Offer) (path : List ℕ) where
  -- a project that is refused isn't built
  pub refused_where_told : (tree : Option Files) (config : Config) (scan : Scan) → IfSome tree (λ files. IsProject offers path files config scan) → IsRefused builders config scan.winners
      → IfSome tree (IsUnbuilt builders offers path)
  refused_where_told tree config scan told why = each tree (λ files. IsProject offers path files config scan) (IsUnbuilt builders offers path) told
      (λ files on. record { config = config; scan = scan; on = on; why = why })

  -- so is one whose products weren't delivered
  pub undelivered : (tree : Option Files) (config : Config) (scan : Scan) → IsFound builders offers path tree config scan → AreFree builders config scan.winners
      → IsUndeliverable (settled builders config scan.winners) → IfSome tree (IsUnbuilt builders offers path)
  undelivered tree config scan found free (inl other) =
      let job = some_makes_other builders config scan.winners free other in
      refused_where_told tree config scan found.told (unmade job.0 job.1 job.2)
  undelivered tree config scan found free (inr (inl met)) = refused_where_told tree config scan found.told (in_the_way met)
  undelivered tree config scan found free (inr (inr shared)) = refused_where_told tree config scan found.told (of_one_id shared)

  module _ (files : Files) (config : Config) (scan : Scan) (on : IsProject offers path files config scan) where
    -- a path has one project
    module _ (config' : Config) (scan' : Scan) (on' : IsProject offers path files config' scan') where
      same_config : config' ≡ config
      same_config = cc (on.configured, on'.configured)

      same_winners : scan'.winners ≡ scan.winners
      same_winners = Lists-unique winner_cmp winner_cmp_total (IsWinner config files) scan'.winners scan.winners
          (subst (λ (c : Config). Lists winner_cmp (IsWinner c files) scan'.winners) same_config on'.winners) on.winners

    module _ (small : ¬ HasTooLarge scan.winners) (untargeted : ¬ IsTargeted builders config scan.winners) (free : AreFree builders config scan.winners)
        (made : have_one_product (settled builders config scan.winners) ≡ true) (apart : AreApart (files_of (settled builders config scan.winners)))
        (distinct : AreDistinct (ids_of (settled builders config scan.winners))) where
      not_refused : IsRefused builders config scan.winners → ⊥
      not_refused (too_large why) = small why
      not_refused (targeted why) = untargeted why
      not_refused (unfree why) = why.other (free why.winner why.is)
      not_refused (unmade job has other) = other (each_makes_one builders config scan.winners free made job has)
      not_refused (in_the_way met) = met apart
      not_refused (of_one_id shared) = shared distinct

      pub not_unbuilt : IsUnbuilt builders offers path files → ⊥
      not_unbuilt unbuilt = not_refused (subst (λ (c : Config). IsRefused builders c scan.winners) (same_config unbuilt.config unbuilt.scan unbuilt.on)
          (subst (IsRefused builders unbuilt.config) (same_winners unbuilt.config unbuilt.scan unbuilt.on) unbuilt.why))

  -- nothing keeps a project whose products were delivered from being built
  pub is_built : (tree : Option Files) (config : Config) (scan : Scan) → IsFound builders offers path tree config scan → AreFree builders config scan.winners
      → have_one_product (settled builders config scan.winners) ≡ true → AreApart (files_of (settled builders config scan.winners)) → AreDistinct (ids_of (settled builders config scan.winners)) → IfSome tree (λ files. ¬ IsUnbuilt builders offers path files)
  is_built tree config scan found free made apart distinct = each tree (λ files. IsProject offers path files config scan) (λ files. ¬ IsUnbuilt builders offers path files) found.told
      (λ files on. not_unbuilt files config scan on (none_too_large found.quiet) found.untargeted free made apart distinct)
    where
      none_too_large : AreQuiet builders config scan.winners → ¬ HasTooLarge scan.winners
      none_too_large quiet why = let r = quiet.read why.winner why.is in cc (r.seen, why.large)
