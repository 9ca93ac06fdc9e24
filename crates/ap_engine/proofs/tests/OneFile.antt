-- A project of one file that names nothing is quiet.
use Rattle.std.proofs.Common.{◌≡◌, ℕ, true, List, [], ◌∷◌, Contains, refl, sym, ◌∙◌, ap, subst, arith, ⊎_elim}
use Rattle.std.specs.List.{flat_map}
use Rattle.std.specs.List.Sorted.{IsStrictlySortedBy}
use Rattle.std.specs.Prelude.{codes}
use Rattle.std.specs.Ordering.{on}
use Rattle.ap_text.specs.Order.{bytes_cmp}
use Rattle.ap_text.specs.declared.seen.Seen.{Seen}
use Rattle.ap_text.specs.declared.seen.Seen.TheVariants.{Bytes, Absent, TooLarge}
use Rattle.ap_text.proofs.Members.{Contains-none, Contains-cons_cases}
use Rattle.ap_content.proofs.Members.{Contains-filtered}
use Rattle.ap_config.specs.declared.config.Config.{Config}
use Rattle.ap_scan.specs.declared.results.Winner.{Winner}
use Rattle.ap_rows.specs.Readers.{is_folded}
use Rattle.ap_builder.specs.declared.work.CreateInput.{CreateInput}
use Rattle.ap_builder.specs.declared.work.CreateAnswer.{CreateAnswer}
use Rattle.ap_builder.specs.declared.work.JobInput.{JobInput}
use Rattle.ap_builder.specs.declared.work.Outcome.{Outcome}
use Rattle.ap_builder.specs.Paths.{IsShort}
use Rattle.ap_sources.specs.Sources.{matching, is_some_item, sources, seen_at, bytes_seen, targets_seen}
use Rattle.ap_engine.specs.Asked.{meanings_of}
use Rattle.ap_engine.specs.Worlds.{IsRead, AreQuiet}

abbrev nothing : (Y : Type 0) → List Y
nothing Y = []

none_of : {X Y : Type 0} (xs : List X) → flat_map (λ (x : X). nothing Y) xs ≡ []
none_of [] = refl
none_of (x ∷ xs) = none_of xs

module _ (config : Config) (winners : List Winner) (winner : Winner)
    (one : winners ≡ winner ∷ []) (folded : is_folded winner.path ≡ true) (seen : winner.seen ≡ Bytes (codes "1\n")) where
  it : (other : Winner) → Contains winners other → winner ≡ other
  it other has = ⊎_elim (λ same. same) (λ none. absurd (Contains-none other none))
      (Contains-cons_cases winner [] other (subst (λ all. Contains all other) one has))

  pub one_file_is_short : (other : Winner) → Contains (sources config winners) other → (bytes : List ℕ) → other.seen ≡ Bytes bytes → IsShort bytes
  one_file_is_short other is bytes told =
      let has = (Contains-filtered (λ (w : Winner). is_some_item (matching config w.path)) winners other is).0 in
      let same : codes "1\n" ≡ bytes = ap bytes_seen (sym seen ∙ ap (λ (w : Winner). w.seen) (it other has) ∙ told) in
      subst IsShort same (omega arith)

  module _ (creates : List ℕ → CreateInput → CreateAnswer) (makes : JobInput → Outcome) where
    no_targets : (path : List ℕ) (seen : Seen) → targets_seen (meanings_of (λ name path bytes. []) creates makes) config winners path seen ≡ []
    no_targets path Absent = refl
    no_targets path TooLarge = refl
    no_targets path (Bytes bytes) = none_of (matching config path)

    rises : IsStrictlySortedBy (on (λ (w : Winner). w.path) bytes_cmp) (winner ∷ [])
    unfolding IsStrictlySortedBy
    rises = (tt, tt)

    pub one_file_is_quiet : AreQuiet (meanings_of (λ name path bytes. []) creates makes) config winners
    one_file_is_quiet = record {
      rise = subst (IsStrictlySortedBy (on (λ (w : Winner). w.path) bytes_cmp)) (sym one) rises;
      read = λ other has. subst IsRead (it other has) (record { bytes = codes "1\n"; seen = seen });
      folded = λ other has. subst (λ (w : Winner). is_folded w.path ≡ true) (it other has) folded;
      untargeted = λ other has. no_targets other.path (seen_at winners other.path);
    }
