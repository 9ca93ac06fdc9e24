-- What the changes of sources remove is there, since each path comes once.
use Rattle.std.proofs.Common.{◌≡◌, ◌≢◌, ℕ, Bool, true, false, cond, List, [], ◌∷◌, ◌++◌, map, Contains, Option, Some, None, refl, sym, ◌∙◌, subst}
use Rattle.std.specs.Prelude.{IsSome}
use Rattle.std.specs.List.{flat_map}
use Rattle.std.specs.List.Sorted.{IsStrictlySortedBy}
use Rattle.std.specs.Ordering.{on}
use Rattle.std.specs.declared.cmp.Ordering.TheVariants.{Less}
use Rattle.std.proofs.lemmas.List.Kept.{IsStrictlySortedBy-filter}
use Rattle.ap_text.specs.Order.{bytes_cmp, in_order}
use Rattle.ap_text.proofs.Members.{Contains-head, Contains-tail_of, AllByRecursion-at}
use Rattle.ap_content.proofs.Members.{Contains-filtered}
use Rattle.ap_config.specs.declared.config.Config.{Config}
use Rattle.ap_scan.specs.declared.results.Winner.{Winner}
use Rattle.ap_builder.specs.Meanings.{Meanings}
use Rattle.ap_db.specs.Changes.{Whole, put_source, remove_source, after, source_row_at}
use Rattle.ap_db.specs.Tables.{PlainSource, PlainTables}
use Rattle.ap_sources.specs.Sources.{is_some_item, matching, sources}
use Rattle.ap_engine.specs.Changes.{source_change, source_at, source_changes}
use Rattle.ap_engine.specs.Rows.{same_source}
use Rattle.ap_engine.specs.Settled.{source_row}
use Rattle.ap_engine.specs.SourceSteps.{AreRead, AreThere}
use Rattle.ap_engine.specs.Worlds.{AreQuiet}
use Rattle.ap_engine.proofs.MergedPaths.{in_order_rises, below_differs}
use Rattle.ap_engine.proofs.SourcePhase.{source_is_of}
use Rattle.ap_engine.proofs.Steps.{source_put_beside, source_beside_gone}

-- the sources among winners that are read are read
pub sources_read : (config : Config) (winners : List Winner) → AreRead winners → AreRead (sources config winners)
sources_read config winners read = record {
  rise = IsStrictlySortedBy-filter (on (λ winner. winner.path) bytes_cmp) (λ winner. is_some_item (matching config winner.path)) winners read.rise;
  read = λ winner m. read.read winner (wins winner m);
  folded = λ winner m. read.folded winner (wins winner m);
}
  where
    wins : (winner : Winner) → Contains (sources config winners) winner → Contains winners winner
    wins winner m = (Contains-filtered (λ winner. is_some_item (matching config winner.path)) winners winner m).0

-- and so are those of a quiet project
pub quiet_read : (builders : Meanings) (config : Config) (winners : List Winner) → AreQuiet builders config winners → AreRead winners
quiet_read builders config winners quiet = record { rise = quiet.rise; read = quiet.read; folded = quiet.folded }

module _ (config : Config) (winners : List Winner) (tables : PlainTables) where
  abbrev change_of : List ℕ → List Whole
  change_of p = source_change p (source_at config winners p) (source_row_at tables p)

  -- the rows of these paths are as they were
  abbrev AreLeft : List (List ℕ) → PlainTables → Type 0
  AreLeft qs t = (q : List ℕ) → Contains qs q → source_row_at t q ≡ source_row_at tables q

  -- the first path's change, before those of the others
  one_there : (p : List ℕ) (qs : List (List ℕ)) → ((q : List ℕ) → Contains qs q → p ≢ q) → ((t : PlainTables) → AreLeft qs t → AreThere t (flat_map change_of qs)) → (t : PlainTables) → AreLeft (p ∷ qs) t → AreThere t (change_of p ++ flat_map change_of qs)
  one_there p qs differ behind t left = by_case (source_at config winners p) (source_row_at tables p) refl refl
    where
      others : AreLeft qs t
      others q m = left q (Contains-tail_of p qs q m)

      put : (winner : Winner) → source_at config winners p ≡ Some winner → AreThere t (put_source (source_row winner) ∷ flat_map change_of qs)
      put winner e = (tt, behind (after t (put_source (source_row winner))) (λ q m. source_put_beside t (source_row winner) q (λ same. differ q m (sym (source_is_of config winners p winner e).1 ∙ same)) ∙ others q m))

      by_same : (b : Bool) (winner : Winner) → source_at config winners p ≡ Some winner → AreThere t (cond b [] (put_source (source_row winner) ∷ []) ++ flat_map change_of qs)
      by_same true winner e = behind t others
      by_same false winner e = put winner e

      by_case : (found : Option Winner) (old : Option PlainSource) → source_at config winners p ≡ found → source_row_at tables p ≡ old → AreThere t (source_change p found old ++ flat_map change_of qs)
      by_case None None e f = behind t others
      by_case None (Some old) e f = (
        subst (λ (row : Option PlainSource). IsSome row) (sym (left p (Contains-head p qs) ∙ f)) refl,
        behind (after t (remove_source p)) (λ q m. source_beside_gone t p q (differ q m) ∙ others q m),
      )
      by_case (Some winner) None e f = put winner e
      by_case (Some winner) (Some old) e f = by_same (same_source old (source_row winner)) winner e

  there_behind : (qs : List (List ℕ)) → IsStrictlySortedBy bytes_cmp qs → (t : PlainTables) → AreLeft qs t → AreThere t (flat_map change_of qs)
  unfolding IsStrictlySortedBy
  there_behind [] rise t left = tt
  there_behind (p ∷ qs) rise t left = one_there p qs (λ q m. below_differs p q (AllByRecursion-at (λ k. bytes_cmp p k ≡ Less) qs q rise.0 m)) (there_behind qs rise.1) t left

  pub all_there : AreThere tables (source_changes config winners tables)
  all_there = there_behind (in_order bytes_cmp (map (λ winner. winner.path) (sources config winners) ++ map (λ row. row.path) tables.sources)) (in_order_rises (map (λ winner. winner.path) (sources config winners) ++ map (λ row. row.path) tables.sources)) tables (λ q m. refl)
