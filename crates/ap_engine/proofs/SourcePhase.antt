-- The tables once the folder rows and the sources are put: each row of a source as the tree has it, and the creations and jobs of
-- gone sources away.
use Rattle.std.proofs.Common.{◌≡◌, ◌≢◌, ◌⊎◌, ℕ, Bool, true, false, cond, List, [], ◌∷◌, ◌++◌, map, Contains, Option, Some, None, refl, sym, ◌∙◌, ap, subst, inl, inr, ⊎_elim}
use Rattle.std.specs.Prelude.{bytes_eq, option_map}
use Rattle.std.specs.List.{find}
use Rattle.std.specs.Cmp.Lexicographic.{nat_list_cmp_total}
use Rattle.std.proofs.lemmas.List.Elements.{Contains-append_left, Contains-append_right}
use Rattle.std.proofs.lemmas.Slice.Eq.{bytes_eq-Decides}
use Rattle.ap_text.specs.declared.job_id.JobId.{JobId}
use Rattle.ap_text.specs.Order.{bytes_cmp, in_order}
use Rattle.ap_text.specs.JobOrder.{same_job}
use Rattle.ap_text.proofs.Members.{Contains-map}
use Rattle.ap_config.specs.declared.config.Config.{Config}
use Rattle.ap_scan.specs.declared.results.Winner.{Winner}
use Rattle.ap_db.specs.Tables.{PlainSource, PlainCreate, PlainJob, PlainTables}
use Rattle.ap_db.specs.Changes.{Whole, put_folders, put_source, with_folders, after_all, source_row_at, create_row_at, job_row_at}
use Rattle.ap_sources.specs.Sources.{sources}
use Rattle.ap_engine.specs.Rows.{same_folders, same_source}
use Rattle.ap_engine.specs.Settled.{folder_rows, source_row}
use Rattle.ap_engine.specs.Changes.{source_change, folder_changes, source_at, source_changes}
use Rattle.ap_engine.proofs.RisingLists.{in_order_has}
use Rattle.ap_engine.proofs.LookUps.{found_passes, found_there}
use Rattle.ap_engine.proofs.Steps.{bytes_tied, one_or_two, source_put, source_put_beside, source_gone, source_beside_gone, create_gone, create_beside_gone, no_create_stays, job_gone, job_beside_gone, no_job_stays, kept_by_all, reached_by_one}
use Rattle.ap_engine.proofs.SameRows.{one_folders, one_source}

-- the folder rows are those of the configuration, and nothing else changes
pub folders_then : (config : Config) (winners : List Winner) (tables : PlainTables) → after_all tables (folder_changes config winners tables) ≡ with_folders tables (folder_rows config)
folders_then config winners tables = by_case (same_folders tables.folders (folder_rows config)) refl
  where
    by_case : (b : Bool) → same_folders tables.folders (folder_rows config) ≡ b → after_all tables (cond b [] (put_folders (folder_rows config) ∷ [])) ≡ with_folders tables (folder_rows config)
    by_case true e = ap (with_folders tables) (one_folders tables.folders (folder_rows config) e)
    by_case false e = refl

-- ---- the change of one path

-- a winner of this path
abbrev IsOf : List ℕ → Option Winner → Type 0
IsOf p found = (winner : Winner) → found ≡ Some winner → winner.path ≡ p

settle_one : (p : List ℕ) (found : Option Winner) (old : Option PlainSource) → IsOf p found → (t : PlainTables)
    → (source_row_at t p ≡ old) ⊎ (source_row_at t p ≡ option_map source_row found) → source_row_at (after_all t (source_change p found old)) p ≡ option_map source_row found
settle_one p None None of t h = ⊎_elim (λ e. e) (λ e. e) h
settle_one p None (Some old) of t h = source_gone t p
settle_one p (Some winner) None of t h = source_put t (source_row winner) p (of winner refl)
settle_one p (Some winner) (Some old) of t h = by_case (same_source old (source_row winner)) refl
  where
    by_case : (b : Bool) → same_source old (source_row winner) ≡ b → source_row_at (after_all t (cond b [] (put_source (source_row winner) ∷ []))) p ≡ Some (source_row winner)
    by_case true e = ⊎_elim (λ f. f ∙ ap Some (one_source old (source_row winner) e)) (λ f. f) h
    by_case false e = source_put t (source_row winner) p (of winner refl)

leave_others : (p q : List ℕ) (found : Option Winner) (old : Option PlainSource) → IsOf p found → p ≢ q → (t : PlainTables) → source_row_at (after_all t (source_change p found old)) q ≡ source_row_at t q
leave_others p q None None of differ t = refl
leave_others p q None (Some old) of differ t = source_beside_gone t p q differ
leave_others p q (Some winner) None of differ t = source_put_beside t (source_row winner) q (λ e. differ (sym (of winner refl) ∙ e))
leave_others p q (Some winner) (Some old) of differ t = by_case (same_source old (source_row winner))
  where
    by_case : (b : Bool) → source_row_at (after_all t (cond b [] (put_source (source_row winner) ∷ []))) q ≡ source_row_at t q
    by_case true = refl
    by_case false = source_put_beside t (source_row winner) q (λ e. differ (sym (of winner refl) ∙ e))

-- a source that is there takes nothing away
creates_stay : (p : List ℕ) (winner : Winner) (old : Option PlainSource) (t : PlainTables) → (after_all t (source_change p (Some winner) old)).creates ≡ t.creates
creates_stay p winner None t = refl
creates_stay p winner (Some old) t = by_case (same_source old (source_row winner))
  where
    by_case : (b : Bool) → (after_all t (cond b [] (put_source (source_row winner) ∷ []))).creates ≡ t.creates
    by_case true = refl
    by_case false = refl

jobs_stay : (p : List ℕ) (winner : Winner) (old : Option PlainSource) (t : PlainTables) → (after_all t (source_change p (Some winner) old)).jobs ≡ t.jobs
jobs_stay p winner None t = refl
jobs_stay p winner (Some old) t = by_case (same_source old (source_row winner))
  where
    by_case : (b : Bool) → (after_all t (cond b [] (put_source (source_row winner) ∷ []))).jobs ≡ t.jobs
    by_case true = refl
    by_case false = refl

folders_stay : (p : List ℕ) (found : Option Winner) (old : Option PlainSource) (t : PlainTables) → (after_all t (source_change p found old)).folders ≡ t.folders
folders_stay p None None t = refl
folders_stay p None (Some old) t = refl
folders_stay p (Some winner) None t = refl
folders_stay p (Some winner) (Some old) t = by_case (same_source old (source_row winner))
  where
    by_case : (b : Bool) → (after_all t (cond b [] (put_source (source_row winner) ∷ []))).folders ≡ t.folders
    by_case true = refl
    by_case false = refl

create_at_stays : (q : List ℕ) (t u : PlainTables) → u.creates ≡ t.creates → create_row_at u q ≡ create_row_at t q
create_at_stays q t u e = ap (λ (rows : List PlainCreate). find (λ row. bytes_eq row.source q) rows) e

job_at_stays : (id : JobId) (t u : PlainTables) → u.jobs ≡ t.jobs → job_row_at u id ≡ job_row_at t id
job_at_stays id t u e = ap (λ (rows : List PlainJob). find (λ row. same_job row.id id) rows) e

create_beside : (p q : List ℕ) (found : Option Winner) (old : Option PlainSource) → p ≢ q → (t : PlainTables) → create_row_at (after_all t (source_change p found old)) q ≡ create_row_at t q
create_beside p q None None differ t = refl
create_beside p q None (Some old) differ t = create_beside_gone t p q differ
create_beside p q (Some winner) old differ t = create_at_stays q t (after_all t (source_change p (Some winner) old)) (creates_stay p winner old t)

no_create : (p q : List ℕ) (found : Option Winner) (old : Option PlainSource) (t : PlainTables) → create_row_at t q ≡ None → create_row_at (after_all t (source_change p found old)) q ≡ None
no_create p q None None t none = none
no_create p q None (Some old) t none = no_create_stays t p q none
no_create p q (Some winner) old t none = create_at_stays q t (after_all t (source_change p (Some winner) old)) (creates_stay p winner old t) ∙ none

job_beside : (p : List ℕ) (id : JobId) (found : Option Winner) (old : Option PlainSource) → p ≢ id.source → (t : PlainTables) → job_row_at (after_all t (source_change p found old)) id ≡ job_row_at t id
job_beside p id None None differ t = refl
job_beside p id None (Some old) differ t = job_beside_gone t p id differ
job_beside p id (Some winner) old differ t = job_at_stays id t (after_all t (source_change p (Some winner) old)) (jobs_stay p winner old t)

no_job : (p : List ℕ) (id : JobId) (found : Option Winner) (old : Option PlainSource) (t : PlainTables) → job_row_at t id ≡ None → job_row_at (after_all t (source_change p found old)) id ≡ None
no_job p id None None t none = none
no_job p id None (Some old) t none = no_job_stays t p id none
no_job p id (Some winner) old t none = job_at_stays id t (after_all t (source_change p (Some winner) old)) (jobs_stay p winner old t) ∙ none

-- ---- all paths

module _ (config : Config) (winners : List Winner) where
  pub source_is_of : (q : List ℕ) (winner : Winner) → source_at config winners q ≡ Some winner → Contains (sources config winners) winner × (winner.path ≡ q)
  source_is_of q winner e =
      let r = found_passes (λ (winner : Winner). bytes_eq winner.path q) (sources config winners) winner e in
      (r.0, (bytes_eq-Decides winner.path q).0 r.1)

  module _ (tables : PlainTables) where
    -- the paths of sources that are there or were
    abbrev all_paths : List (List ℕ)
    all_paths = map (λ winner. winner.path) (sources config winners) ++ map (λ row. row.path) tables.sources

    abbrev change_of : List ℕ → List Whole
    change_of p = source_change p (source_at config winners p) (source_row_at tables p)

    of_path : (p : List ℕ) → IsOf p (source_at config winners p)
    of_path p winner e = (source_is_of p winner e).1

    there_now : (q : List ℕ) (winner : Winner) → source_at config winners q ≡ Some winner → Contains (in_order bytes_cmp all_paths) q
    there_now q winner e =
        let r = source_is_of q winner e in
        in_order_has bytes_cmp bytes_tied all_paths q
        (Contains-append_left (map (λ winner. winner.path) (sources config winners)) (map (λ row. row.path) tables.sources) q
        (subst (λ w. Contains (map (λ winner. winner.path) (sources config winners)) w) r.1 (Contains-map (λ winner. winner.path) (sources config winners) winner r.0)))

    there_before : (q : List ℕ) (row : PlainSource) → source_row_at tables q ≡ Some row → Contains (in_order bytes_cmp all_paths) q
    there_before q row e =
        let r = found_there bytes_cmp nat_list_cmp_total bytes_eq bytes_eq-Decides (λ (row : PlainSource). row.path) tables.sources q row e in
        in_order_has bytes_cmp bytes_tied all_paths q
        (Contains-append_right (map (λ winner. winner.path) (sources config winners)) (map (λ row. row.path) tables.sources) q
        (subst (λ w. Contains (map (λ row. row.path) tables.sources) w) r.1 (Contains-map (λ row. row.path) tables.sources row r.0)))

    -- the tables then
    abbrev then_tables : PlainTables
    then_tables = after_all tables (source_changes config winners tables)

    pub folders_unchanged : then_tables.folders ≡ tables.folders
    folders_unchanged = kept_by_all change_of (λ t. t.folders ≡ tables.folders) (in_order bytes_cmp all_paths)
        (λ p has t e. folders_stay p (source_at config winners p) (source_row_at tables p) t ∙ e) tables refl

    module _ (q : List ℕ) where
      abbrev Settled : PlainTables → Type 0
      Settled t = source_row_at t q ≡ option_map source_row (source_at config winners q)

      abbrev AtHand : PlainTables → Type 0
      AtHand t = (source_row_at t q ≡ source_row_at tables q) ⊎ Settled t

      settles : (t : PlainTables) → AtHand t → Settled (after_all t (change_of q))
      settles t h = settle_one q (source_at config winners q) (source_row_at tables q) (of_path q) t h

      stays_settled : (p : List ℕ) (t : PlainTables) → Settled t → Settled (after_all t (change_of p))
      stays_settled p t e = ⊎_elim
          (λ is. subst (λ w. Settled (after_all t (change_of w))) (sym is) (settles t (inr e)))
          (λ differ. leave_others p q (source_at config winners p) (source_row_at tables p) (of_path p) differ t ∙ e)
          (one_or_two p q)

      stays_at_hand : (p : List ℕ) (t : PlainTables) → AtHand t → AtHand (after_all t (change_of p))
      stays_at_hand p t h = ⊎_elim
          (λ is. inr (subst (λ w. Settled (after_all t (change_of w))) (sym is) (settles t h)))
          (λ differ. let e = leave_others p q (source_at config winners p) (source_row_at tables p) (of_path p) differ t in ⊎_elim (λ f. inl (e ∙ f)) (λ f. inr (e ∙ f)) h)
          (one_or_two p q)

      settled_if_listed : Contains (in_order bytes_cmp all_paths) q → Settled then_tables
      settled_if_listed has = reached_by_one change_of AtHand Settled (in_order bytes_cmp all_paths) q has (λ p on. stays_at_hand p) (λ p on. stays_settled p) settles tables (inl refl)

      -- the row of a source is as the tree has it
      pub sources_then : source_row_at then_tables q ≡ option_map source_row (source_at config winners q)
      sources_then = by_case (source_at config winners q) (source_row_at tables q) refl refl
        where
          by_case : (found : Option Winner) (old : Option PlainSource) → source_at config winners q ≡ found → source_row_at tables q ≡ old → Settled then_tables
          by_case (Some winner) old e f = settled_if_listed (there_now q winner e)
          by_case None (Some row) e f = settled_if_listed (there_before q row f)
          by_case None None e f = kept_by_all change_of Settled (in_order bytes_cmp all_paths) (λ p on. stays_settled p) tables (f ∙ ap (option_map source_row) (sym e))

      -- the creation of a source stays
      pub creations_stay : (winner : Winner) → source_at config winners q ≡ Some winner → create_row_at then_tables q ≡ create_row_at tables q
      creations_stay winner e = kept_by_all change_of (λ t. create_row_at t q ≡ create_row_at tables q) (in_order bytes_cmp all_paths)
          (λ p on t f. ⊎_elim
          (λ is. subst (λ w. create_row_at (after_all t (change_of w)) q ≡ create_row_at tables q) (sym is)
          (subst (λ found. create_row_at (after_all t (source_change q found (source_row_at tables q))) q ≡ create_row_at tables q) (sym e)
          (create_at_stays q t (after_all t (source_change q (Some winner) (source_row_at tables q))) (creates_stay q winner (source_row_at tables q) t) ∙ f)))
          (λ differ. create_beside p q (source_at config winners p) (source_row_at tables p) differ t ∙ f)
          (one_or_two p q)) tables refl

      -- and that of a gone one goes, where a creation had its source
      pub creations_gone : source_at config winners q ≡ None → (source_row_at tables q ≡ None → create_row_at tables q ≡ None) → create_row_at then_tables q ≡ None
      creations_gone e lone = by_case (source_row_at tables q) refl
        where
          stays : (p : List ℕ) → Contains (in_order bytes_cmp all_paths) p → (t : PlainTables) → create_row_at t q ≡ None → create_row_at (after_all t (change_of p)) q ≡ None
          stays p on t none = no_create p q (source_at config winners p) (source_row_at tables p) t none

          goes : (row : PlainSource) → source_row_at tables q ≡ Some row → (t : PlainTables) → Unit {0} → create_row_at (after_all t (change_of q)) q ≡ None
          goes row f t u = subst (λ found. create_row_at (after_all t (source_change q found (source_row_at tables q))) q ≡ None) (sym e)
              (subst (λ old. create_row_at (after_all t (source_change q None old)) q ≡ None) (sym f) (create_gone t q))

          by_case : (old : Option PlainSource) → source_row_at tables q ≡ old → create_row_at then_tables q ≡ None
          by_case None f = kept_by_all change_of (λ t. create_row_at t q ≡ None) (in_order bytes_cmp all_paths) stays tables (lone f)
          by_case (Some row) f = reached_by_one change_of (λ t. Unit {0}) (λ t. create_row_at t q ≡ None) (in_order bytes_cmp all_paths) q (there_before q row f) (λ p on t u. tt) stays (goes row f) tables tt

    module _ (id : JobId) where
      pub jobs_then_stay : (winner : Winner) → source_at config winners id.source ≡ Some winner → job_row_at then_tables id ≡ job_row_at tables id
      jobs_then_stay winner e = kept_by_all change_of (λ t. job_row_at t id ≡ job_row_at tables id) (in_order bytes_cmp all_paths)
          (λ p on t f. ⊎_elim
          (λ is. subst (λ w. job_row_at (after_all t (change_of w)) id ≡ job_row_at tables id) (sym is)
          (subst (λ found. job_row_at (after_all t (source_change id.source found (source_row_at tables id.source))) id ≡ job_row_at tables id) (sym e)
          (job_at_stays id t (after_all t (source_change id.source (Some winner) (source_row_at tables id.source))) (jobs_stay id.source winner (source_row_at tables id.source) t) ∙ f)))
          (λ differ. job_beside p id (source_at config winners p) (source_row_at tables p) differ t ∙ f)
          (one_or_two p id.source)) tables refl

      pub jobs_then_gone : source_at config winners id.source ≡ None → (source_row_at tables id.source ≡ None → job_row_at tables id ≡ None) → job_row_at then_tables id ≡ None
      jobs_then_gone e lone = by_case (source_row_at tables id.source) refl
        where
          stays : (p : List ℕ) → Contains (in_order bytes_cmp all_paths) p → (t : PlainTables) → job_row_at t id ≡ None → job_row_at (after_all t (change_of p)) id ≡ None
          stays p on t none = no_job p id (source_at config winners p) (source_row_at tables p) t none

          goes : (row : PlainSource) → source_row_at tables id.source ≡ Some row → (t : PlainTables) → Unit {0} → job_row_at (after_all t (change_of id.source)) id ≡ None
          goes row f t u = subst (λ found. job_row_at (after_all t (source_change id.source found (source_row_at tables id.source))) id ≡ None) (sym e)
              (subst (λ old. job_row_at (after_all t (source_change id.source None old)) id ≡ None) (sym f) (job_gone t id.source id refl))

          by_case : (old : Option PlainSource) → source_row_at tables id.source ≡ old → job_row_at then_tables id ≡ None
          by_case None f = kept_by_all change_of (λ t. job_row_at t id ≡ None) (in_order bytes_cmp all_paths) stays tables (lone f)
          by_case (Some row) f = reached_by_one change_of (λ t. Unit {0}) (λ t. job_row_at t id ≡ None) (in_order bytes_cmp all_paths) id.source (there_before id.source row f) (λ p on t u. tt) stays (goes row f) tables tt
