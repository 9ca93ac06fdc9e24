-- The tables once the creations that don't stand are put: each source has its creation, and jobs that are no longer created are away.
use Rattle.std.proofs.Common.{◌≡◌, ◌≢◌, ◌||◌, ℕ, Bool, true, false, not, List, [], ◌∷◌, Contains, Some, None, refl, ◌∙◌, ap, subst, ⊎_elim}
use Rattle.std.specs.Prelude.{is_some, find}
use Rattle.std.specs.List.{flat_map, filter}
use Rattle.std.proofs.lemmas.List.Concat.{flat_map_single}
use Rattle.ap_content.proofs.Members.{Contains-filter, Contains-filtered}
use Rattle.ap_text.specs.declared.job_id.JobId.{JobId}
use Rattle.ap_text.specs.JobOrder.{same_job}
use Rattle.ap_config.specs.declared.config.Config.{Config}
use Rattle.ap_scan.specs.declared.results.Winner.{Winner}
use Rattle.ap_builder.specs.Meanings.{Meanings}
use Rattle.ap_db.specs.Tables.{PlainCreate, PlainJob, PlainTables}
use Rattle.ap_db.specs.Changes.{Whole, put_create, created_ids, stays_beside, after_all, create_row_at, job_row_at}
use Rattle.ap_sources.specs.Sources.{sources}
use Rattle.ap_engine.specs.Settled.{create_row}
use Rattle.ap_engine.specs.Need.{creation_stands}
use Rattle.ap_engine.specs.Changes.{create_changes}
use Rattle.ap_engine.proofs.Steps.{differ_eq, one_or_two, create_put, create_put_beside, job_passes, job_stops, no_job_beside, kept_by_all, reached_by_one}

-- a job of another source stays beside a creation
pub stays_beside_another : (create : PlainCreate) (row : PlainJob) → row.id.source ≢ create.source → stays_beside create row ≡ true
stays_beside_another create row differ = ap (λ b. not b || is_some (find (λ id. same_job id row.id) (created_ids create.source create.created))) (differ_eq row.id.source create.source differ)

module _ (builders : Meanings) (config : Config) (winners : List Winner) (tables : PlainTables) where
  -- the creation of a source doesn't stand
  abbrev is_open : Winner → Bool
  is_open winner = not (creation_stands builders config winners tables winner.path)

  abbrev put_of_source : Winner → List Whole
  put_of_source winner = put_create (create_row builders config winners winner.path) ∷ []

  abbrev open_sources : List Winner
  open_sources = filter is_open (sources config winners)

  one_by_one : flat_map put_of_source open_sources ≡ create_changes builders config winners tables
  one_by_one = flat_map_single (λ winner. put_create (create_row builders config winners winner.path)) open_sources

  -- the tables then
  abbrev created_tables : PlainTables
  created_tables = after_all tables (create_changes builders config winners tables)

  is_source : (winner : Winner) → Contains open_sources winner → Contains (sources config winners) winner
  is_source winner has = (Contains-filtered is_open (sources config winners) winner has).0

  kept : (Q : PlainTables → Type 0) → ((winner : Winner) → Contains (sources config winners) winner → (t : PlainTables) → Q t → Q (after_all t (put_of_source winner))) → Q tables → Q created_tables
  kept Q each q = subst (λ changes. Q (after_all tables changes)) one_by_one (kept_by_all put_of_source Q open_sources (λ winner has. each winner (is_source winner has)) tables q)

  -- what holds where the creation of a source stands, and else after it was put
  reached : (R : PlainTables → Type 0) (winner : Winner) → Contains (sources config winners) winner
      → ((other : Winner) → Contains (sources config winners) other → (t : PlainTables) → R t → R (after_all t (put_of_source other)))
      → ((t : PlainTables) → R (after_all t (put_of_source winner)))
      → (creation_stands builders config winners tables winner.path ≡ true → R tables) → R created_tables
  reached R winner is stays reaches before = by_case (creation_stands builders config winners tables winner.path) refl
    where
      by_case : (b : Bool) → creation_stands builders config winners tables winner.path ≡ b → R created_tables
      by_case true e = kept R stays (before e)
      by_case false e = subst (λ changes. R (after_all tables changes)) one_by_one
          (reached_by_one put_of_source (λ t. Unit {0}) R open_sources winner (Contains-filter is_open (sources config winners) winner (ap not e) is)
          (λ other has t u. tt) (λ other has. stays other (is_source other has)) (λ t u. reaches t) tables tt)

  pub folders_still : created_tables.folders ≡ tables.folders
  folders_still = kept (λ t. t.folders ≡ tables.folders) (λ winner has t e. e) refl

  pub sources_still : created_tables.sources ≡ tables.sources
  sources_still = kept (λ t. t.sources ≡ tables.sources) (λ winner has t e. e) refl

  -- each source has its creation
  pub creations_then : (winner : Winner) → Contains (sources config winners) winner
      → (creation_stands builders config winners tables winner.path ≡ true → create_row_at tables winner.path ≡ Some (create_row builders config winners winner.path))
      → create_row_at created_tables winner.path ≡ Some (create_row builders config winners winner.path)
  creations_then winner is before = reached (λ t. create_row_at t winner.path ≡ Some (create_row builders config winners winner.path)) winner is
      (λ other has t e. ⊎_elim
      (λ same. create_put t (create_row builders config winners other.path) winner.path same ∙ ap (λ path. Some (create_row builders config winners path)) same)
      (λ differ. create_put_beside t (create_row builders config winners other.path) winner.path differ ∙ e)
      (one_or_two other.path winner.path))
      (λ t. create_put t (create_row builders config winners winner.path) winner.path refl) before

  -- what is no source has none
  pub no_creations_then : (q : List ℕ) → ((winner : Winner) → Contains (sources config winners) winner → winner.path ≢ q) → create_row_at tables q ≡ None → create_row_at created_tables q ≡ None
  no_creations_then q differ none = kept (λ t. create_row_at t q ≡ None) (λ winner has t e. create_put_beside t (create_row builders config winners winner.path) q (differ winner has) ∙ e) none

  module _ (id : JobId) where
    -- the row of a job that is created stays
    pub jobs_kept : ((winner : Winner) → Contains (sources config winners) winner → (row : PlainJob) → row.id ≡ id → stays_beside (create_row builders config winners winner.path) row ≡ true)
        → job_row_at created_tables id ≡ job_row_at tables id
    jobs_kept through = kept (λ t. job_row_at t id ≡ job_row_at tables id) (λ winner has t e. job_passes t (create_row builders config winners winner.path) id (through winner has) ∙ e) refl

    pub no_jobs_then : job_row_at tables id ≡ None → job_row_at created_tables id ≡ None
    no_jobs_then none = kept (λ t. job_row_at t id ≡ None) (λ winner has t e. no_job_beside t (create_row builders config winners winner.path) id e) none

    -- that of one that its source doesn't create goes
    pub jobs_gone : (winner : Winner) → Contains (sources config winners) winner → ((row : PlainJob) → row.id ≡ id → stays_beside (create_row builders config winners winner.path) row ≡ false)
        → (creation_stands builders config winners tables winner.path ≡ true → job_row_at tables id ≡ None) → job_row_at created_tables id ≡ None
    jobs_gone winner is against before = reached (λ t. job_row_at t id ≡ None) winner is
        (λ other has t e. no_job_beside t (create_row builders config winners other.path) id e)
        (λ t. job_stops t (create_row builders config winners winner.path) id against) before
