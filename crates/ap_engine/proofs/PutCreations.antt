-- What is put for a needed creation that comes to free jobs.
use Rattle.std.proofs.Common.{◌≡◌, ◌≤◌, ℕ, suc, Bool, true, false, cond, ◌&&◌, List, [], ◌∷◌, length, Contains, Option, refl, sym, ◌∙◌, ap, subst, All, arith, ⊎_elim}
use Rattle.std.specs.List.{AllByRecursion, list_all, filter}
use Rattle.std.proofs.lemmas.List.Elements.{All-filter, All-map}
use Rattle.ap_text.specs.NameRules.{IsPlatform}
use Rattle.ap_text.specs.PathRules.{IsRelPath}
use Rattle.ap_text.specs.Wild.{some_matches_lem}
use Rattle.ap_text.proofs.Members.{Contains-none, Contains-cons_cases, Contains-head, Contains-tail_of}
use Rattle.ap_content.specs.Things.{bytes_thing}
use Rattle.ap_content.specs.Entries.{Entry, Stands, Lives}
use Rattle.ap_config.specs.declared.config.Config.{Config}
use Rattle.ap_config.specs.declared.offer.Offer.{Offer}
use Rattle.ap_scan.specs.declared.results.Winner.{Winner}
use Rattle.ap_rows.specs.declared.job.JobDesc.{JobDesc}
use Rattle.ap_rows.specs.declared.job.Created.TheVariants.{Jobs}
use Rattle.ap_rows.specs.declared.row.CreateRow.{CreateRow}
use Rattle.ap_rows.specs.Readers.{is_folded}
use Rattle.ap_rows.specs.Folded.{is_folded_dependency, is_folded_created}
use Rattle.ap_rows.specs.InputRanges.{Fits64, IsBuilder, IsCreateInput}
use Rattle.ap_builder.specs.Meanings.{Meanings}
use Rattle.ap_db.specs.declared.db.Db.{Db}
use Rattle.ap_db.specs.States.{CreateIs}
use Rattle.ap_db.specs.Stored.{Stored}
use Rattle.ap_sources.specs.Sources.{matching, sources}
use Rattle.ap_create.specs.Creation.{create_from, created}
use Rattle.ap_engine.specs.Worlds.{AreFreeJobs, AreQuiet}
use Rattle.ap_engine.specs.Interned.{IsSourceOf, AreSourcesOf}
use Rattle.ap_engine.specs.declared.source.Source.{Source}
use Rattle.ap_engine.specs.Goods.{IsGoodCreate}
use Rattle.ap_engine.specs.Settled.{create_row}
use Rattle.ap_engine.specs.declared.creations.NeededCreation.{NeededCreation}
use Rattle.ap_engine.specs.Asked.{versions_of, plain_from, AreToPut, IsFree}
use Rattle.ap_engine.proofs.Formed.{create_formed}
use Rattle.ap_engine.proofs.NeededSources.{held_lives, source_wins, from_is_plain}

-- ---- ranges

few : {X : Type 0} (test : X → Bool) (xs : List X) → length (filter test xs) ≤ length xs
few test [] = omega arith
few {X = X} test (x ∷ xs) = by_case (test x) (few test xs)
  where
    by_case : (b : Bool) → length (filter test xs) ≤ length xs → length (cond b (x ∷ filter test xs) (filter test xs)) ≤ length (x ∷ xs)
    by_case true le = omega (arith, le)
    by_case false le = omega (arith, le)

as_many : (offers : List Offer) → length (versions_of offers) ≡ length offers
as_many [] = refl
as_many (offer ∷ offers) = ap suc (as_many offers)

pub in_ranges : (config : Config) → All (λ offer. IsBuilder (offer.name, offer.version)) config.builders → Fits64 (length config.builders) → All IsPlatform config.platforms → Fits64 (length config.platforms)
    → (path bytes : List ℕ) → IsRelPath path → is_folded path ≡ true → IsCreateInput (plain_from config path bytes)
in_ranges config builders few_builders platforms few_platforms path bytes is_path folded = record {
  builders = All-map IsBuilder (λ (offer : Offer). (offer.name, offer.version)) (matching config path) (All-filter matches (λ (offer : Offer). IsBuilder (offer.name, offer.version)) config.builders builders);
  builder_count = omega (arith, as_many (matching config path), few matches config.builders, few_builders);
  platforms = platforms;
  platform_count = few_platforms;
  path = record { path = is_path; folded = folded };
  seen = tt;
  reached = λ k d lt. absurd (omega arith);
  reached_count = omega arith;
}
  where
    matches : Offer → Bool
    matches builder = some_matches_lem builder.patterns path

-- ---- the row

free_is_folded : (jobs : List JobDesc) → AllByRecursion (λ job. job.deps ≡ []) jobs → is_folded_created (Jobs jobs) ≡ true
free_is_folded [] free = refl
free_is_folded (job ∷ jobs) free = λ i. list_all is_folded_dependency (free.0 i) && free_is_folded jobs free.1 i

module _ (builders : Meanings) (config : Config) (winners : List Winner) {D : Type 0} (seen : D → Option (List ℕ)) (may_leave : D → List ℕ → Type 0) (room : D → ℕ)
    (db : Db) (contents : List (Option Entry)) (store : D × D) (stored : Stored) (needed : NeededCreation) (winner : Winner)
    (to_put : AreToPut builders config winners seen may_leave room db contents store stored (needed ∷ []) (winner ∷ [])) where
  is_source : Contains (sources config winners) winner
  is_source = to_put.are winner (Contains-head winner [])

  pub source_lives : Lives contents needed.source.now.content
  source_lives = let of = to_put.each.0.of in held_lives db contents needed.source.now.content (bytes_thing of.bytes) of.held

  pub its_bytes : List ℕ
  its_bytes = to_put.each.0.of.bytes

  pub its_bytes_stand : Stands contents needed.source.now.content (bytes_thing its_bytes)
  unfolding its_bytes
  its_bytes_stand = to_put.each.0.of.held.stands

  asked_is : plain_from config needed.source.now.path its_bytes ≡ create_from builders config winners winner.path
  unfolding its_bytes
  asked_is = let of = to_put.each.0.of in
      ap (λ path. plain_from config path of.bytes) of.path ∙ sym (from_is_plain builders config winners to_put.quiet winner is_source of.bytes of.seen)

  pub not_free : (AreFreeJobs (created builders (plain_from config needed.source.now.path its_bytes)) → ⊥) → IsFree builders config winners winner → ⊥
  not_free refused free = refused (subst (λ from. AreFreeJobs (created builders from)) (sym asked_is) free)

  module _ (jobs : List JobDesc) (came : (created builders (plain_from config needed.source.now.path its_bytes) ≡ Jobs jobs) × AllByRecursion (λ job. job.deps ≡ []) jobs) where
    came_to : created builders (create_from builders config winners winner.path) ≡ Jobs jobs
    came_to = ap (created builders) (sym asked_is) ∙ came.0

    pub is_free : IsFree builders config winners winner
    is_free = record { jobs = jobs; are = came_to; free = came.1 }

    pub row_is : (row : CreateRow) → row ≡ record { source = needed.source.now.path; input = needed.input; created = Jobs jobs } → CreateIs (Stands contents) row (create_row builders config winners winner.path)
    row_is row is = subst (λ (row : CreateRow). CreateIs (Stands contents) row (create_row builders config winners winner.path)) (sym is)
        (record { source = to_put.each.0.of.path; input = to_put.each.0.input.stands; created = sym came_to })

    pub row_good : IsGoodCreate (create_row builders config winners winner.path)
    row_good = record {
      folded = to_put.quiet.folded winner (source_wins builders config winners to_put.quiet winner is_source);
      input = create_formed (create_from builders config winners winner.path) (to_put.typed winner is_source);
      created = ap is_folded_created came_to ∙ free_is_folded jobs came.1;
    }

-- ---- all sources

source_of : (db : Db) (contents : List (Option Entry)) (all : List Source) (wins : List Winner) → AreSourcesOf db contents all wins → (winner : Winner) → Contains wins winner
    → (source : Source) × Contains all source × IsSourceOf db contents source winner
source_of db contents [] [] are winner has = absurd (Contains-none winner has)
source_of db contents [] (first ∷ wins) are winner has = absurd are
source_of db contents (source ∷ all) [] are winner has = absurd are
source_of db contents (source ∷ all) (first ∷ wins) are winner has = ⊎_elim
    (λ same. (source, Contains-head source all, subst (IsSourceOf db contents source) same are.0))
    (λ later. let found = source_of db contents all wins are.1 winner later in (found.0, Contains-tail_of source all found.0 found.1, found.2))
    (Contains-cons_cases first wins winner has)

pub inputs_are : (builders : Meanings) (config : Config) (winners : List Winner) → AreQuiet builders config winners → (db : Db) (contents : List (Option Entry)) (all : List Source) → AreSourcesOf db contents all (sources config winners)
    → ((source : Source) → Contains all source → (bytes : List ℕ) → is_folded source.path ≡ true → IsCreateInput (plain_from config source.path bytes))
    → (winner : Winner) → Contains (sources config winners) winner → IsCreateInput (create_from builders config winners winner.path)
inputs_are builders config winners quiet db contents all are in_range winner has =
    let found = source_of db contents all (sources config winners) are winner has in
    let of = found.2 in
    subst IsCreateInput (ap (λ path. plain_from config path of.bytes) of.path ∙ sym (from_is_plain builders config winners quiet winner has of.bytes of.seen))
    (in_range found.0 found.1 of.bytes (ap is_folded of.path ∙ quiet.folded winner (source_wins builders config winners quiet winner has)))
