-- The builder of each job is one that is configured.
use Rattle.std.proofs.Common.{◌≡◌, ℕ, Bool, true, false, not, cond, List, [], ◌∷◌, map, Contains, Option, Some, None, refl, sym, ◌∙◌, ap, subst}
use Rattle.std.specs.Prelude.{IsTrue}
use Rattle.std.specs.List.{flat_map, list_any, AllByRecursion}
use Rattle.std.proofs.lemmas.Bool.{true≢false}
use Rattle.ap_text.specs.Wild.{some_matches_lem}
use Rattle.ap_text.specs.declared.seen.Seen.TheVariants.{Bytes}
use Rattle.ap_text.proofs.Members.{Contains-none, Contains-map_cases, AllByRecursion-at}
use Rattle.ap_content.proofs.Members.{Contains-filtered}
use Rattle.ap_config.specs.declared.config.Config.{Config}
use Rattle.ap_config.specs.declared.offer.Offer.{Offer}
use Rattle.ap_scan.specs.declared.results.Winner.{Winner}
use Rattle.ap_rows.specs.declared.job.JobDesc.{JobDesc}
use Rattle.ap_rows.specs.declared.job.Created.{Created}
use Rattle.ap_rows.specs.declared.job.Created.TheVariants.{Jobs as CreatedJobs, Builder, DuplicateKey, TooLarge}
use Rattle.ap_rows.specs.Inputs.{CreateFrom, MadeFrom}
use Rattle.ap_rows.specs.Jobs.{Job, jobs_of}
use Rattle.ap_builder.specs.Meanings.{Meanings}
use Rattle.ap_builder.specs.Offers.{is_offered}
use Rattle.ap_builder.specs.Answers.{CreatesFor, IsJobBy}
use Rattle.ap_builder.specs.Views.{create_view}
use Rattle.ap_builder.specs.declared.work.CreateInput.{CreateInput}
use Rattle.ap_builder.specs.declared.work.CreateAnswer.{CreateAnswer}
use Rattle.ap_builder.specs.declared.work.CreateAnswer.TheVariants.{Jobs, Failed}
use Rattle.ap_db.specs.Tables.{PlainTables}
use Rattle.ap_sources.specs.Sources.{matching}
use Rattle.ap_create.specs.Creation.{create_from, failed_by, first_failure, same_slot, first_duplicate, jobs_answered, unless_refused, desired, created_seen, created, all_jobs}
use Rattle.ap_graph.proofs.CycleTest.{Contains-flat_map_cases}
use Rattle.ap_engine.specs.Need.{job_stands}
use Rattle.ap_engine.specs.Worlds.{AreQuiet, AreFree}
use Rattle.ap_engine.specs.NeededJobs.{IsBuilt, needed_in}
use Rattle.ap_engine.specs.Recorded.{open_jobs, IsUnmade}
use Rattle.ap_engine.proofs.LookUps.{none_some, some_one}
use Rattle.ap_engine.proofs.FreeJobs.{job_of_source}
use Rattle.ap_engine.proofs.FoundJobs.{made, same_needed, winner_seen, among_winners}

-- ---- what is created of answers

abbrev has_jobs : Created → Bool
has_jobs (CreatedJobs jobs) = true
has_jobs (Builder builder code) = false
has_jobs (DuplicateKey key platform) = false
has_jobs TooLarge = false

failure_has_none : (answers : List (List ℕ × CreateAnswer)) (failure : Created) → first_failure answers ≡ Some failure → has_jobs failure ≡ false
failure_has_none [] failure e = absurd (none_some failure e)
failure_has_none (answer ∷ answers) failure e = by_answer answer.1 e (failure_has_none answers failure)
  where
    by_answer : (own : CreateAnswer) → failed_by answer.0 own (first_failure answers) ≡ Some failure → (first_failure answers ≡ Some failure → has_jobs failure ≡ false) → has_jobs failure ≡ false
    by_answer (Jobs jobs) e more = more e
    by_answer (Failed code) e more = ap has_jobs (sym (some_one (Builder answer.0 code) failure e))

duplicate_has_none : (earlier jobs : List JobDesc) (duplicate : Created) → first_duplicate earlier jobs ≡ Some duplicate → has_jobs duplicate ≡ false
duplicate_has_none earlier [] duplicate e = absurd (none_some duplicate e)
duplicate_has_none earlier (job ∷ jobs) duplicate e = by_test (list_any (same_slot job) earlier) e (duplicate_has_none (job ∷ earlier) jobs duplicate)
  where
    by_test : (b : Bool) → cond b (Some (DuplicateKey job.key job.platform)) (first_duplicate (job ∷ earlier) jobs) ≡ Some duplicate
        → (first_duplicate (job ∷ earlier) jobs ≡ Some duplicate → has_jobs duplicate ≡ false) → has_jobs duplicate ≡ false
    by_test true e more = ap has_jobs (sym (some_one (DuplicateKey job.key job.platform) duplicate e))
    by_test false e more = more e

jobs_are : (answers : List (List ℕ × CreateAnswer)) (jobs : List JobDesc) → desired answers ≡ CreatedJobs jobs → flat_map (λ answer. jobs_answered answer.1) answers ≡ jobs
jobs_are answers jobs e = by_refusal (first_failure answers) (first_duplicate [] joined) refl refl e
  where
    joined : List JobDesc
    joined = flat_map (λ answer. jobs_answered answer.1) answers

    by_refusal : (failure duplicate : Option Created) → first_failure answers ≡ failure → first_duplicate [] joined ≡ duplicate → unless_refused failure duplicate joined ≡ CreatedJobs jobs → joined ≡ jobs
    by_refusal (Some failure) duplicate f d e = absurd (true≢false (sym (ap has_jobs e) ∙ failure_has_none answers failure f))
    by_refusal None (Some duplicate) f d e = absurd (true≢false (sym (ap has_jobs e) ∙ duplicate_has_none [] joined duplicate d))
    by_refusal None None f d e = cc e

module _ (builders : Meanings) (well : (name : List ℕ) (input : CreateInput) → CreatesFor name input (builders.creates name input)) where
  -- each job of a creation names one of the builders that were asked
  named : (x : CreateFrom) (bytes : List ℕ) → x.seen ≡ Bytes bytes → (desc : JobDesc) (jobs : List JobDesc) → created builders x ≡ CreatedJobs jobs → Contains jobs desc → (builder : List ℕ × ℕ) × Contains x.builders builder × (desc.builder ≡ builder.0)
  named x bytes seen desc jobs e has =
      let input : CreateInput = create_view x bytes in
      let answer_of : List ℕ × ℕ → List ℕ × CreateAnswer = λ builder. (builder.0, builders.creates builder.0 input) in
      let all : flat_map (λ (answer : List ℕ × CreateAnswer). jobs_answered answer.1) (map answer_of x.builders) ≡ jobs = jobs_are (map answer_of x.builders) jobs (sym (ap (created_seen builders x) seen) ∙ e) in
      let there = Contains-flat_map_cases (λ (answer : List ℕ × CreateAnswer). jobs_answered answer.1) (map answer_of x.builders) desc (subst (λ (jobs : List JobDesc). Contains jobs desc) (sym all) has) in
      let of = Contains-map_cases answer_of x.builders there.0 there.1 in
      (of.0, of.1, by_answer of.0.0 input desc (builders.creates of.0.0 input) (well of.0.0 input) (subst (λ (answer : List ℕ × CreateAnswer). Contains (jobs_answered answer.1) desc) (sym of.2) there.2))
    where
      by_answer : (name : List ℕ) (input : CreateInput) (desc : JobDesc) (answer : CreateAnswer) → CreatesFor name input answer → Contains (jobs_answered answer) desc → desc.builder ≡ name
      by_answer name input desc (Jobs jobs) well has = (AllByRecursion-at (IsJobBy name input) jobs desc well has).named
      by_answer name input desc (Failed code) well has = absurd (Contains-none desc has)

  module _ (config : Config) (winners : List Winner) (quiet : AreQuiet builders config winners) (are_free : AreFree builders config winners)
      (offers : List Offer) (offered : AllByRecursion (λ offer. IsTrue (is_offered offers offer.name)) config.builders) where
    -- the builder of a job is offered
    offered_job : (job : Job) → Contains (all_jobs builders config winners) job → IsTrue (is_offered offers job.desc.builder)
    offered_job job has =
        let of = job_of_source builders config winners job has in
        let free = are_free of.winner of.is in
        let its = Contains-map_cases (λ (desc : JobDesc). record { source = of.winner.path; desc = desc }) free.jobs job (subst (λ came. Contains (jobs_of of.winner.path came) job) free.are of.among) in
        let read = quiet.read of.winner (among_winners builders config winners of.winner of.is) in
        let by = named (create_from builders config winners of.winner.path) read.bytes (winner_seen builders config winners quiet of.winner (among_winners builders config winners of.winner of.is) ∙ read.seen) its.0 free.jobs free.are its.1 in
        let offer = Contains-map_cases (λ (builder : Offer). (builder.name, builder.version)) (matching config of.winner.path) by.0 by.1 in
        let own = AllByRecursion-at (λ (offer : Offer). IsTrue (is_offered offers offer.name)) config.builders offer.0 offered
        (Contains-filtered (λ (builder : Offer). some_matches_lem builder.patterns of.winner.path) config.builders offer.0 offer.1).0 in
        subst (λ (job : Job). IsTrue (is_offered offers job.desc.builder)) its.2
        (subst (λ name. IsTrue (is_offered offers name)) (ap (λ (builder : List ℕ × ℕ). builder.0) offer.2 ∙ sym by.2) own)

    -- a needed job that isn't built as it should
    pub unmade : (tables : PlainTables) (from : MadeFrom) → Contains (needed_in tables (map (made builders config winners) (all_jobs builders config winners))) from → ¬ IsBuilt offers builders.makes from → IsUnmade builders config winners tables
    unmade tables from has other =
        let of = Contains-map_cases (made builders config winners) (open_jobs builders config winners tables) from (subst (λ (froms : List MadeFrom). Contains froms from) (same_needed builders config winners quiet are_free tables) has) in
        let all = (Contains-filtered (λ (job : Job). not (job_stands builders config winners tables job)) (all_jobs builders config winners) of.0 of.1).0 in
        record {
          job = of.0;
          is = of.1;
          other = λ one. other (subst (IsBuilt offers builders.makes) of.2 (record { offered = offered_job of.0 all; one = one }));
        }
