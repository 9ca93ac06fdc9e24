-- What the answers of a source's builders come to, and when that is jobs that depend on nothing.
use Rattle.std.proofs.Common.{◌≡◌, ℕ, Bool, true, false, cond, List, [], ◌∷◌, ◌++◌, map, Option, Some, None, Bor, refl, sym, ◌∙◌, ap, subst}
use Rattle.std.specs.List.{AllByRecursion, filter, flat_map, list_any}
use Rattle.ap_config.specs.declared.config.Config.{Config}
use Rattle.ap_config.specs.declared.offer.Offer.{Offer}
use Rattle.ap_rows.specs.declared.job.JobDesc.{JobDesc}
use Rattle.ap_rows.specs.declared.job.Created.{Created}
use Rattle.ap_rows.specs.declared.job.Created.TheVariants.{Jobs as CreatedJobs, Builder, DuplicateKey}
use Rattle.ap_builder.specs.declared.work.CreateInput.{CreateInput}
use Rattle.ap_builder.specs.declared.work.CreateAnswer.{CreateAnswer}
use Rattle.ap_builder.specs.declared.work.CreateAnswer.TheVariants.{Jobs, Failed}
use Rattle.ap_builder.specs.Meanings.{Meanings}
use Rattle.ap_builder.specs.Views.{create_view}
use Rattle.ap_sources.specs.Sources.{matching}
use Rattle.ap_create.specs.Creation.{created, failed_by, first_failure, same_slot, first_duplicate, jobs_answered, unless_refused}
use Rattle.ap_engine.specs.Worlds.{AreFreeJobs}
use Rattle.ap_engine.specs.Asked.{versions_of, plain_from, answers_of, joined, all_joined, all_free, all_apart}
use Rattle.ap_engine.proofs.JobLists.{each_is_free, all_are_free, none_refused, apart_unrefused}

-- what a builder sees, field by field
pub view_is : (config : Config) (path bytes : List ℕ) (view : CreateInput) → view.builders ≡ versions_of (matching config path) → view.platforms ≡ config.platforms → view.path ≡ path → view.bytes ≡ bytes → view.reached ≡ []
    → view ≡ create_view (plain_from config path bytes) bytes
view_is config path bytes view builders platforms path_is bytes_are reached = λ i. record { builders = builders i; platforms = platforms i; path = path_is i; bytes = bytes_are i; reached = reached i }

-- ---- which builders are asked

pub all_filtered : {X : Type 0} (P : X → Type 0) (test : X → Bool) (xs : List X) → AllByRecursion P xs → AllByRecursion P (filter test xs)
all_filtered P test [] all = tt
all_filtered {X = X} P test (x ∷ xs) all = by_case (test x) (all_filtered P test xs all.1)
  where
    by_case : (b : Bool) → AllByRecursion P (filter test xs) → AllByRecursion P (cond b (x ∷ filter test xs) (filter test xs))
    by_case true more = (all.0, more)
    by_case false more = more

pub all_behind : (P : Offer → Type 0) (offers : List (Bor Offer)) → AllByRecursion P (map (λ offer. offer.now) offers) → AllByRecursion (λ offer. P offer.now) offers
all_behind P [] all = tt
all_behind P (offer ∷ offers) all = (all.0, all_behind P offers all.1)

-- ---- the answers joined

abbrev IsNoJobs : Created → Type 0
IsNoJobs came = (jobs : List JobDesc) → came ≡ CreatedJobs jobs → ⊥

abbrev IsFailure : Option Created → Type 0
IsFailure failure = (came : Created) × (failure ≡ Some came) × IsNoJobs came

-- the answers' failure and their jobs agree with the answers joined
record Agree (failure : Option Created) (jobs : List JobDesc) (all : Option (List JobDesc)) : Type 0 where
  pub fails : all ≡ None → IsFailure failure
  pub gives : (given : List JobDesc) → all ≡ Some given → (failure ≡ None) × (jobs ≡ given)

one_more : (name : List ℕ) (answer : CreateAnswer) (failure : Option Created) (jobs : List JobDesc) (all : Option (List JobDesc)) → Agree failure jobs all
    → Agree (failed_by name answer failure) (jobs_answered answer ++ jobs) (joined answer all)
one_more name (Jobs more) failure jobs None agree = record { fails = λ e. agree.fails refl; gives = λ given e. absurd (cc e) }
one_more name (Jobs more) failure jobs (Some all) agree = record {
  fails = λ e. absurd (cc e);
  gives = λ given e. let here = agree.gives all refl in let is : more ++ all ≡ given = cc e in (here.0, ap (λ l. more ++ l) here.1 ∙ is);
}
one_more name (Failed code) failure jobs all agree = record {
  fails = λ e. (Builder name code, refl, λ jobs is. cc is);
  gives = λ given e. absurd (cc e);
}

module _ (builders : Meanings) (view : CreateInput) where
  abbrev answers_by : List Offer → List (List ℕ × CreateAnswer)
  answers_by offers = map (λ builder. (builder.0, builders.creates builder.0 view)) (versions_of offers)

  agree : (offers : List Offer) → Agree (first_failure (answers_by offers)) (flat_map (λ answer. jobs_answered answer.1) (answers_by offers)) (all_joined (answers_of builders.creates view offers))
  agree [] = record { fails = λ e. absurd (cc e); gives = λ given e. let is : [] ≡ given = cc e in (refl, is) }
  agree (offer ∷ offers) = one_more offer.name (builders.creates offer.name view) (first_failure (answers_by offers)) (flat_map (λ answer. jobs_answered answer.1) (answers_by offers))
      (all_joined (answers_of builders.creates view offers)) (agree offers)

pub joined_as : (creates : List ℕ → CreateInput → CreateAnswer) (view seen : CreateInput) (offers asked : List Offer) (came : Option (List JobDesc)) → view ≡ seen → offers ≡ asked
    → all_joined (answers_of creates view offers) ≡ came → all_joined (answers_of creates seen asked) ≡ came
joined_as creates view seen offers asked came v o e = sym (λ i. all_joined (answers_of creates (v i) (o i))) ∙ e

-- ---- free jobs

no_duplicate_jobs : (earlier jobs : List JobDesc) (came : Created) → first_duplicate earlier jobs ≡ Some came → IsNoJobs came
no_duplicate_jobs earlier [] came e = absurd (cc e)
no_duplicate_jobs earlier (job ∷ jobs) came e = by_case (list_any (same_slot job) earlier) e (no_duplicate_jobs (job ∷ earlier) jobs came)
  where
    by_case : (b : Bool) → cond b (Some (DuplicateKey job.key job.platform)) (first_duplicate (job ∷ earlier) jobs) ≡ Some came → (first_duplicate (job ∷ earlier) jobs ≡ Some came → IsNoJobs came) → IsNoJobs came
    by_case true is more = λ jobs e. let same : DuplicateKey job.key job.platform ≡ came = cc is in cc (same, e)
    by_case false is more = more is

others_refused : (jobs : List JobDesc) → (all_free jobs ≡ true → all_apart jobs ≡ true → ⊥) → ¬ AreFreeJobs (unless_refused None (first_duplicate [] jobs) jobs)
others_refused jobs refused free = by_case (first_duplicate [] jobs) refl free.are
  where
    by_case : (d : Option Created) → first_duplicate [] jobs ≡ d → unless_refused None d jobs ≡ CreatedJobs free.jobs → ⊥
    by_case None f is = let same : jobs ≡ free.jobs = cc is in refused (ap all_free same ∙ all_are_free free.jobs free.free) (apart_unrefused jobs f)
    by_case (Some came) f is = no_duplicate_jobs [] jobs came f free.jobs is

module _ (builders : Meanings) (config : Config) (path bytes : List ℕ) where
  abbrev joined_here : Option (List JobDesc)
  joined_here = all_joined (answers_of builders.creates (create_view (plain_from config path bytes) bytes) (matching config path))

  came_to : (jobs : List JobDesc) → joined_here ≡ Some jobs → created builders (plain_from config path bytes) ≡ unless_refused None (first_duplicate [] jobs) jobs
  came_to jobs e =
      let given = (agree builders (create_view (plain_from config path bytes) bytes) (matching config path)).gives jobs e in
      λ i. unless_refused (given.0 i) (first_duplicate [] (given.1 i)) (given.1 i)

  pub jobs_created : (jobs : List JobDesc) → joined_here ≡ Some jobs → all_free jobs ≡ true → all_apart jobs ≡ true
      → (created builders (plain_from config path bytes) ≡ CreatedJobs jobs) × AllByRecursion (λ job. job.deps ≡ []) jobs
  jobs_created jobs e free apart = (came_to jobs e ∙ ap (λ duplicate. unless_refused None duplicate jobs) (none_refused jobs apart), each_is_free jobs free)

  pub none_created : joined_here ≡ None → ¬ AreFreeJobs (created builders (plain_from config path bytes))
  none_created e free =
      let came = (agree builders (create_view (plain_from config path bytes) bytes) (matching config path)).fails e in
      let jobs = flat_map (λ answer. jobs_answered answer.1) (answers_by builders (create_view (plain_from config path bytes) bytes) (matching config path)) in
      let is : created builders (plain_from config path bytes) ≡ came.0 = ap (λ failure. unless_refused failure (first_duplicate [] jobs) jobs) came.1 in
      came.2 free.jobs (sym is ∙ free.are)

  pub others_created : (jobs : List JobDesc) → joined_here ≡ Some jobs → (all_free jobs ≡ true → all_apart jobs ≡ true → ⊥) → ¬ AreFreeJobs (created builders (plain_from config path bytes))
  others_created jobs e refused free = others_refused jobs refused (subst AreFreeJobs (came_to jobs e) free)
