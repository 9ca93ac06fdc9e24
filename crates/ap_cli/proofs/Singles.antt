-- Just one product of each job, as builders make it and as tables record it.
use Rattle.std.proofs.Common.{◌≡◌, true, false, Bool, ◌&&◌, List, [], ◌∷◌, map, Contains, refl, sym, ◌∙◌, ap, ⊎_elim}
use Rattle.std.specs.List.{list_all}
use Rattle.ap_config.specs.declared.config.Config.{Config}
use Rattle.ap_scan.specs.declared.results.Winner.{Winner}
use Rattle.ap_rows.specs.Inputs.{products_thing}
use Rattle.ap_rows.specs.Jobs.{Job}
use Rattle.ap_builder.specs.declared.work.Outcome.{Outcome}
use Rattle.ap_builder.specs.declared.work.Outcome.TheVariants.{Done, Failed}
use Rattle.ap_builder.specs.Meanings.{Meanings}
use Rattle.ap_builder.specs.Views.{job_view}
use Rattle.ap_create.specs.Creation.{all_jobs}
use Rattle.ap_db.specs.Tables.{PlainJob}
use Rattle.ap_engine.specs.NeededJobs.{IsOneProduct}
use Rattle.ap_engine.specs.Recorded.{MakesOne}
use Rattle.ap_engine.specs.Settled.{plain_outcome, job_row, settled}
use Rattle.ap_engine.specs.Verdict.{made_from}
use Rattle.ap_engine.specs.Worlds.{AreFree}
use Rattle.ap_engine.proofs.FreeVerdicts.{free_row, free_job_row}
use Rattle.ap_engine.proofs.MappedLists.{all_chosen}
use Rattle.ap_text.proofs.Members.{Contains-none, Contains-cons_cases, Contains-head, Contains-tail_of}
use Rattle.ap_cli.specs.Layout.{made_one, has_one_product, have_one_product}

-- ---- one outcome

makes_one : (outcome : Outcome) → made_one (plain_outcome outcome) ≡ true → IsOneProduct outcome
unfolding products_thing
makes_one (Done []) is = absurd (cc is)
makes_one (Done (product ∷ [])) is = record { product = product; one = refl }
makes_one (Done (product ∷ more ∷ products)) is = absurd (cc is)
makes_one (Failed code) is = absurd (cc is)

one_is_made : (outcome : Outcome) → IsOneProduct outcome → made_one (plain_outcome outcome) ≡ true
unfolding products_thing
one_is_made outcome one = ap (λ (o : Outcome). made_one (plain_outcome o)) one.one

-- ---- all rows

-- all rows have one product
abbrev All : (Job → PlainJob) → List Job → Bool
All f jobs = list_all (λ row. has_one_product row.result) (map f jobs)

each_of : (f : Job → PlainJob) (jobs : List Job) → All f jobs ≡ true → (job : Job) → Contains jobs job → has_one_product (f job).result ≡ true
each_of f [] all job has = absurd (Contains-none job has)
each_of f (first ∷ jobs) all job has = by_first (has_one_product (f first).result) refl (λ rest. each_of f jobs rest job)
  where
    by_first : (b : Bool) → has_one_product (f first).result ≡ b → (All f jobs ≡ true → Contains jobs job → has_one_product (f job).result ≡ true) → has_one_product (f job).result ≡ true
    by_first true is later = ⊎_elim (λ same. ap (λ j. has_one_product (f j).result) (sym same) ∙ is)
        (λ there. later (sym (ap (λ b. b && All f jobs) is) ∙ all) there) (Contains-cons_cases first jobs job has)
    by_first false is later = absurd (cc (sym (ap (λ b. b && All f jobs) is) ∙ all))

-- some row hasn't
abbrev SomeOther : (Job → PlainJob) → List Job → Type 0
SomeOther f jobs = (job : Job) × Contains jobs job × (has_one_product (f job).result ≡ false)

some_of : (f : Job → PlainJob) (jobs : List Job) → All f jobs ≡ false → SomeOther f jobs
some_of f [] all = absurd (cc all)
some_of f (first ∷ jobs) all = by_first (has_one_product (f first).result) refl (some_of f jobs)
  where
    by_first : (b : Bool) → has_one_product (f first).result ≡ b → (All f jobs ≡ false → SomeOther f jobs) → SomeOther f (first ∷ jobs)
    by_first true is later = let found = later (sym (ap (λ b. b && All f jobs) is) ∙ all) in (found.0, Contains-tail_of first jobs found.0 found.1, found.2)
    by_first false is later = (first, Contains-head first jobs, is)

module _ (builders : Meanings) (config : Config) (winners : List Winner) (are_free : AreFree builders config winners) where
  rows_are : (settled builders config winners).jobs ≡ map (free_row builders config winners) (all_jobs builders config winners)
  rows_are = all_chosen (job_row builders config winners) (free_row builders config winners) (all_jobs builders config winners) (free_job_row builders config winners are_free)

  -- where each settled row has one product, each job makes just one
  pub each_makes_one : have_one_product (settled builders config winners) ≡ true → (job : Job) → Contains (all_jobs builders config winners) job → MakesOne builders config winners job
  each_makes_one all job has = makes_one (builders.makes (job_view (made_from builders config winners job [])))
      (each_of (free_row builders config winners) (all_jobs builders config winners) (ap (list_all (λ row. has_one_product row.result)) (sym rows_are) ∙ all) job has)

  -- and else some job doesn't
  pub some_makes_other : have_one_product (settled builders config winners) ≡ false → (job : Job) × Contains (all_jobs builders config winners) job × ¬ MakesOne builders config winners job
  some_makes_other all =
      let found = some_of (free_row builders config winners) (all_jobs builders config winners) (ap (list_all (λ row. has_one_product row.result)) (sym rows_are) ∙ all) in
      (found.0, found.1, λ one. cc (found.2, one_is_made (builders.makes (job_view (made_from builders config winners found.0 []))) one))
