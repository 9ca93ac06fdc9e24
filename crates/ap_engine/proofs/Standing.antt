-- A row that stands is the one that its source or job settles to.
use Rattle.std.proofs.Common.{◌≡◌, ℕ, true, false, List, [], Option, Some, None, refl, sym, ◌∙◌, ap}
use Rattle.ap_content.specs.Things.{Thing}
use Rattle.ap_config.specs.declared.config.Config.{Config}
use Rattle.ap_scan.specs.declared.results.Winner.{Winner}
use Rattle.ap_rows.specs.Inputs.{CreateFrom, MadeFrom, create_thing, input_thing}
use Rattle.ap_rows.specs.InputRanges.{IsCreateInput, IsJobInput}
use Rattle.ap_rows.specs.Forms.{create_from_thing, made_from_thing}
use Rattle.ap_rows.specs.Jobs.{Job, id_of}
use Rattle.ap_rows.proofs.ThingBack.{create-read_back, input-read_back}
use Rattle.ap_builder.specs.Meanings.{Meanings}
use Rattle.ap_builder.specs.Views.{job_view}
use Rattle.ap_create.specs.Creation.{create_from, create_input_of, created}
use Rattle.ap_db.specs.SameThings.{one_if_same}
use Rattle.ap_db.specs.Tables.{PlainCreate, PlainOutcome, PlainResult, processed, on_cycle, lacks, after_failure, PlainJob}
use Rattle.ap_engine.specs.Verdict.{made_from}
use Rattle.ap_engine.specs.Settled.{plain_outcome, create_row}
use Rattle.ap_engine.specs.Need.{is_of_input, processed_input, same_as, records_input}
use Rattle.ap_engine.specs.Sound.{IsCreation, IsMade, IsProcessing}
use Rattle.ap_engine.proofs.LookUps.{some_one}
use Rattle.ap_engine.proofs.FreeVerdicts.{free_row}

false_true : false ≡ true → ⊥
false_true e = cc e

create_path : (a b : PlainCreate) → a.source ≡ b.source → a.input ≡ b.input → a.created ≡ b.created → a ≡ b
create_path a b p q r = λ i. record { source = p i; input = q i; created = r i }

job_path : (a b : PlainJob) → a.id ≡ b.id → a.result ≡ b.result → a ≡ b
job_path a b p q = λ i. record { id = p i; result = q i }

module _ (builders : Meanings) where
  -- a creation of this input has what is created of it
  pub created_of : (from : CreateFrom) → IsCreateInput from → (row : PlainCreate) → IsCreation builders row → row.input ≡ create_thing from → row.created ≡ created builders from
  created_of from typed row is e =
      let one : is.from ≡ from = some_one is.from from (sym is.recorded ∙ ap create_from_thing e ∙ create-read_back from typed) in
      sym is.answered ∙ ap (created builders) one

  -- a creation with what it is created from
  pub is_creation : (from : CreateFrom) → IsCreateInput from → (path : List ℕ) → IsCreation builders (record { source = path; input = create_thing from; created = created builders from })
  is_creation from typed path = record { from = from; recorded = create-read_back from typed; answered = refl }

  -- a processing of this input came to what is made of it
  pub made_of : (from : MadeFrom) → IsJobInput from → (input : Thing) (outcome : PlainOutcome) → IsMade builders input outcome → input ≡ input_thing from → outcome ≡ plain_outcome (builders.makes (job_view from))
  made_of from typed input outcome is e =
      let one : is.from ≡ from = some_one is.from from (sym is.recorded ∙ ap made_from_thing e ∙ input-read_back from typed) in
      sym is.answered ∙ ap (λ x. plain_outcome (builders.makes (job_view x))) one

  pub is_made : (from : MadeFrom) → IsJobInput from → IsMade builders (input_thing from) (plain_outcome (builders.makes (job_view from)))
  is_made from typed = record { from = from; recorded = input-read_back from typed; answered = refl }

  result_of : (from : MadeFrom) → IsJobInput from → (result : PlainResult) → IsProcessing builders result → same_as (input_thing from) (processed_input result) ≡ true
      → result ≡ processed (input_thing from) (plain_outcome (builders.makes (job_view from)))
  result_of from typed (processed input outcome) is e =
      let one : input ≡ input_thing from = one_if_same input (input_thing from) e in
      let made : outcome ≡ plain_outcome (builders.makes (job_view from)) = made_of from typed input outcome is one in
      λ i. processed (one i) (made i)
  result_of from typed on_cycle is e = absurd (false_true e)
  result_of from typed (lacks d) is e = absurd (false_true e)
  result_of from typed (after_failure d) is e = absurd (false_true e)

  module _ (config : Config) (winners : List Winner) where
    -- the create row of a source that records the source's input
    pub standing_creation : (path : List ℕ) → IsCreateInput (create_from builders config winners path) → (found : Option PlainCreate)
        → ((row : PlainCreate) → found ≡ Some row → IsCreation builders row × (row.source ≡ path))
        → is_of_input (create_input_of builders config winners path) found ≡ true → found ≡ Some (create_row builders config winners path)
    standing_creation path typed None is e = absurd (false_true e)
    standing_creation path typed (Some row) is e =
        let r = is row refl in
        let one : row.input ≡ create_input_of builders config winners path = one_if_same row.input (create_input_of builders config winners path) e in
        ap Some (create_path row (create_row builders config winners path) r.1 one (created_of (create_from builders config winners path) typed row r.0 one))

    -- the row of a job that records the job's input
    pub standing_job : (job : Job) → IsJobInput (made_from builders config winners job []) → (found : Option PlainJob)
        → ((row : PlainJob) → found ≡ Some row → IsProcessing builders row.result × (row.id ≡ id_of job))
        → records_input (input_thing (made_from builders config winners job [])) found ≡ true → found ≡ Some (free_row builders config winners job)
    standing_job job typed None is e = absurd (false_true e)
    standing_job job typed (Some row) is e =
        let r = is row refl in
        ap Some (job_path row (free_row builders config winners job) r.1 (result_of (made_from builders config winners job []) typed row.result r.0 e))
