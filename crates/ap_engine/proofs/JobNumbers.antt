-- Whether the row of a job records an input, by the numbers of both.
use Rattle.std.proofs.Common.{◌≡◌, Bool, true, false, cond, List, [], ◌∷◌, Option, Some, None, refl, ap}
use Rattle.std.specs.Prelude.{find}
use Rattle.ap_text.specs.declared.job_id.JobId.{JobId}
use Rattle.ap_text.specs.JobOrder.{same_job}
use Rattle.ap_content.specs.Things.{Thing}
use Rattle.ap_content.specs.Entries.{Entry, IsTidy, Stands}
use Rattle.ap_content.specs.declared.node.Number.{Number}
use Rattle.ap_rows.specs.declared.row.JobRow.{JobRow}
use Rattle.ap_rows.specs.declared.row.JobResult.{JobResult}
use Rattle.ap_rows.specs.declared.row.JobResult.TheVariants.{Processed, Cycle, Missing, DepFailed}
use Rattle.ap_db.specs.declared.things.FileThing.{FileThing}
use Rattle.ap_db.specs.Listed.{AreAll, AreBoth}
use Rattle.ap_db.specs.States.{Names, ResultIs, JobIs}
use Rattle.ap_db.specs.Tables.{PlainResult, processed, on_cycle, lacks, after_failure, PlainJob}
use Rattle.ap_engine.specs.Need.{processed_input, same_as, records_input}
use Rattle.ap_engine.specs.NeededJobs.{result_is_of, row_is_of}
use Rattle.ap_engine.proofs.Needs.{same_numbers}

module _ (N : Number → Thing → Type 0) where
  -- both or neither is found
  found_both : (id : JobId) (rows : List JobRow) (plains : List PlainJob) → AreAll (JobIs N) rows plains
      → AreBoth (JobIs N) (find (λ row. same_job row.id id) rows) (find (λ row. same_job row.id id) plains)
  found_both id [] [] are = tt
  found_both id [] (plain ∷ plains) are = absurd are
  found_both id (row ∷ rows) [] are = absurd are
  found_both id (row ∷ rows) (plain ∷ plains) are = by_case (same_job row.id id) (same_job plain.id id) (ap (λ own. same_job own id) are.0.id) (found_both id rows plains are.1)
    where
      by_case : (a b : Bool) → a ≡ b → AreBoth (JobIs N) (find (λ row. same_job row.id id) rows) (find (λ row. same_job row.id id) plains)
          → AreBoth (JobIs N) (cond a (Some row) (find (λ row. same_job row.id id) rows)) (cond b (Some plain) (find (λ row. same_job row.id id) plains))
      by_case true true e more = are.0
      by_case true false e more = absurd (cc e)
      by_case false true e more = absurd (cc e)
      by_case false false e more = more

pub same_record : (things : List (Option FileThing)) (contents : List (Option Entry)) (n : Number) (x : Thing) (id : JobId) (rows : List JobRow) (plains : List PlainJob)
    → IsTidy contents → Stands contents n x → AreAll (JobIs (Names things contents)) rows plains
    → row_is_of n (find (λ row. same_job row.id id) rows) ≡ records_input x (find (λ row. same_job row.id id) plains)
same_record things contents n x id rows plains tidy stands are =
    by_rows (find (λ row. same_job row.id id) rows) (find (λ row. same_job row.id id) plains) (found_both (Names things contents) id rows plains are)
  where
    by_result : (result : JobResult) (plain : PlainResult) → ResultIs (Names things contents) result plain → result_is_of n result ≡ same_as x (processed_input plain)
    by_result (Processed m outcome) (processed input plain) is = same_numbers contents m n input x tidy is.0.stands stands
    by_result (Processed m outcome) on_cycle is = absurd is
    by_result (Processed m outcome) (lacks d) is = absurd is
    by_result (Processed m outcome) (after_failure d) is = absurd is
    by_result Cycle (processed input plain) is = absurd is
    by_result Cycle on_cycle is = refl
    by_result Cycle (lacks d) is = absurd is
    by_result Cycle (after_failure d) is = absurd is
    by_result (Missing m) (processed input plain) is = absurd is
    by_result (Missing m) on_cycle is = absurd is
    by_result (Missing m) (lacks d) is = refl
    by_result (Missing m) (after_failure d) is = absurd is
    by_result (DepFailed m) (processed input plain) is = absurd is
    by_result (DepFailed m) on_cycle is = absurd is
    by_result (DepFailed m) (lacks d) is = absurd is
    by_result (DepFailed m) (after_failure d) is = refl

    by_rows : (row : Option JobRow) (plain : Option PlainJob) → AreBoth (JobIs (Names things contents)) row plain → row_is_of n row ≡ records_input x plain
    by_rows None None both = refl
    by_rows None (Some plain) both = absurd both
    by_rows (Some row) None both = absurd both
    by_rows (Some row) (Some plain) both = by_result row.result plain.result both.result
