use Rattle.std.proofs.Common.{sym, subst, false}
use Rattle.ap_content.specs.Entries.{Stands}
use Rattle.ap_db.specs.Lawful.{is_good_thing, is_good_result}
use Rattle.ap_db.specs.States.{ResultIs}
use Rattle.ap_db.specs.Said.{Says, says_no_input, says_input, says_missing, says_dep_failed}
use Rattle.ap_db.proofs.state.State.is_good_result.Goals as goal

pub returns-then-not-is_good_thing : goal.returns-then-not-is_good_thing
returns-then-not-is_good_thing c stored stands =
    subst (λ came. Says false (ResultIs (Stands c.args.contents.now) came) (is_good_result stored)) (sym c.in-Processed.is)
    (says_no_input (Stands c.args.contents.now) stored c.in-Processed.input c.in-Processed.outcome
    (subst (λ b. Says b (Stands c.args.contents.now c.in-Processed.input) (is_good_thing stored 2)) c.if-not-is_good_thing.true (c.is_good_thing.ensures stored stands)))

pub returns-else-not-is_good_thing : goal.returns-else-not-is_good_thing
returns-else-not-is_good_thing c stored stands =
    subst (λ came. Says c.is_good_outcome.result (ResultIs (Stands c.args.contents.now) came) (is_good_result stored)) (sym c.in-Processed.is)
    (says_input (Stands c.args.contents.now) stored c.is_good_outcome.result c.in-Processed.input c.in-Processed.outcome
    (subst (λ b. Says b (Stands c.args.contents.now c.in-Processed.input) (is_good_thing stored 2)) c.if-not-is_good_thing.false (c.is_good_thing.ensures stored stands))
    (c.is_good_outcome.ensures stored stands))

pub returns-in-Missing : goal.returns-in-Missing
returns-in-Missing c stored stands =
    subst (λ came. Says c.is_folded_job.result (ResultIs (Stands c.args.contents.now) came) (is_good_result stored)) (sym c.in-Missing.is)
    (says_missing (Stands c.args.contents.now) stored c.is_folded_job.result c.in-Missing.job c.is_folded_job.ensures)

pub returns-in-DepFailed : goal.returns-in-DepFailed
returns-in-DepFailed c stored stands =
    subst (λ came. Says c.is_folded_job-in-DepFailed.result (ResultIs (Stands c.args.contents.now) came) (is_good_result stored)) (sym c.in-DepFailed.is)
    (says_dep_failed (Stands c.args.contents.now) stored c.is_folded_job-in-DepFailed.result c.in-DepFailed.job c.is_folded_job-in-DepFailed.ensures)
