use Rattle.std.proofs.Common.{sym, subst, true}
use Rattle.ap_content.specs.Entries.{Stands}
use Rattle.ap_db.specs.Lawful.{is_good_outcome}
use Rattle.ap_db.specs.States.{OutcomeIs}
use Rattle.ap_db.specs.Said.{Says, says_done, says_failed}
use Rattle.ap_db.proofs.state.State.is_good_outcome.Goals as goal

pub returns-in-Done : goal.returns-in-Done
returns-in-Done c stored stands =
    subst (λ outcome. Says c.is_good_thing.result (OutcomeIs (Stands c.args.contents.now) outcome) (is_good_outcome stored)) (sym c.in-Done.is)
    (says_done (Stands c.args.contents.now) stored c.is_good_thing.result c.in-Done.n (c.is_good_thing.ensures stored stands))

pub returns-in-Failed : goal.returns-in-Failed
returns-in-Failed c stored stands =
    subst (λ outcome. Says true (OutcomeIs (Stands c.args.contents.now) outcome) (is_good_outcome stored)) (sym c.in-Failed.is)
    (says_failed (Stands c.args.contents.now) stored c.in-Failed.field-0)
