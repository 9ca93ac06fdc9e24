use Rattle.std.proofs.Common.{◌∙◌, sym, subst, true}
use Rattle.ap_content.specs.Entries.{Stands}
use Rattle.ap_db.specs.Lawful.{is_good_thing}
use Rattle.ap_db.specs.Said.{Says, says_create, says_unfolded_create, says_other_input}
use Rattle.ap_db.proofs.state.State.is_lawful_create.Goals as goal

pub returns-then-not-is_folded : goal.returns-then-not-is_folded
returns-then-not-is_folded c stored tables stands =
    says_unfolded_create (Stands c.args.contents.now) stored tables c.args.row.now (sym c.is_folded.ensures.folded ∙ c.if-not-is_folded.true)

pub returns-then-not-is_good_thing : goal.returns-then-not-is_good_thing
returns-then-not-is_good_thing c stored tables stands =
    says_other_input (Stands c.args.contents.now) stored tables c.args.row.now
    (subst (λ b. Says b (Stands c.args.contents.now c.args.row.now.input) (is_good_thing stored 1)) c.if-not-is_good_thing.true (c.is_good_thing.ensures stored stands))

pub returns : goal.returns
returns c stored tables stands =
    says_create (Stands c.args.contents.now) stored tables true true c.is_folded_created.result c.args.row.now (sym c.if-not-is_folded.false ∙ c.is_folded.ensures.folded)
    (subst (λ b. Says b (Stands c.args.contents.now c.args.row.now.input) (is_good_thing stored 1)) c.if-not-is_good_thing.false (c.is_good_thing.ensures stored stands)) c.is_folded_created.ensures
