use Rattle.std.proofs.Common.{◌∙◌, sym, true}
use Rattle.ap_content.specs.Entries.{Stands}
use Rattle.ap_db.specs.Said.{says_job, says_unfolded_job}
use Rattle.ap_db.proofs.state.State.is_lawful_job.Goals as goal

pub returns-then-not-is_folded_job : goal.returns-then-not-is_folded_job
returns-then-not-is_folded_job c stored tables stands =
    says_unfolded_job (Stands c.args.contents.now) stored tables c.args.row.now (sym c.is_folded_job.ensures ∙ c.if-not-is_folded_job.true)

pub returns : goal.returns
returns c stored tables stands =
    says_job (Stands c.args.contents.now) stored tables true c.is_good_result.result c.args.row.now (sym c.if-not-is_folded_job.false ∙ c.is_folded_job.ensures) (c.is_good_result.ensures stored stands)
