use Rattle.std.proofs.Common.{◌∙◌, sym, true}
use Rattle.ap_content.specs.Entries.{Stands}
use Rattle.ap_db.specs.Said.{says_source, says_unfolded_source}
use Rattle.ap_db.proofs.state.State.is_lawful_source.Goals as goal

pub returns-then-not-is_folded : goal.returns-then-not-is_folded
returns-then-not-is_folded c stored tables stands =
    says_unfolded_source (Stands c.args.contents.now) stored tables c.args.row.now (sym c.is_folded.ensures.folded ∙ c.if-not-is_folded.true)

pub returns : goal.returns
returns c stored tables stands =
    says_source (Stands c.args.contents.now) stored tables c.is_good_seen.result true c.args.row.now (sym c.if-not-is_folded.false ∙ c.is_folded.ensures.folded) (c.is_good_seen.ensures stored stands)
