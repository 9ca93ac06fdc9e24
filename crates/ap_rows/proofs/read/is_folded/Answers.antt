use Rattle.std.proofs.Common.{sym, ap, ◌∙◌}
use Rattle.ap_rows.specs.Readers.{is_folded}
use Rattle.ap_rows.specs.Folding.{folded_stays, folded_where_it_stays}
use Rattle.ap_rows.proofs.read.is_folded.Goals as goal

pub returns-clause-folded : goal.returns-clause-folded
unfolding is_folded
returns-clause-folded c = c.has_no_capital.ensures ∙ ap is_folded c.as_slice-bytes.ensures.bytes

pub returns-clause-fold : goal.returns-clause-fold
returns-clause-fold c =
    let path = c.args.path.now in
    (λ h. folded_stays path (sym (returns-clause-folded c) ∙ h), λ h. returns-clause-folded c ∙ folded_where_it_stays path h)
