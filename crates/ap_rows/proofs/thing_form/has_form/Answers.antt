use Rattle.std.proofs.Common.{ap, ◌∙◌}
use Rattle.ap_rows.specs.Walks.{walked}
use Rattle.ap_rows.proofs.FormsWalked.{walked-form, tags-stand}
use Rattle.ap_rows.proofs.thing_form.has_form.Goals as goal

pub returns : goal.returns
returns c = λ xs stand have.
    c.is_of_tag.ensures ∙ ap (walked c.args.tag c.args.text.now) (tags-stand c.args.contents.now c.args.kids.now xs stand) ∙ walked-form c.args.tag c.args.text.now xs have
