use Rattle.std.proofs.Common.{◌∙◌}
use Rattle.ap_text.proofs.Deciding.{text-read}
use Rattle.ap_text.proofs.utf8.is_text.Goals as goal

pub returns-clause-told : goal.returns-clause-told
returns-clause-told c = c.is_ok.ensures.value ∙ text-read _ _ c.from_utf8.result c.args.bytes.now c.from_utf8.ensures.cases
