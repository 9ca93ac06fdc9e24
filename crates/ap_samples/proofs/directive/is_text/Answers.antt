use Rattle.std.proofs.Common.{◌∙◌}
use Rattle.ap_text.proofs.Deciding.{text-read}
use Rattle.ap_samples.proofs.directive.is_text.Goals as goal

pub returns : goal.returns
returns c = c.is_ok.ensures.value ∙ text-read _ _ c.from_utf8.result c.args.bytes.now c.from_utf8.ensures.cases
