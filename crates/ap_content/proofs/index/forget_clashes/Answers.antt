use Rattle.std.proofs.Common.{not, ◌==◌, rules}
use Rattle.std.proofs.lemmas.Fn.{filter_same}
use Rattle.ap_content.proofs.index.forget_clashes.Goals as goal

pub returns : goal.returns
returns c = filter_same _ (λ clash. not (clash.1 == c.args.n)) _ (λ x b f' k. search rules) _ _ c.retain.ensures.filtered
