use Rattle.std.proofs.Common.{sym, ◌∙◌}
use Rattle.ap_config.proofs.Grammars.{pattern-text}
use Rattle.ap_config.proofs.judge.is_pattern.Goals as goal

pub returns-then-not-is_empty : goal.returns-then-not-is_empty
returns-then-not-is_empty c = pattern-text c.args.text.now c.utf8.text (sym c.is_empty.ensures ∙ c.if-not-is_empty.true)
