use Rattle.std.proofs.Common.{lit<, ◌∙◌}
use Rattle.std.specs.Prelude.{Some, None}
use Rattle.std.proofs.lemmas.Str.Pattern.{rfind_char}
use Rattle.ap_text.proofs.Slashes.{before_at, before_none}
use Rattle.ap_text.proofs.path.before_last_slash.Goals as goal

pub returns-in-Some : goal.returns-in-Some
returns-in-Some c =
    let at = rfind_char 47 c.args.text.now (Some c.in-Some.at) c.in-Some.ensures.cases (lit< tt) in
    c.range.ensures.value ∙ before_at c.args.text.now c.in-Some.at at.0 at.1 at.2

pub returns-in-None : goal.returns-in-None
returns-in-None c = before_none c.args.text.now (rfind_char 47 c.args.text.now None c.in-None.ensures.cases (lit< tt))
