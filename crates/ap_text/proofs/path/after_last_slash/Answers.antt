use Rattle.std.proofs.Common.{lit<, ◌∙◌}
use Rattle.std.specs.Prelude.{Some, None}
use Rattle.std.proofs.lemmas.Str.Pattern.{rfind_char}
use Rattle.ap_text.proofs.Slashes.{after_at, after_none}
use Rattle.ap_text.proofs.path.after_last_slash.Goals as goal

pub returns-in-Some : goal.returns-in-Some
returns-in-Some c =
    let at = rfind_char 47 c.args.text.now (Some c.in-Some.at) c.in-Some.ensures.cases (lit< tt) in
    c.range_from.ensures.value ∙ after_at c.args.text.now c.in-Some.at at.0 at.1 at.2

pub returns-in-None : goal.returns-in-None
returns-in-None c = after_none c.args.text.now (rfind_char 47 c.args.text.now None c.in-None.ensures.cases (lit< tt))
