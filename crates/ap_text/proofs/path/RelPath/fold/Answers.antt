use Rattle.std.proofs.Common.{◌∙◌, ap, subst, map}
use Rattle.std.specs.Str.{IsUtf8}
use Rattle.std.specs.Prelude.{string_bytes}
use Rattle.std.specs.Char.{to_ascii_lowercase}
use Rattle.ap_text.proofs.Folding.{keeps_grammar}
use Rattle.ap_text.proofs.path.RelPath.fold.Goals as goal

pub invariant_of-result : goal.invariant_of-result
invariant_of-result c =
    keeps_grammar (string_bytes c.self.inside.text) _
    (c.make_ascii_lowercase.ensures.bytes ∙ ap (map to_ascii_lowercase) (c.in_ok-text.ensures.ok ∙ c.deref.ensures))
    c.self.invariant (subst IsUtf8 c.as_str-folded.ensures.value c.as_str-folded.utf8)
