use Rattle.std.proofs.Common.{Bool, ◌∙◌, ap, sym}
use Rattle.std.specs.Prelude.{◌&&◌}
use Rattle.std.specs.Str.{is_utf8}
use Rattle.std.proofs.lemmas.Str.{is_utf8-from_IsUtf8, IsUtf8-from_is_utf8}
use Rattle.std.proofs.lemmas.Bool.{false_from_ne_true}
use Rattle.ap_text.specs.Wild.{wild_lem}
use Rattle.ap_text.proofs.pattern.is_match.Goals as goal

pub returns-in-Ok : goal.returns-in-Ok
returns-in-Ok c =
    let bytes = c.args.pattern.now in
    let path = c.args.path.now in
    c.wild.ensures ∙ ap (λ b. wild_lem b path) c.in-Ok.ensures.cases.0 ∙ sym (ap (λ (t : Bool). t && wild_lem bytes path) (is_utf8-from_IsUtf8 bytes c.in-Ok.ensures.cases.1))

pub returns-in-Err : goal.returns-in-Err
returns-in-Err c =
    let bytes = c.args.pattern.now in
    let path = c.args.path.now in
    sym (ap (λ (t : Bool). t && wild_lem bytes path) (false_from_ne_true (is_utf8 bytes) (λ h. c.in-Err.ensures.cases.0 (IsUtf8-from_is_utf8 bytes h))))
