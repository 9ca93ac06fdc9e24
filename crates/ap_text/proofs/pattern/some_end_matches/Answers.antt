use Rattle.std.proofs.Common.{◌≡◌, [], sym, ◌∙◌, ap}
use Rattle.std.specs.Str.{chars}
use Rattle.std.proofs.lemmas.Str.{chars-nil}
use Rattle.ap_text.specs.Wild.{wild_chars, some_end}
use Rattle.ap_text.proofs.Walking.{some_end-whole}
use Rattle.ap_text.proofs.pattern.some_end_matches.Goals as goal

pub returns-in-Ends : goal.returns-in-Ends
returns-in-Ends c = sym (some_end-whole (wild_chars (chars c.loop-after.marks.now)) (chars c.loop-after.left.now) c.in-Ends.ensures.walks) ∙ c.loop-after.invariant.2

pub returns-in-None : goal.returns-in-None
returns-in-None c =
    let none : chars c.loop-after.left.now ≡ [] = ap chars c.in-None.ensures ∙ chars-nil in
    sym (ap (some_end (wild_chars (chars c.loop-after.marks.now))) none ∙ ap (wild_chars (chars c.loop-after.marks.now)) (sym none) ∙ c.in-Differs.ensures.walks) ∙ c.loop-after.invariant.2
