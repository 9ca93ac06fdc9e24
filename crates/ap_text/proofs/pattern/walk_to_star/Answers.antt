use Rattle.std.proofs.Common.{rules, arith, ◌∷◌, [], refl, ap, ◌∙◌}
use Rattle.std.specs.Str.{chars}
use Rattle.std.proofs.lemmas.Str.{chars-nil}
use Rattle.ap_text.proofs.Walking.{Walking-at, Walking-star, Walking-differs_at_end, Walking-differs, Walking-more, Walking-ends}
use Rattle.ap_text.proofs.pattern.walk_to_star.Goals as goal

pub returns-then-mark-eq42-clause-walks : goal.returns-then-mark-eq42-clause-walks
returns-then-mark-eq42-clause-walks c =
    Walking-star _ _ _ _ (Walking-at (c.in-Some.ensures.split ∙ ap (λ m. m ∷ chars c.in-Some.after.now) c.if-mark-eq42.true) refl c.loop-mark.invariant.2)

pub returns-in_default-split_first-clause-walks : goal.returns-in_default-split_first-clause-walks
returns-in_default-split_first-clause-walks c =
    Walking-differs_at_end _ _ _ [] _ (Walking-at c.in-Some.ensures.split (ap chars c.in_default-split_first.ensures ∙ chars-nil) c.loop-mark.invariant.2) c.if-mark-eq42.false

pub returns-then-not-takes-clause-walks : goal.returns-then-not-takes-clause-walks
returns-then-not-takes-clause-walks c =
    Walking-differs _ _ _ _ _ _ (Walking-at c.in-Some.ensures.split c.in-Some-split_first.ensures.split c.loop-mark.invariant.2) c.if-mark-eq42.false (search rules)

pub loop-mark-preserved : goal.loop-mark-preserved
loop-mark-preserved c = (
  search rules,
  search rules,
  Walking-more _ _ _ _ _ _ (Walking-at c.in-Some.ensures.split c.in-Some-split_first.ensures.split c.loop-mark.invariant.2) c.if-mark-eq42.false (search rules),
  omega (arith, c.in-Some.ensures.shorter),
  omega (arith, c.in-Some-split_first.ensures.shorter),
)

pub returns-in-None-clause-walks : goal.returns-in-None-clause-walks
returns-in-None-clause-walks c =
    Walking-ends _ _ _ (Walking-at (ap chars c.in_default.ensures ∙ chars-nil) (ap chars c.in-None.ensures ∙ chars-nil) c.loop-mark.invariant.2)

pub returns-in-Some-split_first-2-clause-walks : goal.returns-in-Some-split_first-2-clause-walks
returns-in-Some-split_first-2-clause-walks c =
    Walking-ends _ _ _ (Walking-at (ap chars c.in_default.ensures ∙ chars-nil) c.in-Some-split_first-2.ensures.split c.loop-mark.invariant.2)
