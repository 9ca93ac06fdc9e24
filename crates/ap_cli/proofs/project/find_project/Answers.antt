use Rattle.std.proofs.Common.{List, subst}
use Rattle.ap_scan.specs.declared.results.Winner.{Winner}
use Rattle.ap_engine.specs.Asked.{meanings_of}
use Rattle.ap_cli.specs.Unbuilt.{HasTooLarge, IsTargeted, targeted}
use Rattle.ap_cli.proofs.Finding.{are_quiet, are_short, is_found, is_refused}
use Rattle.ap_cli.proofs.project.find_project.Goals as goal

pub returns-clause-short : goal.returns-clause-short
returns-clause-short g c = are_short _ c.in-Ok.ensures.lawful.winners c.args.config.now

pub returns-then-branch-clause-unbuilt : goal.returns-then-branch-clause-unbuilt
returns-then-branch-clause-unbuilt g c = λ why path configures.
    is_refused (meanings_of g.B.Builders.declares g.B.Builders.creates g.B.Builders.makes) (g.B.Builders.offers c.args.builders.now) path c.args.config.now c.in-Ok.scan c.in-Ok.ensures.lawful (g.T.Tree.files c.args.tree.now)
    configures c.in-Ok.ensures.scan
    (targeted (subst (λ (winners : List Winner). IsTargeted (meanings_of g.B.Builders.declares g.B.Builders.creates g.B.Builders.makes) c.args.config.now winners) c.as_slice-2.ensures (c.in_ok-has_targets.ensures.some c.if-branch.true)))

pub returns-clause-found : goal.returns-clause-found
returns-clause-found g c = λ path configures.
    is_found (meanings_of g.B.Builders.declares g.B.Builders.creates g.B.Builders.makes) (g.B.Builders.offers c.args.builders.now) path c.args.config.now c.in-Ok.scan c.in-Ok.ensures.lawful (g.T.Tree.files c.args.tree.now)
    configures c.in-Ok.ensures.scan
    (subst (λ (winners : List Winner). ¬ HasTooLarge winners) c.as_slice.ensures (c.has_too_large.ensures.none c.if-has_too_large.false))
    (subst (λ (winners : List Winner). ¬ IsTargeted (meanings_of g.B.Builders.declares g.B.Builders.creates g.B.Builders.makes) c.args.config.now winners) c.as_slice-2.ensures (c.in_ok-has_targets.ensures.none c.if-branch.false))

pub returns-clause-quiet : goal.returns-clause-quiet
returns-clause-quiet g c = are_quiet _ c.in-Ok.ensures.lawful.winners
    (subst (λ (winners : List Winner). ¬ HasTooLarge winners) c.as_slice.ensures (c.has_too_large.ensures.none c.if-has_too_large.false))
    (meanings_of g.B.Builders.declares g.B.Builders.creates g.B.Builders.makes) c.args.config.now
    (subst (λ (winners : List Winner). ¬ IsTargeted (meanings_of g.B.Builders.declares g.B.Builders.creates g.B.Builders.makes) c.args.config.now winners) c.as_slice-2.ensures (c.in_ok-has_targets.ensures.none c.if-branch.false))
