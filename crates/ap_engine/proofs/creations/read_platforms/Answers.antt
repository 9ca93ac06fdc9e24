use Rattle.std.proofs.Common.{All, subst, arith}
use Rattle.std.proofs.lemmas.List.{take_all}
use Rattle.std.proofs.lemmas.List.Elements.{All-more}
use Rattle.ap_text.specs.NameRules.{IsPlatform}
use Rattle.ap_engine.proofs.creations.read_platforms.Goals as goal

pub loop-platform-preserved : goal.loop-platform-preserved
loop-platform-preserved c =
    All-more IsPlatform c.args.platforms.now c.loop-platform.platform-index c.platform-item.result (omega arith) c.loop-platform.invariant (subst IsPlatform c.platform-item.is c.as_slice-platform.ensures.platform)

pub returns-clause-each : goal.returns-clause-each
returns-clause-each c = subst (All IsPlatform) (take_all c.loop-platform.platform-index c.args.platforms.now (omega arith)) c.loop-platform.invariant
