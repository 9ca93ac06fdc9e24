use Rattle.std.proofs.Common.{All, subst, arith}
use Rattle.std.proofs.lemmas.List.{take_all}
use Rattle.std.proofs.lemmas.List.Elements.{All-more}
use Rattle.ap_text.specs.PathRules.{IsRelPath}
use Rattle.ap_engine.specs.declared.source.Source.{Source}
use Rattle.ap_engine.proofs.creations.read_paths.Goals as goal

pub loop-source-preserved : goal.loop-source-preserved
loop-source-preserved c =
    let HasPath = λ (source : Source). IsRelPath source.path in
    All-more HasPath c.args.all.now c.loop-source.source-index c.source-item.result (omega arith) c.loop-source.invariant (subst HasPath c.source-item.is c.as_str-path.ensures.path)

pub returns : goal.returns
returns c =
    let HasPath = λ (source : Source). IsRelPath source.path in
    subst (All HasPath) (take_all c.loop-source.source-index c.args.all.now (omega arith)) c.loop-source.invariant
