use Rattle.ap_text.specs.PathRules.{IsRelPath}
use Rattle.ap_engine.proofs.NextItems.{all_next, all_so_far}
use Rattle.ap_engine.proofs.processing.look_at_paths.Goals as goal

pub loop-path-preserved : goal.loop-path-preserved
loop-path-preserved c = all_next IsRelPath c.args.paths.now c.loop-path.path-index c.path-item.result c.loop-path-test.true c.path-item.is c.as_slice.ensures.path c.loop-path.invariant

pub returns : goal.returns
returns c = all_so_far IsRelPath c.args.paths.now c.loop-path.path-index c.loop-path-test.false c.loop-path.invariant
