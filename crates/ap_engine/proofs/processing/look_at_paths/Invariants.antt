use Rattle.std.proofs.Common.{All, take}
use Rattle.ap_text.specs.PathRules.{IsRelPath}
use Rattle.ap_engine.proofs.processing.look_at_paths.Given as goal

abbrev pub invariant-loop-path : goal.invariant-loop-path
invariant-loop-path l = All IsRelPath (take l.path-index l.paths)
