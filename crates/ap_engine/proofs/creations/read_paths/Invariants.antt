use Rattle.std.proofs.Common.{All, take}
use Rattle.ap_text.specs.PathRules.{IsRelPath}
use Rattle.ap_engine.proofs.creations.read_paths.Given as goal

abbrev pub invariant-loop-source : goal.invariant-loop-source
invariant-loop-source l = All (λ source. IsRelPath source.path) (take l.source-index l.all)
