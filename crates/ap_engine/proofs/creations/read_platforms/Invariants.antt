use Rattle.std.proofs.Common.{All, take}
use Rattle.ap_text.specs.NameRules.{IsPlatform}
use Rattle.ap_engine.proofs.creations.read_platforms.Given as goal

abbrev pub invariant-loop-platform : goal.invariant-loop-platform
invariant-loop-platform l = All IsPlatform (take l.platform-index l.platforms)
