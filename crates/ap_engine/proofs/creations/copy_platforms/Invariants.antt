use Rattle.std.proofs.Common.{◌≡◌, take}
use Rattle.ap_engine.proofs.creations.copy_platforms.Given as goal

abbrev pub invariant-loop-platform : goal.invariant-loop-platform
invariant-loop-platform l = l.copies.items ≡ take l.platform-index l.platforms
