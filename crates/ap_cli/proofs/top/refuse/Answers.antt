use Rattle.std.proofs.Common.{inr, refl}
use Rattle.ap_cli.specs.declared.stop.Stop.TheVariants.{Memory}
use Rattle.ap_cli.proofs.top.refuse.Goals as goal

pub returns-clause-said : goal.returns-clause-said
returns-clause-said g c = (Memory, inr (refl, c.in-Err.ensures.quiet), c.say-in-Err.ensures.status, c.say-in-Err.ensures.front, c.say-in-Err.ensures.whole)
