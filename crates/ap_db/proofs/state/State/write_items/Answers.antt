use Rattle.std.proofs.Common.{arith}
use Rattle.ap_db.proofs.Numbered.{all_written}
use Rattle.ap_db.proofs.state.State.write_items.Goals as goal

pub returns : goal.returns
returns c = all_written c.args.self.now c.args.items.now c.args.written.now.items c.loop-rest.written.items c.loop-rest.rest.now (omega (arith, c.in_default.len_below)) c.loop-rest.invariant
