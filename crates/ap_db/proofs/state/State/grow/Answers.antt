use Rattle.std.proofs.Common.{refl, ap, ◌∙◌, arith}
use Rattle.ap_db.specs.States.{file_thing}
use Rattle.ap_db.proofs.Puts.{same_things}
use Rattle.ap_db.proofs.Counts.{grown}
use Rattle.ap_db.proofs.state.State.grow.Goals as goal

pub returns-in_ok-resize-clause-stands : goal.returns-in_ok-resize-clause-stands
returns-in_ok-resize-clause-stands c = λ contents stored stands.
    same_things c.args.self.now (record { tables = c.args.self.now.tables; things = c.resize.new.self; defined = c.args.self.now.defined; names = c.args.self.now.names }) contents stored stands refl refl refl
    (λ k. ap (λ l. file_thing l k) c.in_ok-resize.ensures.items ∙ grown c.args.self.now.things.items c.in-Some.wanted _ k.0 (omega (arith, c.if-len-wanted.true, c.len.ensures)))
