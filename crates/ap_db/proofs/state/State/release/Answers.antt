use Rattle.ap_db.proofs.Holding.{held_after, stands_after}
use Rattle.ap_db.proofs.state.State.release.Goals as goal

pub returns-clause-stands : goal.returns-clause-stands
returns-clause-stands c = λ stored stands held. stands_after c.args.self.now c.args.contents.now c.release.new.self c.args.m c.requires.gone c.release.ensures.loses held stored stands c.release.ensures.tidy

pub returns-clause-held : goal.returns-clause-held
returns-clause-held c = λ held. held_after c.args.self.now c.args.contents.now c.release.new.self c.args.m c.requires.gone c.release.ensures.loses held
