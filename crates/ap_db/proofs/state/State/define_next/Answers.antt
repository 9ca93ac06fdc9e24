use Rattle.ap_db.proofs.Walking.{still_new}
use Rattle.ap_db.proofs.state.State.define_next.Goals as goal

pub returns-clause-stands : goal.returns-clause-stands
returns-clause-stands c = λ stored x stands is.
    c.in_ok-define.ensures.stands stored x (c.in_ok-grow.ensures.stands c.args.contents.now stored stands)
    (still_new c.args.self.now c.grow.new.self c.args.contents.now stored c.args.m x c.in_ok-grow.ensures.numbers.0 is)
