use Rattle.ap_content.specs.Things.{bytes_thing}
use Rattle.ap_engine.proofs.HeldAgain.{beside_held, stay_held, held_again}
use Rattle.ap_engine.proofs.ledger.Ledger.intern_source.Goals as goal

pub returns-in-Some-clause-held : goal.returns-in-Some-clause-held
returns-in-Some-clause-held c = λ stored is.
    held_again c.args.self.now.contents c.hold.new.self c.in-Some.n (bytes_thing c.args.bytes.now) c.in-Some.ensures c.hold.ensures.gains c.hold.ensures.tidy c.args.self.now.db stored is

pub returns-in-Some-clause-beside : goal.returns-in-Some-clause-beside
returns-in-Some-clause-beside c = λ stored is.
    beside_held c.args.self.now.contents c.hold.new.self c.in-Some.n (bytes_thing c.args.bytes.now) c.in-Some.ensures c.hold.ensures.gains c.hold.ensures.tidy c.args.self.now.db stored is

pub returns-in-Some-clause-stay : goal.returns-in-Some-clause-stay
returns-in-Some-clause-stay c = λ stored is.
    stay_held c.args.self.now.contents c.hold.new.self c.in-Some.n (bytes_thing c.args.bytes.now) c.in-Some.ensures c.hold.ensures.gains c.hold.ensures.tidy c.args.self.now.db stored is
