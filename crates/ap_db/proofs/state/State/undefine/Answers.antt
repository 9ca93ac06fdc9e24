use Rattle.std.proofs.Common.{refl}
use Rattle.ap_db.specs.Stored.{and_thing}
use Rattle.ap_db.proofs.Undefining.{latest_unnamed, latest_number, is_undefined}
use Rattle.ap_db.proofs.state.State.undefine.Goals as goal

pub take_out-requires : goal.take_out-requires
take_out-requires c =
    let stored = c.requires.0 in
    let x = c.requires.1 in
    (and_thing stored x, c.requires.4, latest_unnamed stored x c.requires.2 c.requires.3 c.args.self.now c.args.contents.now c.args.m c.requires.4 c.requires.5)

pub returns-clause-stands : goal.returns-clause-stands
returns-clause-stands c = λ stored x well built stands s.
    is_undefined stored x well built c.take_out.new.self (record { tables = c.take_out.new.self.tables; things = c.take_out.new.self.things; defined = c.saturating_sub-self.result; names = c.take_out.new.self.names }) c.args.contents.now
    (c.take_out.ensures.stands (and_thing stored x) _ stands (latest_number stored x well built c.args.self.now c.args.contents.now c.args.m stands s)) refl refl refl c.saturating_sub-self.ensures
