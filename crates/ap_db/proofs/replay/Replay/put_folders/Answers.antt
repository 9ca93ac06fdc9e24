use Rattle.std.proofs.Common.{◌∙◌, sym, ap}
use Rattle.ap_db.specs.Stored.{orders_rise, with_tables}
use Rattle.ap_db.specs.Changes.{with_folders}
use Rattle.ap_db.proofs.Taking.{folders_taken, folders_refused, same_index}
use Rattle.ap_db.proofs.Holding.{still_held}
use Rattle.ap_db.proofs.replay.Replay.put_folders.Goals as goal

pub returns-then-not-do_orders_rise-clause-refused : goal.returns-then-not-do_orders_rise-clause-refused
returns-then-not-do_orders_rise-clause-refused c = λ e contents stored replays.
    folders_refused stored c.args.rows (ap orders_rise (sym c.as_slice.ensures) ∙ sym c.do_orders_rise.ensures ∙ c.if-not-do_orders_rise.true)

pub returns-clause-applied : goal.returns-clause-applied
returns-clause-applied c = λ contents stored replays. (
  with_tables stored (with_folders stored.tables c.args.rows),
  folders_taken stored c.args.rows (ap orders_rise (sym c.as_slice.ensures) ∙ sym c.do_orders_rise.ensures ∙ c.if-not-do_orders_rise.false),
  record {
    stands = c.put_folders.ensures.stands contents stored replays.stands;
    held = still_held c.args.self.now.state c.put_folders.new.self contents c.put_folders.ensures.numbers.0 replays.held;
    index = same_index c.args.self.now.index.items c.args.self.now.state c.put_folders.new.self replays.index c.put_folders.ensures.numbers.0 c.put_folders.ensures.numbers.1;
  },
)
