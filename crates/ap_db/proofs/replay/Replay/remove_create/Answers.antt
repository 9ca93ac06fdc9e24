use Rattle.ap_db.specs.Stored.{with_tables}
use Rattle.ap_db.specs.Changes.{without_create}
use Rattle.ap_db.proofs.Taking.{same_index, create_removed, no_create}
use Rattle.ap_db.proofs.Holding.{still_held}
use Rattle.ap_db.proofs.replay.Replay.remove_create.Goals as goal

pub returns-in-None-clause-refused : goal.returns-in-None-clause-refused
returns-in-None-clause-refused c = λ e contents stored replays. no_create stored c.args.source.now (c.in-None.ensures.lawful contents stored replays.stands)

pub returns-in-Some-clause-applied : goal.returns-in-Some-clause-applied
returns-in-Some-clause-applied c = λ contents stored replays. (
  with_tables stored (without_create stored.tables c.args.source.now),
  create_removed stored c.args.source.now (c.in-Some.ensures.lawful contents stored replays.stands),
  record {
    stands = c.remove_create.ensures.stands contents stored replays.stands;
    held = still_held c.args.self.now.state c.remove_create.new.self contents c.remove_create.ensures.numbers.0 replays.held;
    index = same_index c.args.self.now.index.items c.args.self.now.state c.remove_create.new.self replays.index c.remove_create.ensures.numbers.0 c.remove_create.ensures.numbers.1;
  },
)
