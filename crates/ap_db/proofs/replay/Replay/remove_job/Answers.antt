use Rattle.ap_db.specs.Stored.{with_tables}
use Rattle.ap_db.specs.Changes.{without_job}
use Rattle.ap_db.proofs.Taking.{same_index, job_removed, no_job}
use Rattle.ap_db.proofs.Holding.{still_held}
use Rattle.ap_db.proofs.replay.Replay.remove_job.Goals as goal

pub returns-in-None-clause-refused : goal.returns-in-None-clause-refused
returns-in-None-clause-refused c = λ e contents stored replays. no_job stored c.args.id.now (c.in-None.ensures.lawful contents stored replays.stands)

pub returns-in-Some-clause-applied : goal.returns-in-Some-clause-applied
returns-in-Some-clause-applied c = λ contents stored replays. (
  with_tables stored (without_job stored.tables c.args.id.now),
  job_removed stored c.args.id.now (c.in-Some.ensures.lawful contents stored replays.stands),
  record {
    stands = c.remove_job.ensures.stands contents stored replays.stands;
    held = still_held c.args.self.now.state c.remove_job.new.self contents c.remove_job.ensures.numbers.0 replays.held;
    index = same_index c.args.self.now.index.items c.args.self.now.state c.remove_job.new.self replays.index c.remove_job.ensures.numbers.0 c.remove_job.ensures.numbers.1;
  },
)
