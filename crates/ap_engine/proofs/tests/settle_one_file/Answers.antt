use Rattle.ap_engine.proofs.tests.OneFile.{one_file_is_quiet, one_file_is_short}
use Rattle.ap_engine.proofs.tests.settle_one_file.Goals as goal

pub settle-requires-clause-world : goal.settle-requires-clause-world
settle-requires-clause-world c =
    let config = c.args.config.now in
    let winners = c.args.winners.items in
    let one = c.requires.one in (
      c.requires.ready.0,
      c.requires.ready.1,
      one_file_is_quiet config winners one.0 one.1 one.2 one.3 _ _,
      one_file_is_short config winners one.0 one.1 one.2 one.3,
    )
