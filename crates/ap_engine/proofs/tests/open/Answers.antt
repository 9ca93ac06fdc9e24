use Rattle.ap_engine.proofs.tests.NoFiles.{ready_for_nothing}
use Rattle.ap_engine.proofs.tests.open.Goals as goal

pub returns : goal.returns
returns c = ready_for_nothing _ _ _ c.open.result c.args.store.now c.open.new.store c.requires.empty c.open.ensures.ready
