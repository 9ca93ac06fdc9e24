use Rattle.ap_content.proofs.Changing.{linked-less, loses-less}
use Rattle.ap_content.proofs.arena.Arena.release.Goals as goal

pub take_out_all-requires-clause-linked : goal.take_out_all-requires-clause-linked
take_out_all-requires-clause-linked c =
    linked-less c.args.self.now.slots c.release_hold.new.slots c.args.self.now.index c.args.n c.requires.sound.linked c.release_hold.ensures.here c.release_hold.ensures.others

pub returns-clause-loses : goal.returns-clause-loses
returns-clause-loses c =
    loses-less c.args.self.now.slots c.release_hold.new.slots c.take_out_all.new.self.slots c.args.n c.release_hold.ensures.here c.release_hold.ensures.others c.take_out_all.ensures.thins
