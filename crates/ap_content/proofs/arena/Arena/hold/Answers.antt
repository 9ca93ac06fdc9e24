use Rattle.ap_content.proofs.Changing.{linked-more, listed-held, gains-more}
use Rattle.ap_content.proofs.arena.Arena.hold.Goals as goal

pub returns-clause-sound : goal.returns-clause-sound
returns-clause-sound c = record {
  linked = linked-more c.args.self.now.slots c.add_hold.new.slots c.args.self.now.index c.args.n c.requires.sound.linked c.add_hold.ensures.here c.add_hold.ensures.others;
  listed = listed-held c.args.self.now.slots c.add_hold.new.slots c.args.n c.add_hold.ensures.here c.add_hold.ensures.others _ _ c.requires.sound.listed c.requires.sound.idle;
  idle = c.requires.sound.idle;
}

pub returns-clause-gains : goal.returns-clause-gains
returns-clause-gains c = gains-more c.args.self.now.slots c.add_hold.new.slots c.args.n c.add_hold.ensures.here c.add_hold.ensures.others
