use Rattle.ap_content.proofs.Adding.{linked-empty, listed-empty}
use Rattle.ap_content.proofs.arena.Arena.new.Goals as goal

pub returns-clause-sound : goal.returns-clause-sound
returns-clause-sound c = record {
  linked = linked-empty c.new.result c.new-2.result c.new.ensures.empty c.new-2.ensures;
  listed = listed-empty c.new.result c.new-2.result c.new.ensures.empty c.new-2.ensures _ _ c.new-3.ensures.items;
  idle = c.new-3.ensures.items;
}
