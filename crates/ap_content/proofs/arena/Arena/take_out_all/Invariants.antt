use Rattle.std.proofs.Common.{vec_capacity}
use Rattle.ap_content.specs.Counting.{total, living}
use Rattle.ap_content.specs.Sound.{IsLinked, IsListed, Thins}
use Rattle.ap_content.proofs.arena.Arena.take_out_all.Given as goal

abbrev pub invariant-loop-n : goal.invariant-loop-n
invariant-loop-n l =
    IsLinked l.self.slots l.self.index × IsListed l.self.slots l.self.dying.items (vec_capacity l.self.dying) × Thins l.initial.self.slots l.self.slots

abbrev pub decreases-loop-n : goal.decreases-loop-n
decreases-loop-n l = total living l.self.slots.slots
