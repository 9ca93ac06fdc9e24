use Rattle.std.proofs.Common.{◌≡◌, ℕ, ◌≤◌, Some, length, vec_capacity}
use Rattle.slab.specs.Slab.{get}
use Rattle.ap_content.specs.Counting.{kid_times, lowered}
use Rattle.ap_content.specs.Sound.{IsListed}
use Rattle.ap_content.specs.declared.slots.Interned.{Interned}
use Rattle.ap_content.proofs.slots.lower_all.Given as goal

-- what is still to be counted is what all the kids come to, and there are as many parents
abbrev pub invariant-loop-rest : goal.invariant-loop-rest
invariant-loop-rest l =
    ((n : ℕ) → lowered (kid_times n l.rest) (get l.slots n) ≡ lowered (kid_times n l.kids) (get l.initial.slots n))
    × ((n : ℕ) (x : Interned) → get l.slots n ≡ Some x → kid_times n l.rest ≤ x.parents)
    × IsListed l.slots l.dying.items (vec_capacity l.dying)

abbrev pub decreases-loop-rest : goal.decreases-loop-rest
decreases-loop-rest l = length l.rest
