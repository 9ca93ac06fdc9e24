use Rattle.std.proofs.Common.{◌≡◌, ℕ, length}
use Rattle.slab.specs.Slab.{get}
use Rattle.ap_content.specs.Counting.{kid_times, raised}
use Rattle.ap_content.proofs.slots.raise_all.Given as goal

-- what is still to be counted is what all the kids come to
abbrev pub invariant-loop-rest : goal.invariant-loop-rest
invariant-loop-rest l =
    (n : ℕ) → raised (kid_times n l.rest) (get l.slots n) ≡ raised (kid_times n l.kids) (get l.initial.slots n)

abbrev pub decreases-loop-rest : goal.decreases-loop-rest
decreases-loop-rest l = length l.rest
