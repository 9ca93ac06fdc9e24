use Rattle.std.proofs.Common.{◌≡◌, ℕ, ◌⊎◌, ◌≤◌, Some, length}
use Rattle.slab.specs.Slab.{get}
use Rattle.ap_content.specs.Counting.{kid_times}
use Rattle.ap_content.specs.declared.slots.Interned.{Interned}
use Rattle.ap_content.proofs.slots.has_room.Given as goal

-- what lives either has few parents, or is among the rest as often as among all
abbrev pub invariant-loop-rest : goal.invariant-loop-rest
invariant-loop-rest l =
    (n : ℕ) (x : Interned) → get l.slots n ≡ Some x → (x.parents ≤ l.most) ⊎ (kid_times n l.rest ≡ kid_times n l.kids)

abbrev pub decreases-loop-rest : goal.decreases-loop-rest
decreases-loop-rest l = length l.rest
