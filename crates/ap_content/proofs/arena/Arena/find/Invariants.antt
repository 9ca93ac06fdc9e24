use Rattle.std.proofs.Common.{ℕ, List, Contains, length}
use Rattle.ap_content.specs.Sound.{HasNode}
use Rattle.ap_content.proofs.arena.Arena.find.Given as goal

-- a number with this thing that is among the clashes is among the rest
abbrev pub invariant-loop-rest : goal.invariant-loop-rest
invariant-loop-rest l =
    (d : List ℕ) (n : ℕ) → Contains l.self.index.clashes.items (d, n) → HasNode l.self.slots n (record { tag = l.tag; text = l.text; kids = l.kids })
    → Contains l.rest (d, n)

abbrev pub decreases-loop-rest : goal.decreases-loop-rest
decreases-loop-rest l = length l.rest
