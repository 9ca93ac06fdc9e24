use Rattle.std.proofs.Common.{◌≡◌, ◌++◌, length, map, reverse}
use Rattle.ap_db.specs.TakenOut.{drop_of}
use Rattle.ap_db.proofs.drops.push_drops.Given as goal

-- the last are there, and the others are to come
abbrev pub invariant-loop-n : goal.invariant-loop-n
invariant-loop-n l = l.items.items ++ map drop_of (reverse l.numbers.items) ≡ l.fn.items.items ++ map drop_of (reverse l.fn.numbers.items)

abbrev pub decreases-loop-n : goal.decreases-loop-n
decreases-loop-n l = length l.numbers.items
