use Rattle.std.proofs.Common.{◌≡◌, ◌++◌, length}
use Rattle.std.specs.List.{flat_map}
use Rattle.ap_db.specs.Naming.{item_numbers}
use Rattle.ap_db.proofs.defines.named_by_all.Given as goal

-- with what the rest names it is what all name
abbrev pub invariant-loop-rest : goal.invariant-loop-rest
invariant-loop-rest l = l.named.items ++ flat_map item_numbers l.rest ≡ flat_map item_numbers l.items

abbrev pub decreases-loop-rest : goal.decreases-loop-rest
decreases-loop-rest l = length l.rest
