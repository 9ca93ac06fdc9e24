use Rattle.std.proofs.Common.{◌≡◌, length, take, min}
use Rattle.std.specs.List.{flat_map}
use Rattle.ap_rows.proofs.measure.size_of_each.Given as goal

-- the items so far have so many bytes
abbrev pub invariant-loop-item : goal.invariant-loop-item
invariant-loop-item g l = l.size ≡ min (length (flat_map (g.X.Measure.spelling) (take l.item-index l.items))) 18446744073709551615
