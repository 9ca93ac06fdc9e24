use Rattle.std.proofs.Common.{◌≡◌, ◌++◌, take}
use Rattle.std.specs.List.{flat_map}
use Rattle.ap_rows.specs.InputNodes.{given_kids}
use Rattle.ap_rows.proofs.thing_node.push_handed.Given as goal

-- the kids of the dependencies so far are there
abbrev pub invariant-loop-handed : goal.invariant-loop-handed
invariant-loop-handed l = l.kids.items ≡ l.fn.kids.items ++ flat_map given_kids (take l.handed-index l.all)
