use Rattle.std.proofs.Common.{◌≡◌, ◌++◌, All, take}
use Rattle.std.specs.List.{flat_map}
use Rattle.ap_rows.proofs.write.write_each.Given as goal

-- the items so far are written, and are as their type says
abbrev pub invariant-loop-item : goal.invariant-loop-item
invariant-loop-item g l =
    (l.out.items ≡ l.fn.out.items ++ flat_map (g.X.Spell.field) (take l.item-index l.items)) × All (g.X.Spell.typed) (take l.item-index l.items)
