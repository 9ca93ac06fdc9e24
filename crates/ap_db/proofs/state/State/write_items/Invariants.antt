use Rattle.std.proofs.Common.{◌≡◌, ◌++◌, length, map}
use Rattle.ap_db.specs.Numbering.{in_file, item_by}
use Rattle.ap_db.proofs.state.State.write_items.Given as goal

-- behind what is written so far come the items that are left
abbrev pub invariant-loop-rest : goal.invariant-loop-rest
invariant-loop-rest l = l.written.items ++ map (item_by (in_file l.self.things.items)) l.rest ≡ l.initial.written.items ++ map (item_by (in_file l.self.things.items)) l.items

abbrev pub decreases-loop-rest : goal.decreases-loop-rest
decreases-loop-rest l = length l.rest
