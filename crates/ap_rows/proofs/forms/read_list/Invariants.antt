use Rattle.std.proofs.Common.{◌≡◌, ◌≤◌, length}
use Rattle.ap_rows.specs.Readers.{list_of, times}
use Rattle.ap_rows.specs.Listing.{items_behind}
use Rattle.ap_rows.proofs.forms.read_list.Given as goal

-- the items so far, and those that are left, are the list
abbrev pub invariant-loop-left : goal.invariant-loop-left
invariant-loop-left g l =
    (list_of 4 (g.X.Form.form) l.fn.reader ≡ items_behind l.items.items (times (g.X.Form.form) l.left l.reader)) × (length l.reader ≤ length l.fn.reader)

abbrev pub decreases-loop-left : goal.decreases-loop-left
decreases-loop-left g l = l.left
