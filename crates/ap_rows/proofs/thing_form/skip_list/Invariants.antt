use Rattle.std.proofs.Common.{◌≡◌}
use Rattle.ap_rows.specs.Walks.{list_walk, walk_times}
use Rattle.ap_rows.proofs.thing_form.skip_list.Given as goal

-- what is behind the items that are left is behind the list
abbrev pub invariant-loop-left : goal.invariant-loop-left
invariant-loop-left g l = list_walk l.width (g.X.Walked.walk) l.fn.fields l.fn.kids ≡ walk_times (g.X.Walked.walk) l.left l.fields l.kids

abbrev pub decreases-loop-left : goal.decreases-loop-left
decreases-loop-left g l = l.left
