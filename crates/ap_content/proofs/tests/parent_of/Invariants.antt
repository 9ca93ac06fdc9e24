use Rattle.std.proofs.Common.{ℕ, ◌<◌, get_or}
use Rattle.ap_content.specs.Entries.{Lives}
use Rattle.ap_content.proofs.tests.parent_of.Given as goal

-- the kids so far live
abbrev pub invariant-loop-kid : goal.invariant-loop-kid
invariant-loop-kid g l = (k : ℕ) → k < l.kid-index → Lives l.contents (get_or l.kids k (record { 0 = 0 }))
