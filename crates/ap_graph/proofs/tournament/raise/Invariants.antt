use Rattle.std.proofs.Common.{◌≡◌, ◌≤◌, ◌*◌, ℕ, length, get_or}
use Rattle.ap_graph.specs.Contest.{IsTreeBut}
use Rattle.ap_graph.proofs.tournament.raise.Given as goal

abbrev pub invariant-loop-at : goal.invariant-loop-at
invariant-loop-at l = record {
  tree : IsTreeBut l.priorities l.nodes l.at;
  inside : 2 * l.at ≤ l.from;
  leaves : (k : ℕ) → length l.priorities ≤ k → get_or l.nodes k 0 ≡ get_or l.initial.nodes k 0;
}

abbrev pub decreases-loop-at : goal.decreases-loop-at
decreases-loop-at l = l.at
