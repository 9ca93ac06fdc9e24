use Rattle.std.proofs.Common.{◌≡◌, ◌≤◌, ◌+◌, ◌++◌, length}
use Rattle.std.specs.Prelude.{IfSome}
use Rattle.std.specs.List.{AllByRecursion}
use Rattle.std.specs.List.Sorted.{IsStrictlySortedBy}
use Rattle.std.specs.Vec.Iter.{into_iter_items}
use Rattle.ap_text.specs.Order.{bytes_cmp}
use Rattle.ap_scan.specs.Candidates.{IsFolded}
use Rattle.ap_scan.specs.Limits.{IsThere, bytes_of, first_over, all_seen}
use Rattle.ap_scan.specs.Reads.{winners_in, those_there, paths_of, winner_paths}
use Rattle.ap_scan.proofs.reading.read_all.Given as goal

abbrev pub invariant-loop-candidate : goal.invariant-loop-candidate
invariant-loop-candidate g l = record {
  read : IfSome (g.T.Tree.files l.fn.tree) (λ files.
      l.winners.items ++ those_there (winners_in files (into_iter_items l.candidate-iterator)) ≡ those_there (winners_in files l.fn.candidates.items));
  limit : IfSome (g.T.Tree.files l.fn.tree) (λ files.
      first_over l.total (all_seen (winners_in files (into_iter_items l.candidate-iterator))) ≡ first_over 0 (all_seen (winners_in files l.fn.candidates.items)));
  rises : IsStrictlySortedBy bytes_cmp (paths_of l.fn.candidates.items) →
      IsStrictlySortedBy bytes_cmp (winner_paths l.winners.items ++ paths_of (into_iter_items l.candidate-iterator));
  folded : AllByRecursion IsFolded l.fn.candidates.items → AllByRecursion IsFolded (into_iter_items l.candidate-iterator);
  there : AllByRecursion IsFolded l.fn.candidates.items → AllByRecursion IsThere l.winners.items;
  fewer : length l.winners.items + length (into_iter_items l.candidate-iterator) ≤ length l.fn.candidates.items;
  small : bytes_of l.winners.items ≡ l.total;
  within : l.total ≤ 268435456;
  same : g.T.Tree.files l.tree ≡ g.T.Tree.files l.fn.tree;
  later : g.T.Tree.faults l.fn.tree ≤ g.T.Tree.faults l.tree;
}
