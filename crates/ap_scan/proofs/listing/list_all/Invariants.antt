use Rattle.std.proofs.Common.{◌≡◌, ◌≤◌, ◌++◌, length}
use Rattle.std.specs.Prelude.{IfSome}
use Rattle.std.specs.List.{AllByRecursion}
use Rattle.ap_scan.specs.Candidates.{SameMembers, candidates_of, odds_of, IsFolded}
use Rattle.ap_scan.proofs.listing.list_all.Given as goal

abbrev pub invariant-loop-rest : goal.invariant-loop-rest
invariant-loop-rest g l = record {
  candidates : IfSome (g.T.Tree.files l.fn.tree) (λ files. SameMembers (candidates_of files l.folders) (l.listing.candidates.items ++ candidates_of files l.rest));
  odd : IfSome (g.T.Tree.files l.fn.tree) (λ files. SameMembers (odds_of files l.folders) (l.listing.odd.items ++ odds_of files l.rest));
  folded : AllByRecursion IsFolded l.listing.candidates.items;
  same : g.T.Tree.files l.tree ≡ g.T.Tree.files l.fn.tree;
  later : g.T.Tree.faults l.fn.tree ≤ g.T.Tree.faults l.tree;
}

abbrev pub decreases-loop-rest : goal.decreases-loop-rest
decreases-loop-rest g l = length l.rest
