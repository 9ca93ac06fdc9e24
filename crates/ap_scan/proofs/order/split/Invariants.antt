use Rattle.std.proofs.Common.{◌≡◌, ◌++◌, map}
use Rattle.std.specs.Vec.Iter.{into_iter_items}
use Rattle.ap_scan.specs.Sweep.{firsts, others, firsts_from, others_from, hidden_of}
use Rattle.ap_scan.proofs.order.split.Given as goal

abbrev pub invariant-loop-candidate : goal.invariant-loop-candidate
invariant-loop-candidate l = record {
  firsts : l.winners.items ++ firsts_from l.first (into_iter_items l.candidate-iterator) ≡ firsts l.fn.candidates.items;
  others : l.hidden.items ++ map hidden_of (others_from l.first (into_iter_items l.candidate-iterator)) ≡ map hidden_of (others l.fn.candidates.items);
}
