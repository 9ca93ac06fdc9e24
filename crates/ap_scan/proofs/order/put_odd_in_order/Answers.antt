use Rattle.std.proofs.lemmas.List.Filters.{dedup_is}
use Rattle.std.proofs.lemmas.List.Kept.{Contains-dedup, Contains-from_dedup, IsStrictlySortedBy-dedup}
use Rattle.std.proofs.lemmas.List.Sorted.{Contains-permutation, IsPermutation-sym}
use Rattle.std.proofs.Common.{refl}
use Rattle.ap_scan.specs.Candidates.{odd_total, same_odd_equivalence}
use Rattle.ap_scan.proofs.Orders.{same-odds}
use Rattle.ap_scan.proofs.order.put_odd_in_order.Goals as goal

pub returns-clause-rises : goal.returns-clause-rises
returns-clause-rises c =
    rw (dedup_is _ _ _ c.dedup.ensures.filtered) (IsStrictlySortedBy-dedup odd_total (λ x y. refl) _ c.sort_unstable.ensures.sorted)

pub returns-clause-same : goal.returns-clause-same
returns-clause-same c = λ x. (
  λ member. rw (dedup_is _ _ _ c.dedup.ensures.filtered) (Contains-dedup same_odd_equivalence same-odds _ x (Contains-permutation _ _ x c.sort_unstable.ensures.permutation member)),
  λ member. Contains-permutation _ _ x (IsPermutation-sym _ _ c.sort_unstable.ensures.permutation)
      (Contains-from_dedup _ _ x (rw (dedup_is _ _ _ c.dedup.ensures.filtered) at member)),
)
