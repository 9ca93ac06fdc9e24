use Rattle.std.proofs.lemmas.List.Filters.{dedup_is}
use Rattle.std.proofs.lemmas.List.Kept.{Any-dedup, Contains-from_dedup, IsStrictlySortedBy-dedup}
use Rattle.std.proofs.lemmas.List.Sorted.{Contains-permutation, IsPermutation-sym}
use Rattle.std.proofs.Common.{refl}
use Rattle.std.specs.Cmp.{Equal-is}
use Rattle.ap_scan.specs.Candidates.{candidate_cmp, candidate_total, same_candidate_equivalence}
use Rattle.ap_scan.proofs.order.put_in_order.Goals as goal

pub returns-clause-rises : goal.returns-clause-rises
returns-clause-rises c =
    rw (dedup_is _ _ _ c.dedup.ensures.filtered) (IsStrictlySortedBy-dedup candidate_total (λ x y. refl) _ c.sort_unstable.ensures.sorted)

pub returns-clause-only : goal.returns-clause-only
returns-clause-only c = λ x member.
    Contains-permutation _ _ x (IsPermutation-sym _ _ c.sort_unstable.ensures.permutation)
    (Contains-from_dedup _ _ x (rw (dedup_is _ _ _ c.dedup.ensures.filtered) at member))

pub returns-clause-all : goal.returns-clause-all
returns-clause-all c = λ x member.
    let kept = Any-dedup same_candidate_equivalence _ x (Contains-permutation _ _ x c.sort_unstable.ensures.permutation member) in
    (kept.1, rw (dedup_is _ _ _ c.dedup.ensures.filtered) (kept.0, kept.2, kept.3), (Equal-is (candidate_cmp x kept.1)).0 kept.4)
