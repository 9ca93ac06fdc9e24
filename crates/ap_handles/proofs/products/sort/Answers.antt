use Rattle.std.proofs.Common.{rules}
use Rattle.std.specs.Arc.{arc_value}
use Rattle.std.proofs.lemmas.List.MinMax.{ranks_by}
use Rattle.std.proofs.lemmas.List.Sorted.{answers_always}
use Rattle.ap_handles.specs.Index.{key_of, is_below}
use Rattle.ap_handles.proofs.Keys.{key_cmp_total}
use Rattle.ap_handles.proofs.products.sort.Goals as goal

pub returns-clause-sorted : goal.returns-clause-sorted
returns-clause-sorted c = c.sort_unstable_by.ensures.sorted (λ a b. is_below (arc_value a) (arc_value b)) (ranks_by key_cmp_total (λ a. key_of (arc_value a))) (answers_always _ _ _ (λ f a r g called. search rules))
