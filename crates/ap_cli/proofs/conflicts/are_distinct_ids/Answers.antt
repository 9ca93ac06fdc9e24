use Rattle.std.proofs.Common.{rules, subst, List}
use Rattle.std.proofs.lemmas.List.Sorted.{answers_always}
use Rattle.std.specs.Ordering.{is_lt}
use Rattle.ap_cli.specs.declared.layout.ProductId.{ProductId as BorrowedId}
use Rattle.ap_cli.proofs.DistinctIds.{borrowed_cmp, IsRisingAnswer, distinct_where_rising, shared_where_level}
use Rattle.ap_cli.proofs.conflicts.are_distinct_ids.Goals as goal

pub returns-clause-distinct : goal.returns-clause-distinct
returns-clause-distinct c =
    distinct_where_rising c.args.ids.items c.sort_unstable.new.self.items c.sort_unstable.ensures.permutation c.is_sorted_by.result
    (subst (λ (l : List BorrowedId). IsRisingAnswer l c.is_sorted_by.result) c.deref.ensures.value
    (c.is_sorted_by.ensures.cases (λ x y. is_lt (borrowed_cmp x y)) (answers_always _ _ _ (λ f a r g h. search rules))))

pub returns-clause-shared : goal.returns-clause-shared
returns-clause-shared c = λ no.
    shared_where_level c.args.ids.items c.sort_unstable.new.self.items c.sort_unstable.ensures.permutation c.is_sorted_by.result
    (subst (λ (l : List BorrowedId). IsRisingAnswer l c.is_sorted_by.result) c.deref.ensures.value
    (c.is_sorted_by.ensures.cases (λ x y. is_lt (borrowed_cmp x y)) (answers_always _ _ _ (λ f a r g h. search rules))))
    c.sort_unstable.ensures.sorted no
