use Rattle.std.proofs.Common.{rules, ◌≡◌, map, subst, sym, ◌∙◌}
use Rattle.std.specs.Arc.{arc_value}
use Rattle.std.specs.List.Sorted.{IsPermutation}
use Rattle.std.proofs.lemmas.List.Sorted.{IsPermutation-map}
use Rattle.ap_handles.proofs.products.Products.of.Goals as goal

pub invariant_of-result : goal.invariant_of-result
invariant_of-result c =
    let published : c.of-published.result.value.items ≡ c.args.entries.items = search rules in
    record {
      distinct = rw published c.requires;
      same = subst (λ entries. IsPermutation entries (map arc_value c.sort.new.products.items)) (c.in_ok-by_key.ensures ∙ sym published) (IsPermutation-map arc_value _ _ c.sort.ensures.same);
      sorted = c.sort.ensures.sorted;
    }
