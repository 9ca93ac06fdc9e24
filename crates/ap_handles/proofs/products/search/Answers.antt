use Rattle.std.proofs.Common.{rules}
use Rattle.std.specs.Arc.{arc_value}
use Rattle.std.proofs.lemmas.Fn.{always_returns_same}
use Rattle.ap_handles.specs.Index.{key, key_of, key_cmp}
use Rattle.ap_handles.proofs.products.search.Goals as goal

pub returns-clause-found : goal.returns-clause-found
returns-clause-found c = c.binary_search_by.ensures.position (λ product. key_cmp (key_of (arc_value product)) (key c.args.platform.now c.args.id)) (always_returns_same _ _ _ (λ a r f called. (search rules, search rules)))
