use Rattle.std.proofs.Common.{rules}
use Rattle.std.proofs.lemmas.Fn.{always_returns_same}
use Rattle.ap_text.specs.JobOrder.{job_cmp}
use Rattle.ap_graph.proofs.IdOrder.{found, found_at}
use Rattle.ap_graph.proofs.ids.place_of.Goals as goal

pub unwrap-requires : goal.unwrap-requires
unwrap-requires c = found c.args.ids.now c.args.id.now c.binary_search_by.result c.requires.rises c.requires.has
    (c.binary_search_by.ensures.position (λ other. job_cmp other c.args.id.now) (always_returns_same _ _ _ (λ a r q k. search rules)))

pub returns-clause-named : goal.returns-clause-named
returns-clause-named c = found_at c.args.ids.now c.args.id.now c.binary_search_by.result c.unwrap.result
    (c.binary_search_by.ensures.position (λ other. job_cmp other c.args.id.now) (always_returns_same _ _ _ (λ a r q k. search rules))) c.unwrap.ensures
