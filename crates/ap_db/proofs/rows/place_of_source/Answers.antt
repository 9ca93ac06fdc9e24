use Rattle.std.proofs.Common.{◌≡◌, rules, ap, sym, ◌∙◌}
use Rattle.std.specs.Ordering.{is_lt}
use Rattle.std.proofs.lemmas.Fn.{always_returns_same}
use Rattle.std.specs.Cmp.Lexicographic.{nat_list_cmp_total}
use Rattle.ap_text.specs.Order.{bytes_cmp}
use Rattle.ap_db.proofs.Places.{place_found, behind_last, is_less}
use Rattle.ap_db.proofs.rows.place_of_source.Goals as goal

pub returns-2-clause-place : goal.returns-2-clause-place
returns-2-clause-place c = place_found bytes_cmp nat_list_cmp_total (λ row. row.path) c.args.path.now c.args.rows.now c.binary_search_by.result c.requires c.binary_search_by.ensures.bound
    (c.binary_search_by.ensures.position (λ row. bytes_cmp row.path c.args.path.now) (always_returns_same _ _ _ (λ a r q k. search rules)))

pub returns-clause-place : goal.returns-clause-place
returns-clause-place c =
    behind_last bytes_cmp nat_list_cmp_total (λ row. row.path) c.args.path.now c.args.rows.now c.last-item.result c.requires c.in-len1-up.len_at_least
    (ap (λ row. bytes_cmp row.path c.args.path.now) (sym c.last-item.is) ∙ is_less (bytes_cmp c.last-item.result.path c.args.path.now) (sym (c.is_lt.ensures ∙ ap is_lt c.cmp.ensures) ∙ c.if-is_lt.true))
