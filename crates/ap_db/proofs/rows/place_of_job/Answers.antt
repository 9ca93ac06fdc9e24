use Rattle.std.proofs.Common.{◌≡◌, rules, ap, sym, ◌∙◌}
use Rattle.std.specs.Ordering.{is_lt}
use Rattle.std.proofs.lemmas.Fn.{always_returns_same}
use Rattle.ap_text.specs.JobOrder.{job_cmp, job_total}
use Rattle.ap_db.proofs.Places.{place_found, behind_last, is_less}
use Rattle.ap_db.proofs.rows.place_of_job.Goals as goal

pub returns-2-clause-place : goal.returns-2-clause-place
returns-2-clause-place c = place_found job_cmp job_total (λ row. row.id) c.args.id.now c.args.rows.now c.binary_search_by.result c.requires c.binary_search_by.ensures.bound
    (c.binary_search_by.ensures.position (λ row. job_cmp row.id c.args.id.now) (always_returns_same _ _ _ (λ a r q k. search rules)))

pub returns-clause-place : goal.returns-clause-place
returns-clause-place c =
    behind_last job_cmp job_total (λ row. row.id) c.args.id.now c.args.rows.now c.last-item.result c.requires c.in-len1-up.len_at_least
    (ap (λ row. job_cmp row.id c.args.id.now) (sym c.last-item.is) ∙ is_less (job_cmp c.last-item.result.id c.args.id.now) (sym (c.is_lt.ensures ∙ ap is_lt c.cmp.ensures) ∙ c.if-is_lt.true))
