use Rattle.std.proofs.Common.{◌≡◌, not, filter, bytes_eq, sym, ◌∙◌, ap, subst}
use Rattle.std.specs.List.{AllByRecursion}
use Rattle.std.specs.Ordering.{is_lt}
use Rattle.std.proofs.lemmas.List.{take_rest}
use Rattle.ap_text.specs.Order.{bytes_cmp}
use Rattle.ap_text.specs.JobOrder.{job_cmp, job_total}
use Rattle.ap_rows.specs.declared.row.JobRow.{JobRow}
use Rattle.ap_db.specs.Rows.{JobsRise}
use Rattle.ap_db.proofs.Alike.{filter_rises}
use Rattle.ap_engine.proofs.SourceJobs.{same_there, none_below}
use Rattle.ap_engine.proofs.jobs_of.jobs_of.Goals as goal

pub count_of-requires-clause-rise : goal.count_of-requires-clause-rise
count_of-requires-clause-rise c =
    let rows = c.args.rows.now in
    let s = c.args.source.now in
    subst JobsRise (sym (take_rest rows c.count_below.result ∙ c.count_below.ensures.rest)) (filter_rises job_cmp job_total (λ (row : JobRow). row.id) (λ row. not (is_lt (bytes_cmp row.id.source s))) rows c.requires)

pub count_of-requires-clause-none_below : goal.count_of-requires-clause-none_below
count_of-requires-clause-none_below c =
    let rows = c.args.rows.now in
    let s = c.args.source.now in
    subst (AllByRecursion (λ (row : JobRow). is_lt (bytes_cmp row.id.source s) ≡ Rattle.std.specs.Prelude.false)) (sym (take_rest rows c.count_below.result ∙ c.count_below.ensures.rest)) (none_below s rows)

pub returns : goal.returns
returns c =
    let rows = c.args.rows.now in
    let s = c.args.source.now in
    c.count_of.ensures.front ∙ ap (filter (λ (row : JobRow). bytes_eq row.id.source s)) (take_rest rows c.count_below.result ∙ c.count_below.ensures.rest) ∙ same_there s rows
