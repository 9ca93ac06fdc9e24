use Rattle.std.proofs.Common.{rules, of_calls}
use Rattle.std.specs.Ordering.{is_lt}
use Rattle.std.proofs.lemmas.Fn.{always_returns_same}
use Rattle.ap_text.specs.Order.{bytes_cmp}
use Rattle.ap_rows.specs.declared.row.JobRow.{JobRow}
use Rattle.ap_engine.proofs.Parted.{parted, rest_of}
use Rattle.ap_engine.proofs.SourceJobs.{below_earlier}
use Rattle.ap_engine.proofs.jobs_of.count_below.Goals as goal

pub returns-clause-rest : goal.returns-clause-rest
returns-clause-rest c =
    let s = c.args.source.now in
    let rows = c.args.rows.now in
    let test : JobRow → Rattle.std.specs.Prelude.Bool = λ row. is_lt (bytes_cmp row.id.source s) in
    rest_of test rows c.partition_point.result c.partition_point.ensures.bound
    (c.partition_point.ensures.partitioned test (always_returns_same _ _ _ (λ a r f k. search (rules, of_calls))) (parted test rows (below_earlier s rows c.requires)))
