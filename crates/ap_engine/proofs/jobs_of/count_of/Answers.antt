use Rattle.std.proofs.Common.{rules, of_calls, bytes_eq}
use Rattle.std.proofs.lemmas.Fn.{always_returns_same}
use Rattle.ap_rows.specs.declared.row.JobRow.{JobRow}
use Rattle.ap_engine.proofs.Parted.{parted, front_of}
use Rattle.ap_engine.proofs.SourceJobs.{same_earlier}
use Rattle.ap_engine.proofs.jobs_of.count_of.Goals as goal

pub returns-clause-front : goal.returns-clause-front
returns-clause-front c =
    let s = c.args.source.now in
    let rows = c.args.rows.now in
    let test : JobRow → Rattle.std.specs.Prelude.Bool = λ row. bytes_eq row.id.source s in
    front_of test rows c.partition_point.result c.partition_point.ensures.bound
    (c.partition_point.ensures.partitioned test (always_returns_same _ _ _ (λ a r f k. search (rules, of_calls))) (parted test rows (same_earlier s rows c.requires.rise c.requires.none_below)))
