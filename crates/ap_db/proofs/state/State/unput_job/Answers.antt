use Rattle.std.proofs.Common.{◌∙◌, Option, sym, ap, subst}
use Rattle.ap_rows.specs.declared.row.JobRow.{JobRow}
use Rattle.ap_db.specs.Tables.{PlainJob, PlainTables}
use Rattle.ap_db.specs.Changes.{with_job, without_job, job_row_cmp}
use Rattle.ap_db.specs.Stored.{with_tables}
use Rattle.ap_db.specs.States.{Names, JobIs, StandsFor}
use Rattle.ap_db.specs.Listed.{AreBoth, replaced}
use Rattle.ap_db.specs.Undoing.{job_unput, put_job_undone}
use Rattle.ap_db.proofs.Placing.{keeps}
use Rattle.ap_db.proofs.Taking.{both_some, both_none}
use Rattle.ap_db.proofs.state.State.unput_job.Goals as goal

pub put_job_reserved-requires-clause-stands : goal.put_job_reserved-requires-clause-stands
put_job_reserved-requires-clause-stands c =
    let stored = c.requires.put.1 in
    let plain = c.requires.put.2 in
    let has = c.requires.put.3 in
    let old = both_some (JobIs (Names c.args.self.now.things.items c.requires.put.0)) c.in-Some.row (replaced job_row_cmp plain stored.tables.jobs) (subst (λ (o : Option JobRow). AreBoth (JobIs (Names c.args.self.now.things.items c.requires.put.0)) o (replaced job_row_cmp plain stored.tables.jobs)) c.in-Some.is has.gave) in
    (c.requires.put.0, with_tables stored (with_job stored.tables plain), old.0, has.stands, old.2)

pub returns-in-Some-clause-undone : goal.returns-in-Some-clause-undone
returns-in-Some-clause-undone c = λ contents stored plain has.
    let old = both_some (JobIs (Names c.args.self.now.things.items contents)) c.in-Some.row (replaced job_row_cmp plain stored.tables.jobs) (subst (λ (o : Option JobRow). AreBoth (JobIs (Names c.args.self.now.things.items contents)) o (replaced job_row_cmp plain stored.tables.jobs)) c.in-Some.is has.gave) in
    let put = with_job stored.tables plain in
    subst (λ (tables : PlainTables). StandsFor c.put_job_reserved.new.self contents (with_tables stored tables))
    (ap (λ (o : Option PlainJob). job_unput plain o put) (sym old.1) ∙ put_job_undone stored.tables has.rise plain)
    (c.put_job_reserved.ensures.stands contents (with_tables stored put) old.0 has.stands old.2)

pub returns-in-None-clause-undone : goal.returns-in-None-clause-undone
returns-in-None-clause-undone c = λ contents stored plain has.
    let put = with_job stored.tables plain in
    subst (λ (tables : PlainTables). StandsFor c.remove_job.new.self contents (with_tables stored tables))
    (ap (λ key. without_job put key) has.same ∙ ap (λ (o : Option PlainJob). job_unput plain o put) (sym (both_none (JobIs (Names c.args.self.now.things.items contents)) (replaced job_row_cmp plain stored.tables.jobs) (subst (λ (o : Option JobRow). AreBoth (JobIs (Names c.args.self.now.things.items contents)) o (replaced job_row_cmp plain stored.tables.jobs)) c.in-None.is has.gave))) ∙ put_job_undone stored.tables has.rise plain)
    (c.remove_job.ensures.stands contents (with_tables stored put) has.stands)

pub returns-in-Some-clause-keeps : goal.returns-in-Some-clause-keeps
returns-in-Some-clause-keeps c = keeps 0 0 1 2 c.args.self.now c.put_job_reserved.new.self c.put_job_reserved.ensures.takes

pub returns-in-None-clause-keeps : goal.returns-in-None-clause-keeps
returns-in-None-clause-keeps c = keeps 0 0 0 0 c.args.self.now c.remove_job.new.self c.remove_job.ensures.takes
