use Rattle.std.proofs.Common.{◌∙◌, sym, subst, length, ap, arith, Option}
use Rattle.ap_content.specs.declared.node.Number.{Number}
use Rattle.std.specs.Prelude.{vec_len}
use Rattle.ap_rows.specs.declared.row.Tables.{Tables}
use Rattle.ap_rows.specs.declared.row.JobRow.{JobRow}
use Rattle.ap_db.specs.Listed.{AreBoth, replaced}
use Rattle.ap_db.specs.Changes.{job_row_cmp}
use Rattle.ap_db.specs.Rows.{by_id}
use Rattle.ap_db.specs.States.{Names, JobIs}
use Rattle.ap_db.specs.Naming.{both_of, named_by, job_numbers}
use Rattle.ap_db.proofs.Renaming.{have_room}
use Rattle.ap_db.proofs.Puts.{jobs_rise, job_is_put, replaced_job_is, two_steps}
use Rattle.ap_db.proofs.Rooms.{fills, fills_none, names_few, two_numbers}
use Rattle.ap_db.proofs.state.State.put_job.Goals as goal

pub put_job_row-requires : goal.put_job_row-requires
put_job_row-requires c = jobs_rise (Names c.args.self.now.things.items c.requires.0) c.args.self.now.tables.jobs.items c.requires.1.tables.jobs c.requires.3.tables.jobs c.requires.3.sound.rise.jobs

pub name-requires-clause-each : goal.name-requires-clause-each
name-requires-clause-each c = have_room c.args.self.now c.requires.0 c.requires.1 2 c.requires.3 (omega (arith, c.if-self.false))

pub returns-clause-stands : goal.returns-clause-stands
returns-clause-stands c = λ contents stored plain stands is.
    let same = c.unname.ensures.kept.0 ∙ c.name.ensures.kept.0 in
    job_is_put c.args.self.now c.unname.new.self contents stored stands c.args.row plain is
    (record { folders = ap (λ (t : Tables). t.folders) (same); sources = ap (λ (t : Tables). t.sources) (same); creates = ap (λ (t : Tables). t.creates) (same); jobs = ap (λ (t : Tables). t.jobs.items) (same) ∙ c.in_ok-old.ensures.put.0 })
    (two_steps c.args.self.now c.name.new.self c.unname.new.self (both_of c.numbers_of-input.result.0 c.numbers_of-input.result.1) (job_numbers c.args.row) (both_of c.numbers_of_old-input.result.0 c.numbers_of_old-input.result.1) (named_by job_numbers (replaced by_id c.args.row c.args.self.now.tables.jobs.items))
    c.name.ensures.kept.1 c.unname.ensures.kept.1 c.name.ensures.names c.unname.ensures.names c.name.ensures.counts c.unname.ensures.counts
    (ap (λ (o : Option Number × Option Number). both_of o.0 o.1) c.numbers_of-input.ensures) (c.numbers_of_old-input.ensures ∙ ap (λ (o : Option JobRow). named_by job_numbers o) c.in_ok-old.ensures.put.1))

pub returns-clause-gives : goal.returns-clause-gives
returns-clause-gives c = λ contents stored plain stands is.
    subst (λ o. AreBoth (JobIs (Names c.args.self.now.things.items contents)) o (replaced job_row_cmp plain stored.tables.jobs)) (sym c.in_ok-old.ensures.put.1)
    (replaced_job_is (Names c.args.self.now.things.items contents) c.args.row plain is c.args.self.now.tables.jobs.items stored.tables.jobs stands.tables.jobs)

pub returns-clause-takes : goal.returns-clause-takes
returns-clause-takes c =
    let same = c.unname.ensures.kept.0 ∙ c.name.ensures.kept.0 in
    record {
      sources = fills_none c.args.self.now.tables.sources c.unname.new.self.tables.sources (ap (λ (t : Tables). t.sources) same);
      creates = fills_none c.args.self.now.tables.creates c.unname.new.self.tables.creates (ap (λ (t : Tables). t.creates) same);
      jobs = fills 1 c.args.self.now.tables.jobs _ c.unname.new.self.tables.jobs (ap (λ (t : Tables). t.jobs) same) c.in_ok-old.ensures.grows c.in_ok-old.ensures.longer;
      names = names_few c.args.self.now.names c.name.new.self.names c.unname.new.self.names (length (both_of c.numbers_of-input.result.0 c.numbers_of-input.result.1)) _ 2 c.name.ensures.names c.unname.ensures.names (two_numbers c.numbers_of-input.result.0 c.numbers_of-input.result.1);
    }

pub returns-clause-replaces : goal.returns-clause-replaces
returns-clause-replaces c = λ there. ap (λ (t : Tables). vec_len t.jobs) (c.unname.ensures.kept.0 ∙ c.name.ensures.kept.0) ∙ c.in_ok-old.ensures.replaces there
