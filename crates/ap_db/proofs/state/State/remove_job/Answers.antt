use Rattle.std.proofs.Common.{◌∙◌, ◌+◌, sym, subst, ap, Option}
use Rattle.std.specs.Prelude.{find, is_some, vec_len}
use Rattle.ap_text.specs.JobOrder.{same_job}
use Rattle.ap_rows.specs.declared.row.Tables.{Tables}
use Rattle.ap_rows.specs.declared.row.JobRow.{JobRow}
use Rattle.ap_db.specs.Changes.{job_row_at}
use Rattle.ap_db.specs.Listed.{AreBoth}
use Rattle.ap_db.specs.States.{Names, JobIs}
use Rattle.ap_db.specs.Naming.{both_of, named_by, job_numbers}
use Rattle.ap_db.proofs.Puts.{jobs_rise, job_is_taken, take_job_is, both_there, one_step}
use Rattle.ap_db.proofs.Rooms.{fills_fewer, fills_none, names_fewer}
use Rattle.ap_db.proofs.state.State.remove_job.Goals as goal

pub take_job_row-old-requires : goal.take_job_row-old-requires
take_job_row-old-requires c = jobs_rise (Names c.args.self.now.things.items c.requires.0) c.args.self.now.tables.jobs.items c.requires.1.tables.jobs c.requires.2.tables.jobs c.requires.2.sound.rise.jobs

pub returns-clause-lawful : goal.returns-clause-lawful
returns-clause-lawful c = λ contents stored stands.
    ap is_some c.take_job_row-old.ensures.taken
    ∙ both_there (JobIs (Names c.args.self.now.things.items contents)) (find (λ row. same_job row.id c.args.id.now) c.args.self.now.tables.jobs.items) (job_row_at stored.tables c.args.id.now)
    (take_job_is (Names c.args.self.now.things.items contents) c.args.id.now c.args.self.now.tables.jobs.items stored.tables.jobs stands.tables.jobs).1

pub returns-clause-stands : goal.returns-clause-stands
returns-clause-stands c = λ contents stored stands.
    let same = c.unname.ensures.kept.0 in
    job_is_taken c.args.self.now c.unname.new.self contents stored stands c.args.id.now
    (record { folders = ap (λ (t : Tables). t.folders) (same); sources = ap (λ (t : Tables). t.sources) (same); creates = ap (λ (t : Tables). t.creates) (same); jobs = ap (λ (t : Tables). t.jobs.items) (same) ∙ c.take_job_row-old.ensures.rows })
    (one_step c.args.self.now c.unname.new.self (both_of c.numbers_of_old-input.result.0 c.numbers_of_old-input.result.1) (named_by job_numbers (find (λ row. same_job row.id c.args.id.now) c.args.self.now.tables.jobs.items))
    c.unname.ensures.kept.1 c.unname.ensures.names c.unname.ensures.counts (c.numbers_of_old-input.ensures ∙ ap (λ (o : Option JobRow). named_by job_numbers o) c.take_job_row-old.ensures.taken))

pub returns-clause-gives : goal.returns-clause-gives
returns-clause-gives c = λ contents stored stands.
    subst (λ o. AreBoth (JobIs (Names c.args.self.now.things.items contents)) o (job_row_at stored.tables c.args.id.now)) (sym c.take_job_row-old.ensures.taken)
    (take_job_is (Names c.args.self.now.things.items contents) c.args.id.now c.args.self.now.tables.jobs.items stored.tables.jobs stands.tables.jobs).1

pub returns-clause-takes : goal.returns-clause-takes
returns-clause-takes c =
    let same = c.unname.ensures.kept.0 in
    record {
      sources = fills_none c.args.self.now.tables.sources c.unname.new.self.tables.sources (ap (λ (t : Tables). t.sources) same);
      creates = fills_none c.args.self.now.tables.creates c.unname.new.self.tables.creates (ap (λ (t : Tables). t.creates) same);
      jobs = fills_fewer c.args.self.now.tables.jobs _ c.unname.new.self.tables.jobs (ap (λ (t : Tables). t.jobs) same) c.take_job_row-old.ensures.kept c.take_job_row-old.ensures.shorter;
      names = names_fewer c.args.self.now.names c.unname.new.self.names _ c.unname.ensures.names;
    }

pub returns-clause-frees : goal.returns-clause-frees
returns-clause-frees c = λ there. ap (λ (t : Tables). vec_len t.jobs + 1) c.unname.ensures.kept.0 ∙ c.take_job_row-old.ensures.frees there
