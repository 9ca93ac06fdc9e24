use Rattle.std.proofs.Common.{◌≡◌, ◌∙◌, sym, ap, subst, find, is_some}
use Rattle.ap_text.specs.JobOrder.{same_job}
use Rattle.ap_content.specs.Entries.{Stands}
use Rattle.ap_db.specs.Changes.{job_row_at}
use Rattle.ap_db.specs.Rows.{JobsRise}
use Rattle.ap_db.specs.States.{Names, JobIs}
use Rattle.ap_db.specs.Lookup.{job_left, left_after, left_after_all, job_after_item}
use Rattle.ap_db.proofs.Puts.{jobs_rise, take_job_is, both_there}
use Rattle.ap_db.proofs.state.State.job_there.Goals as goal

pub has_job-requires : goal.has_job-requires
has_job-requires c =
    subst JobsRise (sym c.deref.ensures.value)
    (jobs_rise (Names c.args.self.now.things.items c.args.contents.now) c.args.self.now.tables.jobs.items c.requires.0.tables.jobs c.requires.1.tables.jobs c.requires.1.sound.rise.jobs)

pub returns : goal.returns
returns c stored plain stands are =
    let N = Names c.args.self.now.things.items c.args.contents.now in
    let first : c.has_job.result ≡ is_some (job_row_at stored.tables c.args.id.now) =
    c.has_job.ensures ∙ ap (λ rows. is_some (find (λ row. same_job row.id c.args.id.now) rows)) c.deref.ensures.value
    ∙ both_there (JobIs N) (find (λ row. same_job row.id c.args.id.now) c.args.self.now.tables.jobs.items) (job_row_at stored.tables c.args.id.now)
    (take_job_is N c.args.id.now c.args.self.now.tables.jobs.items stored.tables.jobs stands.tables.jobs).1 in
    c.job_after.ensures ∙ ap (left_after job_left c.args.before.now c.args.id.now) first
    ∙ sym (left_after_all (Stands c.args.contents.now) job_left (λ t k. is_some (job_row_at t k)) (job_after_item (Stands c.args.contents.now)) c.args.before.now plain stored.tables c.args.id.now are)
