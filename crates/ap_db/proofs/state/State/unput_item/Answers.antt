use Rattle.std.proofs.Common.{◌∙◌, sym}
use Rattle.ap_db.proofs.PutItems.{job_was_put, folders_were_put}
use Rattle.ap_db.proofs.state.State.unput_item.Goals as goal

pub returns-in-PutJob-clause-undone : goal.returns-in-PutJob-clause-undone
returns-in-PutJob-clause-undone c = λ contents stored plain has.
    let was = job_was_put c.args.self.now contents stored c.args.item.now c.in-PutJob.row plain c.args.old c.into_job.result c.in-PutJob.is c.into_job.ensures has in
    c.unput_job.ensures.undone contents stored was.0 was.1

pub returns-in-Some-clause-undone : goal.returns-in-Some-clause-undone
returns-in-Some-clause-undone c = λ contents stored plain has.
    let was = folders_were_put c.args.self.now contents stored c.args.item.now c.in-PutFolders.field-0 plain c.args.old c.in-Some.rows c.in-PutFolders.is (sym c.in-Some.is ∙ c.into_folders.ensures) has in
    was c.put_folders.new.self (λ s stands. c.put_folders.ensures.stands contents s stands)
