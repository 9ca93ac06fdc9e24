use Rattle.std.proofs.Common.{Some, None, Ok, Err, refl}
use Rattle.std.specs.List.{remove}
use Rattle.ap_text.specs.JobOrder.{job_cmp, same_job}
use Rattle.ap_db.proofs.Places.{taken_placed}
use Rattle.ap_db.proofs.db.row_of.Goals as goal

pub returns-in-Ok : goal.returns-in-Ok
returns-in-Ok c = (taken_placed (λ row. job_cmp row.id c.args.job.now) (λ row. same_job row.id c.args.job.now) (λ y. refl) c.args.rows.now (Ok c.in-Ok.at) (remove c.args.rows.now c.in-Ok.at) (Some c.index-rows-at.result)
    c.in-Ok.ensures.place (refl, c.index-rows-at.result, refl, c.index-rows-at.is)).1

pub returns-in-Err : goal.returns-in-Err
returns-in-Err c = (taken_placed (λ row. job_cmp row.id c.args.job.now) (λ row. same_job row.id c.args.job.now) (λ y. refl) c.args.rows.now (Err c.in-Err.field-0) c.args.rows.now None
    c.in-Err.ensures.place (refl, refl)).1
