use Rattle.std.proofs.Common.{◌∙◌, refl}
use Rattle.ap_text.specs.JobOrder.{job_cmp, same_job}
use Rattle.ap_db.proofs.Finding.{found_placed}
use Rattle.ap_db.proofs.lawful.has_job.Goals as goal

pub returns : goal.returns
returns c = c.is_ok.ensures.value ∙ found_placed (λ row. job_cmp row.id c.args.id.now) (λ row. same_job row.id c.args.id.now) (λ y. refl) c.args.rows.now c.place_of_job.result c.place_of_job.ensures.range c.place_of_job.ensures.place
