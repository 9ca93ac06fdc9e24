use Rattle.std.proofs.Common.{subst, List, refl}
use Rattle.ap_text.specs.JobOrder.{job_cmp, same_job}
use Rattle.ap_rows.specs.declared.row.JobRow.{JobRow}
use Rattle.ap_db.specs.Listed.{IsPlaceOf}
use Rattle.ap_db.proofs.Places.{taken_placed}
use Rattle.ap_db.proofs.rows.take_job_row.Goals as goal

pub returns-clause-rows : goal.returns-clause-rows
returns-clause-rows c = (taken_placed (λ row. job_cmp row.id c.args.id.now) (λ row. same_job row.id c.args.id.now) (λ y. refl) c.args.rows.now.items c.place_of_job-place.result c.take_at.new.rows.items c.take_at.result
    (subst (λ (l : List JobRow). IsPlaceOf (λ row. job_cmp row.id c.args.id.now) l c.place_of_job-place.result) c.deref.ensures.value c.place_of_job-place.ensures.place) c.take_at.ensures.taken).0

pub returns-clause-taken : goal.returns-clause-taken
returns-clause-taken c = (taken_placed (λ row. job_cmp row.id c.args.id.now) (λ row. same_job row.id c.args.id.now) (λ y. refl) c.args.rows.now.items c.place_of_job-place.result c.take_at.new.rows.items c.take_at.result
    (subst (λ (l : List JobRow). IsPlaceOf (λ row. job_cmp row.id c.args.id.now) l c.place_of_job-place.result) c.deref.ensures.value c.place_of_job-place.ensures.place) c.take_at.ensures.taken).1
