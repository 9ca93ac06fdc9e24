use Rattle.std.proofs.Common.{subst, List}
use Rattle.ap_text.specs.JobOrder.{job_cmp, job_total}
use Rattle.ap_rows.specs.declared.row.JobRow.{JobRow}
use Rattle.ap_db.specs.Listed.{IsPlaceOf}
use Rattle.ap_db.specs.Rows.{by_id}
use Rattle.ap_db.proofs.Places.{put_placed}
use Rattle.ap_db.proofs.Told.{where_ok}
use Rattle.ap_db.proofs.rows.put_job_row.Goals as goal

pub returns-clause-put : goal.returns-clause-put
returns-clause-put c = where_ok c.put_at.result _ _ c.put_at.ensures.put (λ old put.
    put_placed (λ row. job_cmp row.id c.args.row.id) by_id c.args.row (λ y. job_total.antisymm c.args.row.id y.id) c.args.rows.now.items c.place_of_job-place.result c.put_at.new.rows.items old
    (subst (λ (l : List JobRow). IsPlaceOf (λ row. job_cmp row.id c.args.row.id) l c.place_of_job-place.result) c.deref.ensures.value c.place_of_job-place.ensures.place) put)
