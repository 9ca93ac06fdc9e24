use Rattle.std.proofs.Common.{subst, List}
use Rattle.std.specs.Cmp.Lexicographic.{nat_list_cmp_total}
use Rattle.ap_text.specs.Order.{bytes_cmp}
use Rattle.ap_rows.specs.declared.row.CreateRow.{CreateRow}
use Rattle.ap_db.specs.Listed.{IsPlaceOf}
use Rattle.ap_db.specs.Rows.{by_source}
use Rattle.ap_db.proofs.Places.{put_placed}
use Rattle.ap_db.proofs.Told.{where_ok}
use Rattle.ap_db.proofs.rows.put_create_row.Goals as goal

pub returns-clause-put : goal.returns-clause-put
returns-clause-put c = where_ok c.put_at.result _ _ c.put_at.ensures.put (λ old put.
    put_placed (λ row. bytes_cmp row.source c.args.row.source) by_source c.args.row (λ y. nat_list_cmp_total.antisymm c.args.row.source y.source) c.args.rows.now.items c.place_of_create-place.result c.put_at.new.rows.items old
    (subst (λ (l : List CreateRow). IsPlaceOf (λ row. bytes_cmp row.source c.args.row.source) l c.place_of_create-place.result) c.deref.ensures.value c.place_of_create-place.ensures.place) put)
