use Rattle.std.proofs.Common.{Some, None, Ok, Err, bytes_eq, refl, sym}
use Rattle.std.specs.List.{remove}
use Rattle.std.proofs.lemmas.Map.Text.{is_eq-slice_cmp}
use Rattle.ap_text.specs.Order.{bytes_cmp}
use Rattle.ap_db.proofs.Places.{taken_placed}
use Rattle.ap_db.proofs.db.creation_of.Goals as goal

pub returns-in-Ok : goal.returns-in-Ok
returns-in-Ok c = (taken_placed (λ row. bytes_cmp row.source c.args.source.now) (λ row. bytes_eq row.source c.args.source.now) (λ y. sym (is_eq-slice_cmp y.source c.args.source.now)) c.args.rows.now (Ok c.in-Ok.place) (remove c.args.rows.now c.in-Ok.place) (Some c.index-rows-place.result)
    c.in-Ok.ensures.place (refl, c.index-rows-place.result, refl, c.index-rows-place.is)).1

pub returns-in-Err : goal.returns-in-Err
returns-in-Err c = (taken_placed (λ row. bytes_cmp row.source c.args.source.now) (λ row. bytes_eq row.source c.args.source.now) (λ y. sym (is_eq-slice_cmp y.source c.args.source.now)) c.args.rows.now (Err c.in-Err.field-0) c.args.rows.now None
    c.in-Err.ensures.place (refl, refl)).1
