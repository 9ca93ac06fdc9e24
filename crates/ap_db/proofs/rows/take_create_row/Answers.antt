use Rattle.std.proofs.Common.{subst, List, sym}
use Rattle.std.specs.Prelude.{bytes_eq}
use Rattle.std.proofs.lemmas.Map.Text.{is_eq-slice_cmp}
use Rattle.ap_text.specs.Order.{bytes_cmp}
use Rattle.ap_rows.specs.declared.row.CreateRow.{CreateRow}
use Rattle.ap_db.specs.Listed.{IsPlaceOf}
use Rattle.ap_db.proofs.Places.{taken_placed}
use Rattle.ap_db.proofs.rows.take_create_row.Goals as goal

pub returns-clause-rows : goal.returns-clause-rows
returns-clause-rows c = (taken_placed (λ row. bytes_cmp row.source c.args.source.now) (λ row. bytes_eq row.source c.args.source.now) (λ y. sym (is_eq-slice_cmp y.source c.args.source.now)) c.args.rows.now.items c.place_of_create-place.result c.take_at.new.rows.items c.take_at.result
    (subst (λ (l : List CreateRow). IsPlaceOf (λ row. bytes_cmp row.source c.args.source.now) l c.place_of_create-place.result) c.deref.ensures.value c.place_of_create-place.ensures.place) c.take_at.ensures.taken).0

pub returns-clause-taken : goal.returns-clause-taken
returns-clause-taken c = (taken_placed (λ row. bytes_cmp row.source c.args.source.now) (λ row. bytes_eq row.source c.args.source.now) (λ y. sym (is_eq-slice_cmp y.source c.args.source.now)) c.args.rows.now.items c.place_of_create-place.result c.take_at.new.rows.items c.take_at.result
    (subst (λ (l : List CreateRow). IsPlaceOf (λ row. bytes_cmp row.source c.args.source.now) l c.place_of_create-place.result) c.deref.ensures.value c.place_of_create-place.ensures.place) c.take_at.ensures.taken).1
