use Rattle.std.proofs.Common.{◌∙◌, sym}
use Rattle.std.specs.Prelude.{bytes_eq}
use Rattle.std.proofs.lemmas.Map.Text.{is_eq-slice_cmp}
use Rattle.ap_text.specs.Order.{bytes_cmp}
use Rattle.ap_db.proofs.Finding.{found_placed}
use Rattle.ap_db.proofs.lawful.has_source.Goals as goal

pub returns : goal.returns
returns c = c.is_ok.ensures.value ∙ found_placed (λ row. bytes_cmp row.path c.args.path.now) (λ row. bytes_eq row.path c.args.path.now) (λ y. sym (is_eq-slice_cmp y.path c.args.path.now)) c.args.rows.now c.place_of_source.result c.place_of_source.ensures.range c.place_of_source.ensures.place
