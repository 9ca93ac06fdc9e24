use Rattle.std.proofs.Common.{List, bytes_eq, sym, ◌∙◌, ap, subst}
use Rattle.std.specs.Prelude.{find}
use Rattle.ap_rows.specs.declared.row.CreateRow.{CreateRow}
use Rattle.ap_db.specs.Rows.{CreatesRise}
use Rattle.ap_db.specs.States.{Names}
use Rattle.ap_db.proofs.Puts.{creates_rise}
use Rattle.ap_db.proofs.db.Db.creation.Goals as goal

pub creation_of-requires : goal.creation_of-requires
creation_of-requires c =
    let state = c.args.self.now.state in
    subst CreatesRise (sym c.deref.ensures.value) (creates_rise (Names state.things.items c.requires.0) state.tables.creates.items c.requires.1.tables.creates c.requires.2.tables.creates c.requires.2.sound.rise.creates)

pub returns : goal.returns
returns c = c.creation_of.ensures ∙ ap (λ (l : List CreateRow). find (λ row. bytes_eq row.source c.args.source.now) l) c.deref.ensures.value
