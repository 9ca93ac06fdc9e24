use Rattle.std.proofs.Common.{◌≡◌, ◌∙◌, sym, ap, subst, find, is_some, bytes_eq}
use Rattle.ap_content.specs.Entries.{Stands}
use Rattle.ap_db.specs.Changes.{create_row_at}
use Rattle.ap_db.specs.Rows.{CreatesRise}
use Rattle.ap_db.specs.States.{Names, CreateIs}
use Rattle.ap_db.specs.Lookup.{create_left, left_after, left_after_all, create_after_item}
use Rattle.ap_db.proofs.Puts.{creates_rise, take_create_is, both_there}
use Rattle.ap_db.proofs.state.State.create_there.Goals as goal

pub has_create-requires : goal.has_create-requires
has_create-requires c =
    subst CreatesRise (sym c.deref.ensures.value)
    (creates_rise (Names c.args.self.now.things.items c.args.contents.now) c.args.self.now.tables.creates.items c.requires.0.tables.creates c.requires.1.tables.creates c.requires.1.sound.rise.creates)

pub returns : goal.returns
returns c stored plain stands are =
    let N = Names c.args.self.now.things.items c.args.contents.now in
    let first : c.has_create.result ≡ is_some (create_row_at stored.tables c.args.source.now) =
    c.has_create.ensures ∙ ap (λ rows. is_some (find (λ row. bytes_eq row.source c.args.source.now) rows)) c.deref.ensures.value
    ∙ both_there (CreateIs N) (find (λ row. bytes_eq row.source c.args.source.now) c.args.self.now.tables.creates.items) (create_row_at stored.tables c.args.source.now)
    (take_create_is N c.args.source.now c.args.self.now.tables.creates.items stored.tables.creates stands.tables.creates).1 in
    c.create_after.ensures ∙ ap (left_after create_left c.args.before.now c.args.source.now) first
    ∙ sym (left_after_all (Stands c.args.contents.now) create_left (λ t k. is_some (create_row_at t k)) (create_after_item (Stands c.args.contents.now)) c.args.before.now plain stored.tables c.args.source.now are)
