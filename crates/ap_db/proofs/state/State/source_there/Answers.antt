use Rattle.std.proofs.Common.{◌≡◌, ◌∙◌, sym, ap, subst, find, is_some, bytes_eq}
use Rattle.ap_content.specs.Entries.{Stands}
use Rattle.ap_db.specs.Changes.{source_row_at}
use Rattle.ap_db.specs.Rows.{SourcesRise}
use Rattle.ap_db.specs.States.{Names, SourceIs}
use Rattle.ap_db.specs.Lookup.{source_left, left_after, left_after_all, source_after_item}
use Rattle.ap_db.proofs.Puts.{sources_rise, take_source_is, both_there}
use Rattle.ap_db.proofs.state.State.source_there.Goals as goal

pub has_source-requires : goal.has_source-requires
has_source-requires c =
    subst SourcesRise (sym c.deref.ensures.value)
    (sources_rise (Names c.args.self.now.things.items c.args.contents.now) c.args.self.now.tables.sources.items c.requires.0.tables.sources c.requires.1.tables.sources c.requires.1.sound.rise.sources)

pub returns : goal.returns
returns c stored plain stands are =
    let N = Names c.args.self.now.things.items c.args.contents.now in
    let first : c.has_source.result ≡ is_some (source_row_at stored.tables c.args.path.now) =
    c.has_source.ensures ∙ ap (λ rows. is_some (find (λ row. bytes_eq row.path c.args.path.now) rows)) c.deref.ensures.value
    ∙ both_there (SourceIs N) (find (λ row. bytes_eq row.path c.args.path.now) c.args.self.now.tables.sources.items) (source_row_at stored.tables c.args.path.now)
    (take_source_is N c.args.path.now c.args.self.now.tables.sources.items stored.tables.sources stands.tables.sources).1 in
    c.source_after.ensures ∙ ap (left_after source_left c.args.before.now c.args.path.now) first
    ∙ sym (left_after_all (Stands c.args.contents.now) source_left (λ t k. is_some (source_row_at t k)) (source_after_item (Stands c.args.contents.now)) c.args.before.now plain stored.tables c.args.path.now are)
