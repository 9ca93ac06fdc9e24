use Rattle.std.proofs.Common.{◌∙◌, ◌+◌, sym, subst, ap, Option, None}
use Rattle.std.specs.Prelude.{bytes_eq, find, is_some, vec_len}
use Rattle.ap_rows.specs.declared.row.Tables.{Tables}
use Rattle.ap_rows.specs.declared.row.SourceRow.{SourceRow}
use Rattle.ap_db.specs.Changes.{source_row_at}
use Rattle.ap_db.specs.Listed.{AreBoth}
use Rattle.ap_db.specs.States.{Names, SourceIs}
use Rattle.ap_db.specs.Naming.{both_of, named_by, source_numbers}
use Rattle.ap_db.proofs.Puts.{sources_rise, source_is_taken, take_source_is, both_there, one_step}
use Rattle.ap_db.proofs.Rooms.{fills_fewer, fills_none, names_fewer}
use Rattle.ap_db.proofs.state.State.remove_source.Goals as goal

pub take_source_row-old-requires : goal.take_source_row-old-requires
take_source_row-old-requires c = sources_rise (Names c.args.self.now.things.items c.requires.0) c.args.self.now.tables.sources.items c.requires.1.tables.sources c.requires.2.tables.sources c.requires.2.sound.rise.sources

pub returns-clause-lawful : goal.returns-clause-lawful
returns-clause-lawful c = λ contents stored stands.
    ap is_some c.take_source_row-old.ensures.taken
    ∙ both_there (SourceIs (Names c.args.self.now.things.items contents)) (find (λ row. bytes_eq row.path c.args.path.now) c.args.self.now.tables.sources.items) (source_row_at stored.tables c.args.path.now)
    (take_source_is (Names c.args.self.now.things.items contents) c.args.path.now c.args.self.now.tables.sources.items stored.tables.sources stands.tables.sources).1

pub returns-clause-stands : goal.returns-clause-stands
returns-clause-stands c = λ contents stored stands.
    let same = c.unname.ensures.kept.0 in
    source_is_taken c.args.self.now c.unname.new.self contents stored stands c.args.path.now
    (record { folders = ap (λ (t : Tables). t.folders) (same); sources = ap (λ (t : Tables). t.sources.items) (same) ∙ c.take_source_row-old.ensures.rows; creates = ap (λ (t : Tables). t.creates) (same); jobs = ap (λ (t : Tables). t.jobs) (same) })
    (one_step c.args.self.now c.unname.new.self (both_of c.content_of_old.result None) (named_by source_numbers (find (λ row. bytes_eq row.path c.args.path.now) c.args.self.now.tables.sources.items))
    c.unname.ensures.kept.1 c.unname.ensures.names c.unname.ensures.counts (c.content_of_old.ensures ∙ ap (λ (o : Option SourceRow). named_by source_numbers o) c.take_source_row-old.ensures.taken))

pub returns-clause-gives : goal.returns-clause-gives
returns-clause-gives c = λ contents stored stands.
    subst (λ o. AreBoth (SourceIs (Names c.args.self.now.things.items contents)) o (source_row_at stored.tables c.args.path.now)) (sym c.take_source_row-old.ensures.taken)
    (take_source_is (Names c.args.self.now.things.items contents) c.args.path.now c.args.self.now.tables.sources.items stored.tables.sources stands.tables.sources).1

pub returns-clause-takes : goal.returns-clause-takes
returns-clause-takes c =
    let same = c.unname.ensures.kept.0 in
    record {
      sources = fills_fewer c.args.self.now.tables.sources _ c.unname.new.self.tables.sources (ap (λ (t : Tables). t.sources) same) c.take_source_row-old.ensures.kept c.take_source_row-old.ensures.shorter;
      creates = fills_none c.args.self.now.tables.creates c.unname.new.self.tables.creates (ap (λ (t : Tables). t.creates) same);
      jobs = fills_none c.args.self.now.tables.jobs c.unname.new.self.tables.jobs (ap (λ (t : Tables). t.jobs) same);
      names = names_fewer c.args.self.now.names c.unname.new.self.names _ c.unname.ensures.names;
    }

pub returns-clause-frees : goal.returns-clause-frees
returns-clause-frees c = λ there. ap (λ (t : Tables). vec_len t.sources + 1) c.unname.ensures.kept.0 ∙ c.take_source_row-old.ensures.frees there
