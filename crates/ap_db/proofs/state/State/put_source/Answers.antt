use Rattle.std.proofs.Common.{◌∙◌, sym, subst, length, ap, arith, Option, None}
use Rattle.ap_content.specs.declared.node.Number.{Number}
use Rattle.std.specs.Prelude.{vec_len}
use Rattle.ap_rows.specs.declared.row.Tables.{Tables}
use Rattle.ap_rows.specs.declared.row.SourceRow.{SourceRow}
use Rattle.ap_db.specs.Listed.{AreBoth, replaced}
use Rattle.ap_db.specs.Changes.{source_cmp}
use Rattle.ap_db.specs.Rows.{by_path}
use Rattle.ap_db.specs.States.{Names, SourceIs}
use Rattle.ap_db.specs.Naming.{both_of, named_by, source_numbers}
use Rattle.ap_db.proofs.Renaming.{have_room}
use Rattle.ap_db.proofs.Puts.{sources_rise, source_is_put, replaced_source_is, two_steps}
use Rattle.ap_db.proofs.Rooms.{fills, fills_none, names_few, one_number}
use Rattle.ap_db.proofs.state.State.put_source.Goals as goal

pub put_source_row-requires : goal.put_source_row-requires
put_source_row-requires c = sources_rise (Names c.args.self.now.things.items c.requires.0) c.args.self.now.tables.sources.items c.requires.1.tables.sources c.requires.3.tables.sources c.requires.3.sound.rise.sources

pub name-requires-clause-each : goal.name-requires-clause-each
name-requires-clause-each c = have_room c.args.self.now c.requires.0 c.requires.1 2 c.requires.3 (omega (arith, c.if-self.false))

pub returns-clause-stands : goal.returns-clause-stands
returns-clause-stands c = λ contents stored plain stands is.
    let same = c.unname.ensures.kept.0 ∙ c.name.ensures.kept.0 in
    source_is_put c.args.self.now c.unname.new.self contents stored stands c.args.row plain is
    (record { folders = ap (λ (t : Tables). t.folders) (same); sources = ap (λ (t : Tables). t.sources.items) (same) ∙ c.in_ok-old.ensures.put.0; creates = ap (λ (t : Tables). t.creates) (same); jobs = ap (λ (t : Tables). t.jobs) (same) })
    (two_steps c.args.self.now c.name.new.self c.unname.new.self (both_of c.content_of-named.result None) (source_numbers c.args.row) (both_of c.content_of_old.result None) (named_by source_numbers (replaced by_path c.args.row c.args.self.now.tables.sources.items))
    c.name.ensures.kept.1 c.unname.ensures.kept.1 c.name.ensures.names c.unname.ensures.names c.name.ensures.counts c.unname.ensures.counts
    (ap (λ (o : Option Number). both_of o None) c.content_of-named.ensures) (c.content_of_old.ensures ∙ ap (λ (o : Option SourceRow). named_by source_numbers o) c.in_ok-old.ensures.put.1))

pub returns-clause-gives : goal.returns-clause-gives
returns-clause-gives c = λ contents stored plain stands is.
    subst (λ o. AreBoth (SourceIs (Names c.args.self.now.things.items contents)) o (replaced source_cmp plain stored.tables.sources)) (sym c.in_ok-old.ensures.put.1)
    (replaced_source_is (Names c.args.self.now.things.items contents) c.args.row plain is c.args.self.now.tables.sources.items stored.tables.sources stands.tables.sources)

pub returns-clause-takes : goal.returns-clause-takes
returns-clause-takes c =
    let same = c.unname.ensures.kept.0 ∙ c.name.ensures.kept.0 in
    record {
      sources = fills 1 c.args.self.now.tables.sources _ c.unname.new.self.tables.sources (ap (λ (t : Tables). t.sources) same) c.in_ok-old.ensures.grows c.in_ok-old.ensures.longer;
      creates = fills_none c.args.self.now.tables.creates c.unname.new.self.tables.creates (ap (λ (t : Tables). t.creates) same);
      jobs = fills_none c.args.self.now.tables.jobs c.unname.new.self.tables.jobs (ap (λ (t : Tables). t.jobs) same);
      names = names_few c.args.self.now.names c.name.new.self.names c.unname.new.self.names (length (both_of c.content_of-named.result None)) _ 1 c.name.ensures.names c.unname.ensures.names (one_number c.content_of-named.result);
    }

pub returns-clause-replaces : goal.returns-clause-replaces
returns-clause-replaces c = λ there. ap (λ (t : Tables). vec_len t.sources) (c.unname.ensures.kept.0 ∙ c.name.ensures.kept.0) ∙ c.in_ok-old.ensures.replaces there
