use Rattle.std.proofs.Common.{◌∙◌, sym, subst, length, refl, ap, arith, Option, None, Some}
use Rattle.std.specs.Prelude.{vec_len}
use Rattle.ap_rows.specs.declared.row.Tables.{Tables}
use Rattle.ap_rows.specs.declared.row.CreateRow.{CreateRow}
use Rattle.ap_db.specs.Listed.{AreBoth, replaced}
use Rattle.ap_db.specs.Changes.{create_cmp}
use Rattle.ap_db.specs.Rows.{by_source}
use Rattle.ap_db.specs.States.{Names, CreateIs}
use Rattle.ap_db.specs.Naming.{both_of, named_by, create_numbers}
use Rattle.ap_db.proofs.Renaming.{have_room}
use Rattle.ap_db.proofs.Puts.{creates_rise, create_is_put, replaced_create_is, two_steps}
use Rattle.ap_db.proofs.Rooms.{fills, fills_none, names_few, one_number}
use Rattle.ap_db.proofs.state.State.put_create.Goals as goal

pub put_create_row-requires : goal.put_create_row-requires
put_create_row-requires c = creates_rise (Names c.args.self.now.things.items c.requires.0) c.args.self.now.tables.creates.items c.requires.1.tables.creates c.requires.3.tables.creates c.requires.3.sound.rise.creates

pub name-requires-clause-each : goal.name-requires-clause-each
name-requires-clause-each c = have_room c.args.self.now c.requires.0 c.requires.1 2 c.requires.3 (omega (arith, c.if-self.false))

pub returns-clause-stands : goal.returns-clause-stands
returns-clause-stands c = λ contents stored plain stands is.
    let same = c.unname.ensures.kept.0 ∙ c.name.ensures.kept.0 in
    create_is_put c.args.self.now c.unname.new.self contents stored stands c.args.row plain is
    (record { folders = ap (λ (t : Tables). t.folders) (same); sources = ap (λ (t : Tables). t.sources) (same); creates = ap (λ (t : Tables). t.creates.items) (same) ∙ c.in_ok-old.ensures.put.0; jobs = ap (λ (t : Tables). t.jobs) (same) })
    (two_steps c.args.self.now c.name.new.self c.unname.new.self (both_of (Some c.args.row.input) None) (create_numbers c.args.row) (both_of c.input_of_old.result None) (named_by create_numbers (replaced by_source c.args.row c.args.self.now.tables.creates.items))
    c.name.ensures.kept.1 c.unname.ensures.kept.1 c.name.ensures.names c.unname.ensures.names c.name.ensures.counts c.unname.ensures.counts
    (refl) (c.input_of_old.ensures ∙ ap (λ (o : Option CreateRow). named_by create_numbers o) c.in_ok-old.ensures.put.1))

pub returns-clause-gives : goal.returns-clause-gives
returns-clause-gives c = λ contents stored plain stands is.
    subst (λ o. AreBoth (CreateIs (Names c.args.self.now.things.items contents)) o (replaced create_cmp plain stored.tables.creates)) (sym c.in_ok-old.ensures.put.1)
    (replaced_create_is (Names c.args.self.now.things.items contents) c.args.row plain is c.args.self.now.tables.creates.items stored.tables.creates stands.tables.creates)

pub returns-clause-takes : goal.returns-clause-takes
returns-clause-takes c =
    let same = c.unname.ensures.kept.0 ∙ c.name.ensures.kept.0 in
    record {
      sources = fills_none c.args.self.now.tables.sources c.unname.new.self.tables.sources (ap (λ (t : Tables). t.sources) same);
      creates = fills 1 c.args.self.now.tables.creates _ c.unname.new.self.tables.creates (ap (λ (t : Tables). t.creates) same) c.in_ok-old.ensures.grows c.in_ok-old.ensures.longer;
      jobs = fills_none c.args.self.now.tables.jobs c.unname.new.self.tables.jobs (ap (λ (t : Tables). t.jobs) same);
      names = names_few c.args.self.now.names c.name.new.self.names c.unname.new.self.names (length (both_of (Some c.args.row.input) None)) _ 1 c.name.ensures.names c.unname.ensures.names (one_number (Some c.args.row.input));
    }

pub returns-clause-replaces : goal.returns-clause-replaces
returns-clause-replaces c = λ there. ap (λ (t : Tables). vec_len t.creates) (c.unname.ensures.kept.0 ∙ c.name.ensures.kept.0) ∙ c.in_ok-old.ensures.replaces there
