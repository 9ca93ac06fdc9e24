use Rattle.std.proofs.Common.{◌∙◌, ◌+◌, sym, subst, ap, Option, None}
use Rattle.std.specs.Prelude.{bytes_eq, find, is_some, vec_len}
use Rattle.ap_rows.specs.declared.row.Tables.{Tables}
use Rattle.ap_rows.specs.declared.row.CreateRow.{CreateRow}
use Rattle.ap_db.specs.Changes.{create_row_at}
use Rattle.ap_db.specs.Listed.{AreBoth}
use Rattle.ap_db.specs.States.{Names, CreateIs}
use Rattle.ap_db.specs.Naming.{both_of, named_by, create_numbers}
use Rattle.ap_db.proofs.Puts.{creates_rise, create_is_taken, take_create_is, both_there, one_step}
use Rattle.ap_db.proofs.Rooms.{fills_fewer, fills_none, names_fewer}
use Rattle.ap_db.proofs.state.State.remove_create.Goals as goal

pub take_create_row-old-requires : goal.take_create_row-old-requires
take_create_row-old-requires c = creates_rise (Names c.args.self.now.things.items c.requires.0) c.args.self.now.tables.creates.items c.requires.1.tables.creates c.requires.2.tables.creates c.requires.2.sound.rise.creates

pub returns-clause-lawful : goal.returns-clause-lawful
returns-clause-lawful c = λ contents stored stands.
    ap is_some c.take_create_row-old.ensures.taken
    ∙ both_there (CreateIs (Names c.args.self.now.things.items contents)) (find (λ row. bytes_eq row.source c.args.source.now) c.args.self.now.tables.creates.items) (create_row_at stored.tables c.args.source.now)
    (take_create_is (Names c.args.self.now.things.items contents) c.args.source.now c.args.self.now.tables.creates.items stored.tables.creates stands.tables.creates).1

pub returns-clause-stands : goal.returns-clause-stands
returns-clause-stands c = λ contents stored stands.
    let same = c.unname.ensures.kept.0 in
    create_is_taken c.args.self.now c.unname.new.self contents stored stands c.args.source.now
    (record { folders = ap (λ (t : Tables). t.folders) (same); sources = ap (λ (t : Tables). t.sources) (same); creates = ap (λ (t : Tables). t.creates.items) (same) ∙ c.take_create_row-old.ensures.rows; jobs = ap (λ (t : Tables). t.jobs) (same) })
    (one_step c.args.self.now c.unname.new.self (both_of c.input_of_old.result None) (named_by create_numbers (find (λ row. bytes_eq row.source c.args.source.now) c.args.self.now.tables.creates.items))
    c.unname.ensures.kept.1 c.unname.ensures.names c.unname.ensures.counts (c.input_of_old.ensures ∙ ap (λ (o : Option CreateRow). named_by create_numbers o) c.take_create_row-old.ensures.taken))

pub returns-clause-gives : goal.returns-clause-gives
returns-clause-gives c = λ contents stored stands.
    subst (λ o. AreBoth (CreateIs (Names c.args.self.now.things.items contents)) o (create_row_at stored.tables c.args.source.now)) (sym c.take_create_row-old.ensures.taken)
    (take_create_is (Names c.args.self.now.things.items contents) c.args.source.now c.args.self.now.tables.creates.items stored.tables.creates stands.tables.creates).1

pub returns-clause-takes : goal.returns-clause-takes
returns-clause-takes c =
    let same = c.unname.ensures.kept.0 in
    record {
      sources = fills_none c.args.self.now.tables.sources c.unname.new.self.tables.sources (ap (λ (t : Tables). t.sources) same);
      creates = fills_fewer c.args.self.now.tables.creates _ c.unname.new.self.tables.creates (ap (λ (t : Tables). t.creates) same) c.take_create_row-old.ensures.kept c.take_create_row-old.ensures.shorter;
      jobs = fills_none c.args.self.now.tables.jobs c.unname.new.self.tables.jobs (ap (λ (t : Tables). t.jobs) same);
      names = names_fewer c.args.self.now.names c.unname.new.self.names _ c.unname.ensures.names;
    }

pub returns-clause-frees : goal.returns-clause-frees
returns-clause-frees c = λ there. ap (λ (t : Tables). vec_len t.creates + 1) c.unname.ensures.kept.0 ∙ c.take_create_row-old.ensures.frees there
