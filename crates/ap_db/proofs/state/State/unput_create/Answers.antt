use Rattle.std.proofs.Common.{◌∙◌, Option, sym, ap, subst}
use Rattle.ap_rows.specs.declared.row.CreateRow.{CreateRow}
use Rattle.ap_db.specs.Tables.{PlainCreate, PlainTables}
use Rattle.ap_db.specs.Changes.{with_create, without_create, create_cmp}
use Rattle.ap_db.specs.Stored.{with_tables}
use Rattle.ap_db.specs.States.{Names, CreateIs, StandsFor}
use Rattle.ap_db.specs.Listed.{AreBoth, replaced}
use Rattle.ap_db.specs.Undoing.{create_unput, put_create_undone}
use Rattle.ap_db.proofs.Placing.{keeps}
use Rattle.ap_db.proofs.Taking.{both_some, both_none}
use Rattle.ap_db.proofs.state.State.unput_create.Goals as goal

pub put_create_reserved-requires-clause-stands : goal.put_create_reserved-requires-clause-stands
put_create_reserved-requires-clause-stands c =
    let stored = c.requires.put.1 in
    let plain = c.requires.put.2 in
    let has = c.requires.put.3 in
    let old = both_some (CreateIs (Names c.args.self.now.things.items c.requires.put.0)) c.in-Some.row (replaced create_cmp plain stored.tables.creates) (subst (λ (o : Option CreateRow). AreBoth (CreateIs (Names c.args.self.now.things.items c.requires.put.0)) o (replaced create_cmp plain stored.tables.creates)) c.in-Some.is has.gave) in
    (c.requires.put.0, with_tables stored (with_create stored.tables plain), old.0, has.stands, old.2)

pub returns-in-Some-clause-undone : goal.returns-in-Some-clause-undone
returns-in-Some-clause-undone c = λ contents stored plain has.
    let old = both_some (CreateIs (Names c.args.self.now.things.items contents)) c.in-Some.row (replaced create_cmp plain stored.tables.creates) (subst (λ (o : Option CreateRow). AreBoth (CreateIs (Names c.args.self.now.things.items contents)) o (replaced create_cmp plain stored.tables.creates)) c.in-Some.is has.gave) in
    let put = with_create stored.tables plain in
    subst (λ (tables : PlainTables). StandsFor c.put_create_reserved.new.self contents (with_tables stored tables))
    (ap (λ (o : Option PlainCreate). create_unput plain o put) (sym old.1) ∙ put_create_undone stored.tables has.rise plain)
    (c.put_create_reserved.ensures.stands contents (with_tables stored put) old.0 has.stands old.2)

pub returns-in-None-clause-undone : goal.returns-in-None-clause-undone
returns-in-None-clause-undone c = λ contents stored plain has.
    let put = with_create stored.tables plain in
    subst (λ (tables : PlainTables). StandsFor c.remove_create.new.self contents (with_tables stored tables))
    (ap (λ key. without_create put key) has.same ∙ ap (λ (o : Option PlainCreate). create_unput plain o put) (sym (both_none (CreateIs (Names c.args.self.now.things.items contents)) (replaced create_cmp plain stored.tables.creates) (subst (λ (o : Option CreateRow). AreBoth (CreateIs (Names c.args.self.now.things.items contents)) o (replaced create_cmp plain stored.tables.creates)) c.in-None.is has.gave))) ∙ put_create_undone stored.tables has.rise plain)
    (c.remove_create.ensures.stands contents (with_tables stored put) has.stands)

pub returns-in-Some-clause-keeps : goal.returns-in-Some-clause-keeps
returns-in-Some-clause-keeps c = keeps 0 1 0 1 c.args.self.now c.put_create_reserved.new.self c.put_create_reserved.ensures.takes

pub returns-in-None-clause-keeps : goal.returns-in-None-clause-keeps
returns-in-None-clause-keeps c = keeps 0 0 0 0 c.args.self.now c.remove_create.new.self c.remove_create.ensures.takes
