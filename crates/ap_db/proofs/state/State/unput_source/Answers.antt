use Rattle.std.proofs.Common.{◌∙◌, Option, sym, ap, subst}
use Rattle.ap_rows.specs.declared.row.SourceRow.{SourceRow}
use Rattle.ap_db.specs.Tables.{PlainSource, PlainTables}
use Rattle.ap_db.specs.Changes.{with_source, without_source, source_cmp}
use Rattle.ap_db.specs.Stored.{with_tables}
use Rattle.ap_db.specs.States.{Names, SourceIs, StandsFor}
use Rattle.ap_db.specs.Listed.{AreBoth, replaced}
use Rattle.ap_db.specs.Undoing.{source_unput, put_source_undone}
use Rattle.ap_db.proofs.Placing.{keeps}
use Rattle.ap_db.proofs.Taking.{both_some, both_none}
use Rattle.ap_db.proofs.state.State.unput_source.Goals as goal

pub put_source_reserved-requires-clause-stands : goal.put_source_reserved-requires-clause-stands
put_source_reserved-requires-clause-stands c =
    let stored = c.requires.put.1 in
    let plain = c.requires.put.2 in
    let has = c.requires.put.3 in
    let old = both_some (SourceIs (Names c.args.self.now.things.items c.requires.put.0)) c.in-Some.row (replaced source_cmp plain stored.tables.sources) (subst (λ (o : Option SourceRow). AreBoth (SourceIs (Names c.args.self.now.things.items c.requires.put.0)) o (replaced source_cmp plain stored.tables.sources)) c.in-Some.is has.gave) in
    (c.requires.put.0, with_tables stored (with_source stored.tables plain), old.0, has.stands, old.2)

pub returns-in-Some-clause-undone : goal.returns-in-Some-clause-undone
returns-in-Some-clause-undone c = λ contents stored plain has.
    let old = both_some (SourceIs (Names c.args.self.now.things.items contents)) c.in-Some.row (replaced source_cmp plain stored.tables.sources) (subst (λ (o : Option SourceRow). AreBoth (SourceIs (Names c.args.self.now.things.items contents)) o (replaced source_cmp plain stored.tables.sources)) c.in-Some.is has.gave) in
    let put = with_source stored.tables plain in
    subst (λ (tables : PlainTables). StandsFor c.put_source_reserved.new.self contents (with_tables stored tables))
    (ap (λ (o : Option PlainSource). source_unput plain o put) (sym old.1) ∙ put_source_undone stored.tables has.rise plain)
    (c.put_source_reserved.ensures.stands contents (with_tables stored put) old.0 has.stands old.2)

pub returns-in-None-clause-undone : goal.returns-in-None-clause-undone
returns-in-None-clause-undone c = λ contents stored plain has.
    let put = with_source stored.tables plain in
    subst (λ (tables : PlainTables). StandsFor c.remove_source.new.self contents (with_tables stored tables))
    (ap (λ key. without_source put key) has.same ∙ ap (λ (o : Option PlainSource). source_unput plain o put) (sym (both_none (SourceIs (Names c.args.self.now.things.items contents)) (replaced source_cmp plain stored.tables.sources) (subst (λ (o : Option SourceRow). AreBoth (SourceIs (Names c.args.self.now.things.items contents)) o (replaced source_cmp plain stored.tables.sources)) c.in-None.is has.gave))) ∙ put_source_undone stored.tables has.rise plain)
    (c.remove_source.ensures.stands contents (with_tables stored put) has.stands)

pub returns-in-Some-clause-keeps : goal.returns-in-Some-clause-keeps
returns-in-Some-clause-keeps c = keeps 1 0 0 1 c.args.self.now c.put_source_reserved.new.self c.put_source_reserved.ensures.takes

pub returns-in-None-clause-keeps : goal.returns-in-None-clause-keeps
returns-in-None-clause-keeps c = keeps 0 0 0 0 c.args.self.now c.remove_source.new.self c.remove_source.ensures.takes
