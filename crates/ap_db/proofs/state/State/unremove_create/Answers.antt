use Rattle.std.proofs.Common.{◌∙◌, Option, sym, ap, subst}
use Rattle.ap_rows.specs.declared.row.CreateRow.{CreateRow}
use Rattle.ap_db.specs.Tables.{PlainCreate, PlainTables}
use Rattle.ap_db.specs.Changes.{without_create, create_row_at}
use Rattle.ap_db.specs.Listed.{AreBoth}
use Rattle.ap_db.specs.Stored.{with_tables}
use Rattle.ap_db.specs.States.{Names, CreateIs, StandsFor}
use Rattle.ap_db.specs.Undoing.{create_returned, remove_create_undone}
use Rattle.ap_db.proofs.Placing.{keeps, keeps_all}
use Rattle.ap_db.proofs.Taking.{both_some, both_none}
use Rattle.ap_db.proofs.state.State.unremove_create.Goals as goal

pub put_create_reserved-requires-clause-stands : goal.put_create_reserved-requires-clause-stands
put_create_reserved-requires-clause-stands c =
    let contents = c.requires.removed.0 in
    let stored = c.requires.removed.1 in
    let key = c.requires.removed.2 in
    let has = c.requires.removed.3 in
    let N = Names c.args.self.now.things.items contents in
    let old = both_some (CreateIs N) c.in-Some.row (create_row_at stored.tables key) (subst (λ (o : Option CreateRow). AreBoth (CreateIs N) o (create_row_at stored.tables key)) c.in-Some.is has.gave) in
    (contents, with_tables stored (without_create stored.tables key), old.0, has.stands, old.2)

pub returns-in-Some-clause-undone : goal.returns-in-Some-clause-undone
returns-in-Some-clause-undone c = λ contents stored key has.
    let N = Names c.args.self.now.things.items contents in
    let old = both_some (CreateIs N) c.in-Some.row (create_row_at stored.tables key) (subst (λ (o : Option CreateRow). AreBoth (CreateIs N) o (create_row_at stored.tables key)) c.in-Some.is has.gave) in
    let left = without_create stored.tables key in
    subst (λ (tables : PlainTables). StandsFor c.put_create_reserved.new.self contents (with_tables stored tables))
    (ap (λ (o : Option PlainCreate). create_returned o left) (sym old.1) ∙ remove_create_undone stored.tables has.rise key)
    (c.put_create_reserved.ensures.stands contents (with_tables stored left) old.0 has.stands old.2)

pub returns-in-Some-clause-keeps : goal.returns-in-Some-clause-keeps
returns-in-Some-clause-keeps c = keeps 0 1 0 1 c.args.self.now c.put_create_reserved.new.self c.put_create_reserved.ensures.takes

pub returns-in-None-clause-undone : goal.returns-in-None-clause-undone
returns-in-None-clause-undone c = λ contents stored key has.
    let N = Names c.args.self.now.things.items contents in
    let none = both_none (CreateIs N) (create_row_at stored.tables key) (subst (λ (o : Option CreateRow). AreBoth (CreateIs N) o (create_row_at stored.tables key)) c.in-None.is has.gave) in
    let left = without_create stored.tables key in
    subst (λ (tables : PlainTables). StandsFor c.args.self.now contents (with_tables stored tables))
    (ap (λ (o : Option PlainCreate). create_returned o left) (sym none) ∙ remove_create_undone stored.tables has.rise key)
    has.stands

pub returns-in-None-clause-keeps : goal.returns-in-None-clause-keeps
returns-in-None-clause-keeps c = keeps_all c.args.self.now
