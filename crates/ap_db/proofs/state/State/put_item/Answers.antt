use Rattle.std.proofs.Common.{subst}
use Rattle.ap_rows.specs.declared.change.Item.{Item}
use Rattle.ap_db.specs.Commit.{PlainItem}
use Rattle.ap_db.specs.Lawful.{after_plain}
use Rattle.ap_db.specs.Said.{ItemIs}
use Rattle.ap_db.specs.States.{Names, StandsFor}
use Rattle.ap_db.specs.Stored.{with_tables}
use Rattle.ap_db.proofs.PutItems.{says_source, says_create, says_job}
use Rattle.ap_db.proofs.state.State.put_item.Goals as goal

pub returns-in-PutSource-clause-stands : goal.returns-in-PutSource-clause-stands
returns-in-PutSource-clause-stands c = λ contents stored plain stands is.
    let N = Names c.args.self.now.things.items contents in
    let says = says_source N c.in-PutSource.row plain (subst (λ (i : Item). ItemIs N i plain) c.in-PutSource.is is) in
    subst (λ (p : PlainItem). StandsFor c.put_source_reserved.new.self contents (with_tables stored (after_plain stored.tables p))) says.1
    (c.put_source_reserved.ensures.stands contents stored says.0 stands says.2)

pub returns-in-PutCreate-clause-stands : goal.returns-in-PutCreate-clause-stands
returns-in-PutCreate-clause-stands c = λ contents stored plain stands is.
    let N = Names c.args.self.now.things.items contents in
    let says = says_create N c.in-PutCreate.row plain (subst (λ (i : Item). ItemIs N i plain) c.in-PutCreate.is is) in
    subst (λ (p : PlainItem). StandsFor c.put_create_reserved.new.self contents (with_tables stored (after_plain stored.tables p))) says.1
    (c.put_create_reserved.ensures.stands contents stored says.0 stands says.2)

pub returns-in-PutJob-clause-stands : goal.returns-in-PutJob-clause-stands
returns-in-PutJob-clause-stands c = λ contents stored plain stands is.
    let N = Names c.args.self.now.things.items contents in
    let says = says_job N c.in-PutJob.row plain (subst (λ (i : Item). ItemIs N i plain) c.in-PutJob.is is) in
    subst (λ (p : PlainItem). StandsFor c.put_job_reserved.new.self contents (with_tables stored (after_plain stored.tables p))) says.1
    (c.put_job_reserved.ensures.stands contents stored says.0 stands says.2)
