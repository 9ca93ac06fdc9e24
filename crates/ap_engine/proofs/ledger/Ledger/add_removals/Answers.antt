use Rattle.std.proofs.Common.{sym, ◌∙◌, ap, subst}
use Rattle.ap_rows.specs.declared.row.Tables.{Tables}
use Rattle.ap_db.specs.Rows.{JobsRise}
use Rattle.ap_db.specs.States.{Names}
use Rattle.ap_db.proofs.Puts.{jobs_rise}
use Rattle.ap_engine.proofs.ledger.Ledger.add_removals.Goals as goal

pub jobs_of-rest-requires : goal.jobs_of-rest-requires
jobs_of-rest-requires c =
    let state = c.args.self.now.db.state in
    subst JobsRise (sym (c.deref.ensures.value ∙ ap (λ (t : Tables). t.jobs.items) c.tables.ensures))
    (jobs_rise (Names state.things.items c.requires.0) state.tables.jobs.items c.requires.1.tables.jobs c.requires.2.tables.jobs c.requires.2.sound.rise.jobs)
