use Rattle.std.proofs.Common.{List, sym, ◌∙◌, ap, subst}
use Rattle.std.specs.Prelude.{find}
use Rattle.ap_text.specs.JobOrder.{same_job}
use Rattle.ap_rows.specs.declared.row.JobRow.{JobRow}
use Rattle.ap_db.specs.Rows.{JobsRise}
use Rattle.ap_db.specs.States.{Names}
use Rattle.ap_db.proofs.Puts.{jobs_rise}
use Rattle.ap_db.proofs.db.Db.row.Goals as goal

pub row_of-requires : goal.row_of-requires
row_of-requires c =
    let state = c.args.self.now.state in
    subst JobsRise (sym c.deref.ensures.value) (jobs_rise (Names state.things.items c.requires.0) state.tables.jobs.items c.requires.1.tables.jobs c.requires.2.tables.jobs c.requires.2.sound.rise.jobs)

pub returns : goal.returns
returns c = c.row_of.ensures ∙ ap (λ (l : List JobRow). find (λ row. same_job row.id c.args.job.now) l) c.deref.ensures.value
