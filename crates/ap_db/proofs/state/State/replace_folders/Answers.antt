use Rattle.std.proofs.Common.{◌∙◌, refl, ap}
use Rattle.ap_db.proofs.Puts.{folders_are_put, no_step}
use Rattle.ap_db.proofs.state.State.replace_folders.Goals as goal

pub returns-clause-stands : goal.returns-clause-stands
returns-clause-stands c = λ contents stored stands.
    let was = c.args.self.now in
    let new = record was { tables = record was.tables { folders = c.replace.new.dest } } in
    folders_are_put was new contents stored stands c.args.rows (ap (λ v. v.items) c.replace.ensures.after ∙ c.into_vec.ensures) refl refl refl (no_step was new refl refl (λ k. refl))
