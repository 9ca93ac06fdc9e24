use Rattle.std.proofs.Common.{refl}
use Rattle.ap_db.proofs.Puts.{folders_are_put, no_step}
use Rattle.ap_db.proofs.state.State.put_folders.Goals as goal

pub returns-clause-stands : goal.returns-clause-stands
returns-clause-stands c = λ contents stored stands. folders_are_put c.args.self.now _ contents stored stands c.args.rows c.into_vec.ensures refl refl refl (no_step c.args.self.now _ refl refl (λ k. refl))
