use Rattle.std.proofs.Common.{refl}
use Rattle.ap_db.proofs.Puts.{stands_for_nothing}
use Rattle.ap_db.proofs.state.State.new.Goals as goal

pub returns : goal.returns
returns c = λ contents tidy. stands_for_nothing _ contents tidy c.new.ensures.items c.new-2.ensures.items c.new-3.ensures.items c.new-4.ensures.items c.new-5.ensures.items refl refl
