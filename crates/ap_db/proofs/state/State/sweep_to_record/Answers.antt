use Rattle.std.proofs.Common.{◌∙◌, ◌++◌, List, map, sym, ap, subst, IsPermutation}
use Rattle.ap_db.specs.declared.drops.Dropped.{Dropped}
use Rattle.ap_db.specs.States.{StandsFor}
use Rattle.ap_db.specs.TakenOut.{IsSwept, number_there}
use Rattle.ap_db.proofs.Told.{on_ok}
use Rattle.ap_db.proofs.Clearing.{is_cleared, are_drops}
use Rattle.ap_db.proofs.state.State.sweep_to_record.Goals as goal

pub returns-in-Ok-numbers_of-clause-swept : goal.returns-in-Ok-numbers_of-clause-swept
returns-in-Ok-numbers_of-clause-swept c = on_ok c.push_drops.result _ _ c.push_drops.ensures (λ pushed stored swept.
    let contents = c.args.contents.now in
    let dropped = c.sweep.new.sweep.dropped.items in
    let start = subst (λ (l : List Dropped). IsSwept c.args.self.now contents stored l c.args.sweep.now.awaited.items) (sym c.requires.none) swept in
    let end = c.in-Ok.ensures.swept stored start in
    let same = subst (λ (l : List Dropped). IsPermutation (map number_there l) c.in-Ok-numbers_of.numbers.items) c.deref.ensures.value c.in-Ok-numbers_of.ensures.same in (
      end.out,
      subst (StandsFor c.sweep.new.self contents) (is_cleared contents stored dropped end.out.well end.out.spare end.waits) end.out.stands,
      pushed ∙ ap (λ l. c.args.items.now.items ++ l) (are_drops contents stored dropped end.out.well end.out.spare end.waits c.in-Ok-numbers_of.numbers.items same c.in-Ok-numbers_of.ensures.sorted),
    ))
