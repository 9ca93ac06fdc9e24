use Rattle.std.proofs.Common.{◌∙◌, ◌-◌, length, get_or, take, drop, sym, subst, ap}
use Rattle.ap_db.specs.States.{file_thing}
use Rattle.ap_db.proofs.GoodBelow.{first_again}
use Rattle.ap_db.proofs.WritingDefines.{NumbersFound, one_found}
use Rattle.ap_db.proofs.state.State.file_numbers.Goals as goal

pub loop-rest-preserved : goal.loop-rest-preserved
loop-rest-preserved c =
    let rest = c.loop-rest.rest.now in
    let first = get_or rest 0 (record { 0 = 0 }) in
    let after = take (length rest - 1) (drop 1 rest) in
    let things = c.args.self.now.things.items in
    let so_far = subst (λ l. NumbersFound things c.args.kids.now l c.loop-rest.found.items) (sym (first_again (record { 0 = 0 }) rest c.in-len1-up.len_at_least)) c.loop-rest.invariant in
    let at = ap (λ l. file_thing l first) (sym c.deref.ensures.value) ∙ sym c.thing_of.ensures ∙ c.in-Some.is in
    subst (NumbersFound things c.args.kids.now after) (sym c.in_ok-push.ensures.items) (one_found things c.args.kids.now first after c.loop-rest.found.items c.in-Some.thing so_far at)
