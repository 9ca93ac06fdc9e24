use Rattle.std.proofs.Common.{◌-◌, length, get_or, take, drop, sym, subst}
use Rattle.ap_db.proofs.GoodBelow.{first_again, none_left}
use Rattle.ap_db.proofs.WritingDefines.{AreWritten, one_written, all_written}
use Rattle.ap_db.proofs.state.State.write_defines.Goals as goal

pub loop-rest-preserved : goal.loop-rest-preserved
loop-rest-preserved c = λ numbers stored xs stands are each.
    let rest = c.loop-rest.rest.now in
    let first = get_or rest 0 (record { 0 = 0 }) in
    let after = take (length rest - 1) (drop 1 rest) in
    let so_far = subst (AreWritten c.args.contents.now numbers xs c.args.written.now.items c.loop-rest.written.items) (sym (first_again (record { 0 = 0 }) rest c.in-len1-up.len_at_least)) (c.loop-rest.invariant numbers stored xs stands are each) in
    subst (λ l. AreWritten c.args.contents.now numbers xs c.args.written.now.items l after) (sym c.in_ok-push.ensures.items)
    (one_written c.args.contents.now numbers xs c.args.written.now.items c.loop-rest.written.items first after c.in_ok-define_of.field-0 so_far (λ x s. c.in_ok-define_of.ensures numbers stored x stands are s))

pub returns : goal.returns
returns c = λ numbers stored xs stands are each.
    all_written c.args.contents.now numbers xs c.args.written.now.items c.loop-rest.written.items
    (subst (AreWritten c.args.contents.now numbers xs c.args.written.now.items c.loop-rest.written.items) (none_left c.loop-rest.rest.now c.in_default.len_below) (c.loop-rest.invariant numbers stored xs stands are each))
