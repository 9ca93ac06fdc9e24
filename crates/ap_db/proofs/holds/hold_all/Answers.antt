use Rattle.std.proofs.Common.{◌-◌, length, take, drop, get_or, sym, subst}
use Rattle.ap_db.proofs.GoodBelow.{first_again, none_left}
use Rattle.ap_db.proofs.Settling.{AreGained, none_gained, first_lives, one_gained, all_gained}
use Rattle.ap_db.proofs.holds.hold_all.Goals as goal

pub loop-rest-init : goal.loop-rest-init
loop-rest-init c = none_gained c.args.contents.now c.args.ns.now c.requires.live c.requires.was_tidy

pub hold-requires : goal.hold-requires
hold-requires c =
    let rest = c.loop-rest.rest.now in
    let first = get_or rest 0 (record { 0 = 0 }) in
    let after = take (length rest - 1) (drop 1 rest) in
    let so_far = subst (AreGained c.args.contents.now c.loop-rest.contents c.args.ns.now) (sym (first_again (record { 0 = 0 }) rest c.in-len1-up.len_at_least)) c.loop-rest.invariant in
    first_lives c.args.contents.now c.loop-rest.contents c.args.ns.now after first so_far

pub loop-rest-preserved : goal.loop-rest-preserved
loop-rest-preserved c =
    let rest = c.loop-rest.rest.now in
    let first = get_or rest 0 (record { 0 = 0 }) in
    let after = take (length rest - 1) (drop 1 rest) in
    let so_far = subst (AreGained c.args.contents.now c.loop-rest.contents c.args.ns.now) (sym (first_again (record { 0 = 0 }) rest c.in-len1-up.len_at_least)) c.loop-rest.invariant in
    one_gained c.args.contents.now c.loop-rest.contents c.hold.new.self c.args.ns.now after first so_far c.hold.ensures.gains c.hold.ensures.tidy

pub returns-clause-exact : goal.returns-clause-exact
returns-clause-exact c =
    let none = none_left c.loop-rest.rest.now c.in_default.len_below in
    all_gained c.args.contents.now c.loop-rest.contents c.args.ns.now (subst (AreGained c.args.contents.now c.loop-rest.contents c.args.ns.now) none c.loop-rest.invariant)

pub returns-clause-stood : goal.returns-clause-stood
returns-clause-stood c = c.loop-rest.invariant.stood

pub returns-clause-tidy : goal.returns-clause-tidy
returns-clause-tidy c = c.loop-rest.invariant.tidy
