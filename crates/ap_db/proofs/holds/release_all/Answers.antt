use Rattle.std.proofs.Common.{◌-◌, length, take, drop, get_or, sym, subst}
use Rattle.ap_db.specs.declared.drops.Dropped.{Dropped}
use Rattle.ap_db.proofs.GoodBelow.{first_again, none_left}
use Rattle.ap_db.proofs.Settling.{AreReleased, none_released, first_held, one_released, all_released}
use Rattle.ap_db.proofs.holds.release_all.Goals as goal

pub loop-rest-init : goal.loop-rest-init
loop-rest-init c = none_released c.args.contents.now c.args.dropped.now c.requires.held c.requires.was_tidy

pub release-requires : goal.release-requires
release-requires c =
    let d : Dropped = record { m = record { 0 = 0 }; thing = record { number = 0; named = 0 } } in
    let rest = c.loop-rest.rest.now in
    let so_far = subst (AreReleased c.args.contents.now c.loop-rest.contents c.args.dropped.now) (sym (first_again d rest c.in-len1-up.len_at_least)) c.loop-rest.invariant in
    first_held c.args.contents.now c.loop-rest.contents c.args.dropped.now (take (length rest - 1) (drop 1 rest)) (get_or rest 0 d) so_far

pub loop-rest-preserved : goal.loop-rest-preserved
loop-rest-preserved c =
    let d : Dropped = record { m = record { 0 = 0 }; thing = record { number = 0; named = 0 } } in
    let rest = c.loop-rest.rest.now in
    let so_far = subst (AreReleased c.args.contents.now c.loop-rest.contents c.args.dropped.now) (sym (first_again d rest c.in-len1-up.len_at_least)) c.loop-rest.invariant in
    one_released c.args.contents.now c.loop-rest.contents c.release.new.self c.args.dropped.now (take (length rest - 1) (drop 1 rest)) (get_or rest 0 d) so_far c.release.ensures.loses c.release.ensures.tidy

pub returns-clause-exact : goal.returns-clause-exact
returns-clause-exact c =
    let none = none_left c.loop-rest.rest.now c.in_default.len_below in
    all_released c.args.contents.now c.loop-rest.contents c.args.dropped.now (subst (AreReleased c.args.contents.now c.loop-rest.contents c.args.dropped.now) none c.loop-rest.invariant)

pub returns-clause-stood : goal.returns-clause-stood
returns-clause-stood c = c.loop-rest.invariant.stood

pub returns-clause-tidy : goal.returns-clause-tidy
returns-clause-tidy c = c.loop-rest.invariant.tidy
