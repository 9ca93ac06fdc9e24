use Rattle.std.proofs.Common.{◌-◌, length, get_or, take, drop, sym, subst}
use Rattle.ap_db.proofs.GoodBelow.{first_again, none_left}
use Rattle.ap_db.proofs.Walking.{AreLeft, all_left, next_left, so_far, next_can, next_defined, next_begun, all_defined, on_err}
use Rattle.ap_db.proofs.state.State.define_each.Goals as goal

pub loop-rest-init : goal.loop-rest-init
loop-rest-init c = λ stored known xs can each. all_left c.args.contents.now stored known xs c.args.defined.now.items c.args.self.now c.args.numbers.now can.stands each

pub define_below-requires : goal.define_below-requires
define_below-requires c =
    let rest = c.loop-rest.rest.now in
    let first = get_or rest 0 (record { 0 = 0 }) in
    let after = take (length rest - 1) (drop 1 rest) in
    let stored = c.requires.0 in
    let known = c.requires.1 in
    let xs = c.requires.2 in
    let left = subst (AreLeft c.args.contents.now stored known xs c.args.defined.now.items c.loop-rest.self c.loop-rest.defined.items) (sym (first_again (record { 0 = 0 }) rest c.in-len1-up.len_at_least)) (c.loop-rest.invariant stored known xs c.requires.3 c.requires.4) in (
      so_far c.args.contents.now stored known xs c.args.defined.now.items c.loop-rest.defined.items c.args.self.now c.loop-rest.self first after c.requires.3 left,
      left.grown,
      (next_left c.args.contents.now first after left.left left.stand).next,
      next_can c.args.contents.now stored known xs c.args.defined.now.items c.loop-rest.defined.items c.args.self.now c.loop-rest.self first after c.requires.3 left,
      (next_left c.args.contents.now first after left.left left.stand).stand,
    )

pub returns-in_err-define_below-clause-some : goal.returns-in_err-define_below-clause-some
returns-in_err-define_below-clause-some c = on_err c.from_residual.result (λ stored known xs can each.
    let rest = c.loop-rest.rest.now in
    let first = get_or rest 0 (record { 0 = 0 }) in
    let after = take (length rest - 1) (drop 1 rest) in
    let left = subst (AreLeft c.args.contents.now stored known xs c.args.defined.now.items c.loop-rest.self c.loop-rest.defined.items) (sym (first_again (record { 0 = 0 }) rest c.in-len1-up.len_at_least)) (c.loop-rest.invariant stored known xs can each) in
    let next = next_left c.args.contents.now first after left.left left.stand in
    next_begun c.args.contents.now stored known xs c.args.defined.now.items c.loop-rest.defined.items c.args.self.now c.loop-rest.self first after can left c.define_below.new.self c.define_below.new.defined.items
    (c.in_err-define_below.ensures.some (so_far c.args.contents.now stored known xs c.args.defined.now.items c.loop-rest.defined.items c.args.self.now c.loop-rest.self first after can left) left.grown next.next
    (next_can c.args.contents.now stored known xs c.args.defined.now.items c.loop-rest.defined.items c.args.self.now c.loop-rest.self first after can left) next.stand))

pub loop-rest-preserved : goal.loop-rest-preserved
loop-rest-preserved c = λ stored known xs can each.
    let rest = c.loop-rest.rest.now in
    let first = get_or rest 0 (record { 0 = 0 }) in
    let after = take (length rest - 1) (drop 1 rest) in
    let left = subst (AreLeft c.args.contents.now stored known xs c.args.defined.now.items c.loop-rest.self c.loop-rest.defined.items) (sym (first_again (record { 0 = 0 }) rest c.in-len1-up.len_at_least)) (c.loop-rest.invariant stored known xs can each) in
    let next = next_left c.args.contents.now first after left.left left.stand in
    next_defined c.args.contents.now stored known xs c.args.defined.now.items c.loop-rest.defined.items c.args.self.now c.loop-rest.self first after can left c.define_below.new.self c.define_below.new.defined.items
    (c.in_ok-define_below.ensures.defined (so_far c.args.contents.now stored known xs c.args.defined.now.items c.loop-rest.defined.items c.args.self.now c.loop-rest.self first after can left) left.grown next.next
    (next_can c.args.contents.now stored known xs c.args.defined.now.items c.loop-rest.defined.items c.args.self.now c.loop-rest.self first after can left) next.stand)

pub returns-clause-defined : goal.returns-clause-defined
returns-clause-defined c = λ stored known xs can each.
    all_defined c.args.contents.now stored known xs c.args.defined.now.items c.loop-rest.defined.items c.loop-rest.self
    (subst (AreLeft c.args.contents.now stored known xs c.args.defined.now.items c.loop-rest.self c.loop-rest.defined.items) (none_left c.loop-rest.rest.now c.in_default.len_below) (c.loop-rest.invariant stored known xs can each))
