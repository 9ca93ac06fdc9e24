use Rattle.std.proofs.Common.{◌≡◌, ◌-◌, ◌∙◌, Some, length, get_or, take, drop, ap, sym, subst, arith}
use Rattle.std.specs.Prelude.{option_copied}
use Rattle.ap_content.specs.Entries.{node_at}
use Rattle.ap_db.specs.Stored.{kids_of_thing}
use Rattle.ap_db.specs.States.{file_thing}
use Rattle.ap_db.proofs.GoodBelow.{first_again, none_left}
use Rattle.ap_db.proofs.Walking.{AreLeft, known_defined, some_defined, kids_can, kids_left, next_left, so_far, next_can, next_defined, next_begun, all_defined, thing_next, thing_defined, same_defined, on_err, on_ok_both, on_err_both, there, absent}
use Rattle.ap_db.proofs.state.State.+define_below.Goals as goal

pub returns-then-is_some-clause-defined : goal.returns-then-is_some-clause-defined
returns-then-is_some-clause-defined t c = λ stored known x can s.
    let found = there c.thing_of.result c.if-is_some.ensures in
    let is = sym (c.thing_of.ensures ∙ ap (λ l. file_thing l c.args.m) c.deref.ensures.value) ∙ found.1 in
    known_defined c.args.contents.now stored known c.args.defined.now.items c.args.self.now c.args.m x found.0 can s is

pub returns-then-depth-eq0-clause-some : goal.returns-then-depth-eq0-clause-some
returns-then-depth-eq0-clause-some t c = λ stored known x can s. some_defined c.args.contents.now stored known c.args.defined.now.items c.args.self.now can.stands

pub returns-in_default-clause-some : goal.returns-in_default-clause-some
returns-in_default-clause-some t c = λ stored known x can s. some_defined c.args.contents.now stored known c.args.defined.now.items c.args.self.now can.stands

pub loop-rest-init : goal.loop-rest-init
loop-rest-init t c = λ stored known x can s.
    let is : node_at c.args.contents.now c.args.m ≡ Some c.in-Some.node.now = sym c.get.ensures.node ∙ ap option_copied c.in-Some.is in
    kids_left c.args.contents.now stored known c.args.defined.now.items c.args.self.now c.args.m x c.in-Some.node.now c.as_slice-rest.result.now can.stands s is c.as_slice-rest.ensures

pub define_below-requires : goal.define_below-requires
define_below-requires t c =
    let rest = c.loop-rest.rest.now in
    let first = get_or rest 0 (record { 0 = 0 }) in
    let after = take (length rest - 1) (drop 1 rest) in
    let stored = c.requires.0 in
    let known = c.requires.1 in
    let x = c.requires.2 in
    let left = subst (AreLeft c.args.contents.now stored known (kids_of_thing x) c.args.defined.now.items c.loop-rest.self c.loop-rest.defined.items) (sym (first_again (record { 0 = 0 }) rest c.in-len1-up.len_at_least)) (c.loop-rest.invariant stored known x c.requires.3 c.requires.4) in
    let can = kids_can c.args.contents.now stored known c.args.self.now x c.requires.3 in (
      omega (arith, c.decreases, c.if-depth-eq0.false),
      (
        so_far c.args.contents.now stored known (kids_of_thing x) c.args.defined.now.items c.loop-rest.defined.items c.args.self.now c.loop-rest.self first after can left,
        left.grown,
        (next_left c.args.contents.now first after left.left left.stand).next,
        next_can c.args.contents.now stored known (kids_of_thing x) c.args.defined.now.items c.loop-rest.defined.items c.args.self.now c.loop-rest.self first after can left,
        (next_left c.args.contents.now first after left.left left.stand).stand,
      ),
    )

pub returns-in_err-define_below-clause-some : goal.returns-in_err-define_below-clause-some
returns-in_err-define_below-clause-some t c = on_err c.from_residual.result (λ stored known x can s.
    let rest = c.loop-rest.rest.now in
    let first = get_or rest 0 (record { 0 = 0 }) in
    let after = take (length rest - 1) (drop 1 rest) in
    let left = subst (AreLeft c.args.contents.now stored known (kids_of_thing x) c.args.defined.now.items c.loop-rest.self c.loop-rest.defined.items) (sym (first_again (record { 0 = 0 }) rest c.in-len1-up.len_at_least)) (c.loop-rest.invariant stored known x can s) in
    let kids = kids_can c.args.contents.now stored known c.args.self.now x can in
    let next = next_left c.args.contents.now first after left.left left.stand in
    next_begun c.args.contents.now stored known (kids_of_thing x) c.args.defined.now.items c.loop-rest.defined.items c.args.self.now c.loop-rest.self first after kids left c.define_below.new.self c.define_below.new.defined.items
    (c.in_err-define_below.ensures.some (so_far c.args.contents.now stored known (kids_of_thing x) c.args.defined.now.items c.loop-rest.defined.items c.args.self.now c.loop-rest.self first after kids left) left.grown next.next
    (next_can c.args.contents.now stored known (kids_of_thing x) c.args.defined.now.items c.loop-rest.defined.items c.args.self.now c.loop-rest.self first after kids left) next.stand))

pub loop-rest-preserved : goal.loop-rest-preserved
loop-rest-preserved t c = λ stored known x can s.
    let rest = c.loop-rest.rest.now in
    let first = get_or rest 0 (record { 0 = 0 }) in
    let after = take (length rest - 1) (drop 1 rest) in
    let left = subst (AreLeft c.args.contents.now stored known (kids_of_thing x) c.args.defined.now.items c.loop-rest.self c.loop-rest.defined.items) (sym (first_again (record { 0 = 0 }) rest c.in-len1-up.len_at_least)) (c.loop-rest.invariant stored known x can s) in
    let kids = kids_can c.args.contents.now stored known c.args.self.now x can in
    let next = next_left c.args.contents.now first after left.left left.stand in
    next_defined c.args.contents.now stored known (kids_of_thing x) c.args.defined.now.items c.loop-rest.defined.items c.args.self.now c.loop-rest.self first after kids left c.define_below.new.self c.define_below.new.defined.items
    (c.in_ok-define_below.ensures.defined (so_far c.args.contents.now stored known (kids_of_thing x) c.args.defined.now.items c.loop-rest.defined.items c.args.self.now c.loop-rest.self first after kids left) left.grown next.next
    (next_can c.args.contents.now stored known (kids_of_thing x) c.args.defined.now.items c.loop-rest.defined.items c.args.self.now c.loop-rest.self first after kids left) next.stand)

pub define_next-requires : goal.define_next-requires
define_next-requires t c =
    let stored = c.requires.0 in
    let known = c.requires.1 in
    let x = c.requires.2 in
    let none = ap (λ l. file_thing l c.args.m) (sym c.deref.ensures.value) ∙ sym c.thing_of.ensures ∙ absent c.thing_of.result c.if-is_some.ensures in
    let left = subst (AreLeft c.args.contents.now stored known (kids_of_thing x) c.args.defined.now.items c.loop-rest.self c.loop-rest.defined.items) (none_left c.loop-rest.rest.now c.in_default-rest.len_below) (c.loop-rest.invariant stored known x c.requires.3 c.requires.4) in
    let done = all_defined c.args.contents.now stored known (kids_of_thing x) c.args.defined.now.items c.loop-rest.defined.items c.loop-rest.self left in
    (_, x, done.stands, thing_next c.args.contents.now stored known c.args.defined.now.items c.loop-rest.defined.items c.args.self.now c.loop-rest.self c.args.m x c.requires.3 c.requires.4 none done)

pub returns-clause-defined : goal.returns-clause-defined
returns-clause-defined t c = on_ok_both c.define_next.result c.define_next.ensures.stands c.define_next.ensures.pushed (λ stands pushed. λ stored known x can s.
    let none = ap (λ l. file_thing l c.args.m) (sym c.deref.ensures.value) ∙ sym c.thing_of.ensures ∙ absent c.thing_of.result c.if-is_some.ensures in
    let left = subst (AreLeft c.args.contents.now stored known (kids_of_thing x) c.args.defined.now.items c.loop-rest.self c.loop-rest.defined.items) (none_left c.loop-rest.rest.now c.in_default-rest.len_below) (c.loop-rest.invariant stored known x can s) in
    let done = all_defined c.args.contents.now stored known (kids_of_thing x) c.args.defined.now.items c.loop-rest.defined.items c.loop-rest.self left in
    let new = thing_next c.args.contents.now stored known c.args.defined.now.items c.loop-rest.defined.items c.args.self.now c.loop-rest.self c.args.m x can s none done in
    let all = thing_defined c.args.contents.now stored known c.args.defined.now.items c.loop-rest.defined.items c.args.self.now c.loop-rest.self c.args.m x can s none done c.define_next.new.self (stands _ x done.stands new) in
    same_defined c.args.contents.now stored known _ _ c.args.defined.now.items _ c.define_next.new.defined.items c.define_next.new.self c.define_next.new.self all all.stands pushed)

pub returns-clause-some : goal.returns-clause-some
returns-clause-some t c = on_err_both c.define_next.result c.define_next.ensures.unchanged c.define_next.ensures.kept (λ unchanged kept. λ stored known x can s.
    let left = subst (AreLeft c.args.contents.now stored known (kids_of_thing x) c.args.defined.now.items c.loop-rest.self c.loop-rest.defined.items) (none_left c.loop-rest.rest.now c.in_default-rest.len_below) (c.loop-rest.invariant stored known x can s) in
    let done = left.done in
    (left.parts, left.grown, same_defined c.args.contents.now stored known left.parts left.grown c.args.defined.now.items c.loop-rest.defined.items c.define_next.new.defined.items c.loop-rest.self c.define_next.new.self done (unchanged _ done.stands) kept))
