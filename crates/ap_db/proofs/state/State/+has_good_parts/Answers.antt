use Rattle.std.proofs.Common.{◌≡◌, ◌<◌, ◌-◌, ◌∙◌, true, false, ◌∷◌, length, Option, Some, None, get_or, take, drop, ap, sym, subst, refl, arith}
use Rattle.std.specs.Prelude.{option_copied, is_some}
use Rattle.ap_content.specs.Things.{thing}
use Rattle.ap_content.specs.Entries.{StandEach, node_at}
use Rattle.ap_rows.specs.Forms.{has_form}
use Rattle.ap_db.specs.declared.things.FileThing.{FileThing}
use Rattle.ap_db.specs.States.{file_thing}
use Rattle.ap_db.specs.GoodParts.{has_good_parts, KidsLeft}
use Rattle.ap_db.proofs.GoodBelow.{known_good, kids_start, next_kid, kid_good, kid_bad, not_so_deep, node_there, all_kids_good, first_again, none_left}
use Rattle.ap_db.proofs.state.State.+has_good_parts.Goals as goal

there : (o : Option FileThing) → true ≡ is_some o → (t : FileThing) × (o ≡ Some t)
there None e = absurd (cc e)
there (Some t) e = (t, refl)

absent : (o : Option FileThing) → false ≡ is_some o → o ≡ None
absent None e = refl
absent (Some t) e = absurd (cc e)

pub returns-then-depth-eq0 : goal.returns-then-depth-eq0
returns-then-depth-eq0 t c stored x above stands s down long =
    let zero : c.args.depth ≡ 0 = c.if-depth-eq0.true in
    absurd (not_so_deep c.args.self.now c.args.contents.now stored stands c.args.n x above c.ranges.n.fits s down (omega (arith, long, zero)))

pub returns-then-is_some : goal.returns-then-is_some
returns-then-is_some t c stored x above stands s down long =
    let found = there c.thing_of.result c.if-is_some.ensures in
    let is = sym (c.thing_of.ensures ∙ ap (λ l. file_thing l (record { 0 = c.args.n })) c.deref.ensures.value) ∙ found.1 in
    sym (known_good c.args.self.now c.args.contents.now stored stands (record { 0 = c.args.n }) x found.0 s is)

pub returns-in_default : goal.returns-in_default
returns-in_default t c stored x above stands s down long =
    let node = node_there c.args.contents.now (record { 0 = c.args.n }) x s in
    let none : None ≡ Some node.0 = sym (ap option_copied c.in_default.is) ∙ c.get.ensures.node ∙ node.1 in
    absurd (cc none)

pub loop-rest-init : goal.loop-rest-init
loop-rest-init t c stored x above stands s down long =
    let is : node_at c.args.contents.now (record { 0 = c.args.n }) ≡ Some c.in-Some.node.now = sym c.get.ensures.node ∙ ap option_copied c.in-Some.is in
    subst (λ l. KidsLeft stored c.args.contents.now x l) (sym c.as_slice-kids.ensures) (kids_start c.args.self.now c.args.contents.now stored stands (record { 0 = c.args.n }) x c.in-Some.node.now s is)

pub returns-then-not-has_good_parts : goal.returns-then-not-has_good_parts
returns-then-not-has_good_parts t c stored x above stands s down long =
    let rest = c.loop-rest.rest.now in
    let first = get_or rest 0 (record { 0 = 0 }) in
    let after = take (length rest - 1) (drop 1 rest) in
    let left = subst (λ l. KidsLeft stored c.args.contents.now x l) (sym (first_again (record { 0 = 0 }) rest c.in-len1-up.len_at_least)) (c.loop-rest.invariant stored x above stands s down long) in
    let next = next_kid c.args.self.now c.args.contents.now stored stands x first after left in
    let some : 0 < c.args.depth = omega (arith, c.if-depth-eq0.false) in
    let said : c.has_good_parts.result ≡ has_good_parts stored next.next =
    c.has_good_parts.ensures stored next.next (c.args.n ∷ above) stands next.stand (x, s, next.smaller, c.ranges.n.fits, down) (omega (arith, long, some)) in
    let none = sym c.thing_of.ensures ∙ absent c.thing_of.result c.if-is_some.ensures in
    kid_bad c.args.self.now c.args.contents.now stored stands (record { 0 = c.args.n }) x first after s (ap (λ l. file_thing l (record { 0 = c.args.n })) (sym c.deref.ensures.value) ∙ none) left (sym said ∙ c.if-not-has_good_parts.true)

pub loop-rest-preserved : goal.loop-rest-preserved
loop-rest-preserved t c stored x above stands s down long =
    let rest = c.loop-rest.rest.now in
    let first = get_or rest 0 (record { 0 = 0 }) in
    let after = take (length rest - 1) (drop 1 rest) in
    let left = subst (λ l. KidsLeft stored c.args.contents.now x l) (sym (first_again (record { 0 = 0 }) rest c.in-len1-up.len_at_least)) (c.loop-rest.invariant stored x above stands s down long) in
    let next = next_kid c.args.self.now c.args.contents.now stored stands x first after left in
    let some : 0 < c.args.depth = omega (arith, c.if-depth-eq0.false) in
    let said : c.has_good_parts.result ≡ has_good_parts stored next.next =
    c.has_good_parts.ensures stored next.next (c.args.n ∷ above) stands next.stand (x, s, next.smaller, c.ranges.n.fits, down) (omega (arith, long, some)) in
    kid_good c.args.self.now c.args.contents.now stored stands x first after left (sym said ∙ c.if-not-has_good_parts.false)

pub returns : goal.returns
returns t c stored x above stands s down long =
    let left = subst (λ l. KidsLeft stored c.args.contents.now x l) (none_left c.loop-rest.rest.now c.in_default-rest.len_below) (c.loop-rest.invariant stored x above stands s down long) in
    let is : node_at c.args.contents.now (record { 0 = c.args.n }) ≡ Some c.in-Some.node.now = sym c.get.ensures.node ∙ ap option_copied c.in-Some.is in
    let none = ap (λ l. file_thing l (record { 0 = c.args.n })) (sym c.deref.ensures.value) ∙ sym c.thing_of.ensures ∙ absent c.thing_of.result c.if-is_some.ensures in
    all_kids_good c.args.self.now c.args.contents.now stored stands (record { 0 = c.args.n }) x c.in-Some.node.now c.has_form.result s none is left
    (λ xs each forms. c.has_form.ensures xs (subst (λ l. StandEach c.args.contents.now l xs) (sym c.as_slice-kids.ensures) each) forms ∙ ap (λ l. has_form (thing c.in-Some.node.now.tag l xs)) c.as_slice.ensures)
