use Rattle.std.proofs.Common.{◌≡◌, ◌≢◌, Option, Some, None, arith, ap, ◌∙◌, refl, vec_capacity}
use Rattle.slab.specs.Slab.{get}
use Rattle.ap_content.specs.declared.slots.Interned.{Interned}
use Rattle.ap_content.specs.Counting.{living, spent, with_less}
use Rattle.ap_content.proofs.Listing.{spent-le, spent-not, listed-same, listed-more, list-room}
use Rattle.ap_content.proofs.slots.release_hold.Goals as goal

living-less : (s : Option Interned) → living (with_less s) ≡ living s
living-less None = refl
living-less (Some x) = refl

pub push_reserved-requires : goal.push_reserved-requires
push_reserved-requires c =
    let k = c.args.n in
    let old = c.args.slots.now in
    let room = list-room old c.lower_holds.new.slots c.args.dying.now.items (vec_capacity c.args.dying.now) k c.requires.listed c.lower_holds.ensures.others
    (ap living c.lower_holds.ensures.here ∙ living-less (get old k)) (spent-not (get old k) (λ x e. let low = c.requires.holds x e in omega arith)) (c.lower_holds.ensures.left.0 c.if-lower_holds.true) in
    omega arith

pub returns-then-lower_holds-clause-listed : goal.returns-then-lower_holds-clause-listed
returns-then-lower_holds-clause-listed c =
    let k = c.args.n in
    let old = c.args.slots.now in
    rw (c.push_reserved.ensures.items, c.push_reserved.ensures.capacity)
    (listed-more old c.lower_holds.new.slots c.args.dying.now.items (vec_capacity c.args.dying.now) k c.requires.listed c.lower_holds.ensures.others
    (ap living c.lower_holds.ensures.here ∙ living-less (get old k)) (spent-not (get old k) (λ x e. let low = c.requires.holds x e in omega arith)) (c.lower_holds.ensures.left.0 c.if-lower_holds.true))

pub returns-else-lower_holds-clause-listed : goal.returns-else-lower_holds-clause-listed
returns-else-lower_holds-clause-listed c =
    let k = c.args.n in
    let old = c.args.slots.now in
    let most = spent-le (get c.lower_holds.new.slots k) in
    let not_one : spent (get c.lower_holds.new.slots k) ≢ 1 = λ e. let t = c.lower_holds.ensures.left.1 e in cc in
    listed-same old c.lower_holds.new.slots c.args.dying.now.items (vec_capacity c.args.dying.now) k c.requires.listed c.lower_holds.ensures.others
    (ap living c.lower_holds.ensures.here ∙ living-less (get old k)) (spent-not (get old k) (λ x e. let low = c.requires.holds x e in omega arith)) (omega arith)
