use Rattle.std.proofs.Common.{◌≡◌, ◌≢◌, Option, Some, None, arith, ap, ◌∙◌, refl, vec_capacity}
use Rattle.slab.specs.Slab.{get}
use Rattle.ap_content.specs.declared.slots.Interned.{Interned}
use Rattle.ap_content.specs.Counting.{living, spent, lowered}
use Rattle.ap_content.proofs.Listing.{spent-le, spent-not, listed-same, listed-more, list-room}
use Rattle.ap_content.proofs.slots.lower_and_list.Goals as goal

living-lowered : (s : Option Interned) → living (lowered 1 s) ≡ living s
living-lowered None = refl
living-lowered (Some x) = refl

pub push_reserved-requires : goal.push_reserved-requires
push_reserved-requires c =
    let k = c.args.n in
    let old = c.args.slots.now in
    let room = list-room old c.lower.new.slots c.args.dying.now.items (vec_capacity c.args.dying.now) k c.requires.listed c.lower.ensures.others
    (ap living c.lower.ensures.here ∙ living-lowered (get old k)) (spent-not (get old k) (λ x e. let low = c.requires.parents x e in omega arith)) (c.lower.ensures.left.0 c.if-lower.true) in
    omega arith

pub returns-then-lower-clause-listed : goal.returns-then-lower-clause-listed
returns-then-lower-clause-listed c =
    let k = c.args.n in
    let old = c.args.slots.now in
    rw (c.push_reserved.ensures.items, c.push_reserved.ensures.capacity)
    (listed-more old c.lower.new.slots c.args.dying.now.items (vec_capacity c.args.dying.now) k c.requires.listed c.lower.ensures.others
    (ap living c.lower.ensures.here ∙ living-lowered (get old k)) (spent-not (get old k) (λ x e. let low = c.requires.parents x e in omega arith)) (c.lower.ensures.left.0 c.if-lower.true))

pub returns-else-lower-clause-listed : goal.returns-else-lower-clause-listed
returns-else-lower-clause-listed c =
    let k = c.args.n in
    let old = c.args.slots.now in
    let most = spent-le (get c.lower.new.slots k) in
    let not_one : spent (get c.lower.new.slots k) ≢ 1 = λ e. let t = c.lower.ensures.left.1 e in cc in
    listed-same old c.lower.new.slots c.args.dying.now.items (vec_capacity c.args.dying.now) k c.requires.listed c.lower.ensures.others
    (ap living c.lower.ensures.here ∙ living-lowered (get old k)) (spent-not (get old k) (λ x e. let low = c.requires.parents x e in omega arith)) (omega arith)
