use Rattle.std.proofs.Common.{◌≡◌, ◌≤◌, Some, sym, ◌∙◌, subst}
use Rattle.ap_content.specs.Counting.{kid_times}
use Rattle.ap_content.specs.declared.slots.Interned.{Interned}
use Rattle.ap_content.proofs.TakingOut.{last-spent, some-spent, alone-spent, listed-out, parents-enough, linked-out, fewer-out, thins-out}
use Rattle.ap_content.proofs.arena.Arena.take_out.Goals as goal

digest_same : (x y : Interned) → Some x ≡ Some y → x.digest ≡ y.digest
digest_same x y e = cc

pub remove-interned-requires : goal.remove-interned-requires
remove-interned-requires c = some-spent _ (last-spent c.args.self.now.slots c.args.self.now.dying.items c.args.n _ c.requires.listed).0

pub forget-requires : goal.forget-requires
forget-requires c = λ d f.
    let x = c.requires.linked.finds d c.args.n f in
    sym x.2 ∙ digest_same x.0 c.remove-interned.result (sym x.1 ∙ c.remove-interned.ensures.value)

pub lower_all-requires-clause-parents : goal.lower_all-requires-clause-parents
lower_all-requires-clause-parents c = λ m x e.
    subst (λ kids. kid_times m kids ≤ x.parents) (sym c.as_slice.ensures)
    (parents-enough c.args.self.now.slots c.remove-interned.new.self c.args.n c.remove-interned.result c.remove-interned.ensures.value c.remove-interned.ensures.updates
    c.args.self.now.index c.requires.linked m x e)

pub lower_all-requires-clause-listed : goal.lower_all-requires-clause-listed
lower_all-requires-clause-listed c =
    listed-out c.args.self.now.slots c.remove-interned.new.self c.args.n c.remove-interned.result c.remove-interned.ensures.value c.remove-interned.ensures.updates
    _ _ c.requires.listed

pub returns-clause-linked : goal.returns-clause-linked
returns-clause-linked c =
    let old = c.args.self.now.slots in
    let spent = last-spent old c.args.self.now.dying.items c.args.n _ c.requires.listed in
    let alone = alone-spent old c.args.n c.remove-interned.result c.remove-interned.ensures.value spent.0 in
    linked-out old c.remove-interned.new.self c.args.n c.remove-interned.result c.remove-interned.ensures.value c.remove-interned.ensures.updates
    c.lower_all.new.slots c.as_slice.result.now c.as_slice.ensures c.lower_all.ensures.lowered c.args.self.now.index c.forget.new.self c.requires.linked alone.1 c.forget.ensures

pub returns-clause-fewer : goal.returns-clause-fewer
returns-clause-fewer c =
    fewer-out c.args.self.now.slots c.remove-interned.new.self c.args.n c.remove-interned.result c.remove-interned.ensures.value c.remove-interned.ensures.updates
    c.lower_all.new.slots c.as_slice.result.now c.as_slice.ensures c.lower_all.ensures.lowered

pub returns-clause-thins : goal.returns-clause-thins
returns-clause-thins c =
    let old = c.args.self.now.slots in
    let spent = last-spent old c.args.self.now.dying.items c.args.n _ c.requires.listed in
    let alone = alone-spent old c.args.n c.remove-interned.result c.remove-interned.ensures.value spent.0 in
    thins-out old c.remove-interned.new.self c.args.n c.remove-interned.result c.remove-interned.ensures.value c.remove-interned.ensures.updates
    c.lower_all.new.slots c.as_slice.result.now c.as_slice.ensures c.lower_all.ensures.lowered alone.0
