use Rattle.std.proofs.Common.{rules, ◌≡◌, ◌<◌, length, get_or, Some, None, sym, subst}
use Rattle.std.specs.declared.cmp.Ordering.TheVariants.{Equal}
use Rattle.std.specs.Arc.{arc_value}
use Rattle.ap_handles.specs.Index.{key, key_of, key_cmp}
use Rattle.std.specs.Prelude.{find}
use Rattle.ap_handles.specs.Machine.{is_of}
use Rattle.ap_handles.proofs.Keys.{index_found, index_absent}
use Rattle.ap_handles.proofs.products.Products.find.Goals as goal

pub returns-in-Ok : goal.returns-in-Ok
returns-in-Ok c =
    let range : c.in-Ok.at < length c.self.inside.by_key.items = search rules in
    let tie : key_cmp (key_of (arc_value (get_or c.self.inside.by_key.items c.in-Ok.at c.index.result.now))) (key c.args.platform.now c.args.id) ≡ Equal = search rules in
    subst (λ products. find (is_of c.args.platform.now c.args.id) products ≡ Some (arc_value c.index.result.now)) c.self.view_is
    (index_found _ _ _ c.self.invariant c.args.platform.now c.args.id c.in-Ok.at c.index.result.now range (sym c.index.ensures) (subst (λ a. key_cmp (key_of (arc_value a)) (key c.args.platform.now c.args.id) ≡ Equal) (sym c.index.ensures) tie))

pub returns-in-Err : goal.returns-in-Err
returns-in-Err c =
    subst (λ products. find (is_of c.args.platform.now c.args.id) products ≡ None) c.self.view_is
    (index_absent _ _ c.self.inside.by_key.items c.self.invariant c.args.platform.now c.args.id c.in-Err.field-0 (rw (sym c.deref.ensures.value) c.in-Err.ensures.found))
