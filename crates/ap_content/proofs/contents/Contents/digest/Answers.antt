use Rattle.std.proofs.Common.{◌≡◌, Some, sym, ap, subst, ◌∙◌}
use Rattle.slab.specs.Slab.{get}
use Rattle.ap_content.specs.Things.{digest}
use Rattle.ap_content.specs.Entries.{Stands}
use Rattle.ap_content.specs.Sound.{entries}
use Rattle.ap_content.proofs.Tidying.{one_thing}
use Rattle.ap_content.proofs.contents.Contents.digest.Goals as goal

pub returns-in-Some-clause-digest : goal.returns-in-Some-clause-digest
returns-in-Some-clause-digest c = λ x stands.
    let slots = c.self.inside.arena.slots in
    let there : get slots c.args.n.0 ≡ Some c.in-Some.interned.now = cc (c.in-Some.ensures) in
    let s = c.self.invariant.linked.stands c.args.n.0 c.in-Some.interned.now there in
    s.2 ∙ ap digest (one_thing (entries slots) s.0 x c.args.n s.1 (subst (λ v. Stands v c.args.n x) (sym c.self.view_is) stands))
