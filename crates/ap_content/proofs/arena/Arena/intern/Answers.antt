use Rattle.std.proofs.Common.{ap, ◌∙◌, sym, length}
use Rattle.sha1.specs.Sha1.{sha1}
use Rattle.ap_content.specs.Things.{digested}
use Rattle.ap_content.specs.Sound.{kid_digests}
use Rattle.ap_content.proofs.Adding.{digest-from_node}
use Rattle.ap_content.proofs.arena.Arena.intern.Goals as goal

pub add-requires-clause-absent : goal.add-requires-clause-absent
add-requires-clause-absent c = λ n x e node.
    let slots = c.args.self.now.slots in
    let from_node = digest-from_node slots c.args.self.now.index c.requires.sound.linked n x e in
    c.in_default.ensures.absent n x e
    (from_node ∙ ap (λ w. sha1 (digested w.tag w.text (length w.kids) (kid_digests slots w.kids))) node ∙ sym c.digest_of-digest.ensures)
    node
