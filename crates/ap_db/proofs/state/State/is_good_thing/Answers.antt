use Rattle.std.proofs.Common.{◌≡◌, ◌∙◌, [], Some, ap, sym, subst, refl}
use Rattle.std.specs.Prelude.{option_copied}
use Rattle.ap_content.specs.Entries.{Stands, node_at}
use Rattle.ap_db.specs.Lawful.{is_good_thing}
use Rattle.ap_db.specs.LiveLaws.{equal_numbers, other_number}
use Rattle.ap_db.specs.Said.{Says}
use Rattle.ap_db.proofs.SaidThings.{says_nothing, says_other_tag, says_tag}
use Rattle.ap_db.proofs.state.State.is_good_thing.Goals as goal

pub returns-in_default : goal.returns-in_default
returns-in_default c stored stands =
    says_nothing c.args.contents.now c.args.m c.args.self.now stored stands c.args.tag (sym c.get.ensures.node ∙ ap option_copied c.in_default.is)

pub returns-then-node-tag : goal.returns-then-node-tag
returns-then-node-tag c stored stands =
    let is : node_at c.args.contents.now c.args.m ≡ Some c.in-Some.node.now = sym c.get.ensures.node ∙ ap option_copied c.in-Some.is in
    says_tag c.args.contents.now c.args.m c.args.self.now stored stands c.args.tag c.in-Some.node.now c.has_good_parts.result is (equal_numbers c.in-Some.node.now.tag c.args.tag c.if-node-tag.true)
    (λ x s. c.has_good_parts.ensures stored x [] stands s tt refl)

pub returns-else-node-tag : goal.returns-else-node-tag
returns-else-node-tag c stored stands =
    let is : node_at c.args.contents.now c.args.m ≡ Some c.in-Some.node.now = sym c.get.ensures.node ∙ ap option_copied c.in-Some.is in
    let other = other_number c.in-Some.node.now.tag c.args.tag c.if-node-tag.false in
    subst (λ b. Says b (Stands c.args.contents.now c.args.m) (is_good_thing stored c.args.tag)) (sym other)
    (says_other_tag c.args.contents.now c.args.m c.args.self.now stored stands c.args.tag c.in-Some.node.now is other)
