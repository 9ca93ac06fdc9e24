use Rattle.std.proofs.Common.{◌≡◌, ◌∙◌, Some, List, ℕ, sym, subst, ap}
use Rattle.std.specs.Prelude.{option_copied}
use Rattle.ap_content.specs.Entries.{node_at}
use Rattle.ap_content.specs.declared.node.Number.{Number}
use Rattle.ap_rows.specs.declared.change.Item.TheVariants.{Define}
use Rattle.ap_db.specs.Listed.{AreAll}
use Rattle.ap_db.specs.States.{IsFileNumber}
use Rattle.ap_db.proofs.WritingDefines.{define_is}
use Rattle.ap_db.proofs.state.State.define_of.Goals as goal

pub returns : goal.returns
returns c = λ numbers stored x stands are s.
    let node = c.in-Some.node.now in
    let is : node_at c.args.contents.now c.args.m ≡ Some node = sym c.get.ensures.node ∙ ap option_copied c.in-Some.is in
    let files = subst (λ (l : List Number). AreAll (IsFileNumber c.args.self.now.things.items) l c.in_ok-kids.kids.items) c.as_slice.ensures c.in_ok-kids.ensures in
    ap (λ (t : List ℕ). Define node.tag t c.of.result) c.in_ok-text.ensures ∙ ap (λ (l : List Number). Define node.tag node.text l) c.of.ensures
    ∙ define_is c.args.self.now c.args.contents.now stored stands numbers are c.args.m x node c.in_ok-kids.kids.items is s files
