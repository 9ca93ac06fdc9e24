use Rattle.std.proofs.Common.{◌≡◌, Some, IfSome, sym, ap, subst, ◌∙◌}
use Rattle.slab.specs.Slab.{get}
use Rattle.ap_content.specs.Entries.{node_at, Lives, Gains}
use Rattle.ap_content.specs.Sound.{entries}
use Rattle.ap_content.proofs.Seeing.{node_at-entries, node_of, from_is_some, lives-get}
use Rattle.ap_content.proofs.Tidying.{tidy-from_sound}
use Rattle.ap_content.proofs.contents.Contents.hold.Goals as goal

pub returns-clause-gains : goal.returns-clause-gains
returns-clause-gains c =
    let old = c.self.inside.arena.slots in
    let new = c.hold.new.self.slots in
    let n = c.args.n in
    let x = from_is_some (get old n.0) (lives-get old n (subst (λ v. Lives v n) (sym c.self.view_is) c.requires)) in
    let node : node_at (entries old) n ≡ Some x.0.node = node_at-entries old n ∙ ap node_of x.1 in
    subst (λ v. IfSome (node_at v n) (Gains v (entries new) n)) c.self.view_is
    (subst (λ o. IfSome o (Gains (entries old) (entries new) n)) (sym node) (c.hold.ensures.gains x.0 x.1))

pub returns-clause-tidy : goal.returns-clause-tidy
returns-clause-tidy c = tidy-from_sound c.hold.new.self c.hold.ensures.sound
