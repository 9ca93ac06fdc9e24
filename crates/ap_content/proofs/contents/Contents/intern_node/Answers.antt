use Rattle.std.proofs.Common.{Contains, sym, ap, subst, refl, option_map}
use Rattle.ap_content.specs.Entries.{Lives, StandEach}
use Rattle.ap_content.specs.Laws.{StandEach-gained}
use Rattle.ap_content.specs.Sound.{entries, number}
use Rattle.ap_content.specs.declared.node.Node.{Node}
use Rattle.ap_content.specs.declared.node.Number.{Number}
use Rattle.ap_content.proofs.Seeing.{lives-get}
use Rattle.ap_content.proofs.Tidying.{tidy-from_sound, member-kid_times}
use Rattle.ap_content.proofs.contents.Contents.intern_node.Goals as goal

pub intern-requires-clause-kids_live : goal.intern-requires-clause-kids_live
intern-requires-clause-kids_live c = λ k low.
    let has : Contains c.as_slice-kids.result.now (number k) = member-kid_times c.as_slice-kids.result.now k low in
    let lives = c.requires (number k) (subst (λ kids. Contains kids (number k)) c.as_slice-kids.ensures has) in
    lives-get c.self.inside.arena.slots (number k) (subst (λ v. Lives v (number k)) (sym c.self.view_is) lives)

pub returns-in_err-n-clause-tidy : goal.returns-in_err-n-clause-tidy
returns-in_err-n-clause-tidy c = tidy-from_sound c.intern.new.self c.intern.ensures.sound

pub returns-clause-thing : goal.returns-clause-thing
returns-clause-thing c = λ kids each.
    let old = entries c.self.inside.arena.slots in
    let new = entries c.intern.new.self.slots in
    let ns = c.as_slice-kids.result.now in
    let node : Node = record { tag = c.args.node.now.tag; text = c.as_slice-text.result.now; kids = ns } in
    let before : StandEach old ns kids =
    subst (λ v. StandEach v ns kids) (sym c.self.view_is) (subst (λ ks. StandEach c.args.self.now ks kids) (sym c.as_slice-kids.ensures) each) in
    let lives : (k : Number) → Contains ns k → Lives old k = λ k has.
    subst (λ v. Lives v k) (sym c.self.view_is) (c.requires k (subst (λ ks. Contains ks k) c.as_slice-kids.ensures has)) in (
      node,
      ap (option_map (λ e. e.node)) c.in_ok-n.ensures.gains.held,
      refl,
      c.as_slice-text.ensures,
      StandEach-gained old new (number c.in_ok-n.n) node c.in_ok-n.ensures.gains (tidy-from_sound c.self.inside.arena c.self.invariant) kids ns lives before,
    )

pub returns-clause-tidy : goal.returns-clause-tidy
returns-clause-tidy c = tidy-from_sound c.intern.new.self c.intern.ensures.sound
