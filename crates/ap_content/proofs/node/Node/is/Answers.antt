use Rattle.std.proofs.Common.{◌≡◌, ℕ, List, Bool, true, false, not, ◌==◌, ap, ◌∙◌, sym, refl}
use Rattle.std.proofs.lemmas.Bool.Decides.{Decides-eqb, Decides-like}
use Rattle.std.proofs.lemmas.Slice.Eq.{slice_eq-Decides}
use Rattle.std.specs.Cmp.Lexicographic.{same_text}
use Rattle.ap_content.specs.declared.node.Node.{Node}
use Rattle.ap_content.specs.declared.node.Number.{Number}
use Rattle.ap_content.proofs.node.Node.is.Goals as goal

same_node : (node : Node) (tag : ℕ) (text : List ℕ) (kids : List Number) → node.tag ≡ tag → node.text ≡ text → node.kids ≡ kids
    → node ≡ record { tag = tag; text = text; kids = kids }
same_node node tag text kids a b c =
    ap (λ t. record node { tag = t }) a ∙ ap (λ t. record node { tag = tag; text = t }) b ∙ ap (λ k. record { tag = tag; text = text; kids = k }) c

not_false : (b : Bool) → not b ≡ false → b ≡ true
not_false true e = refl
not_false false e = cc

pub returns : goal.returns
returns c =
    let kids = slice_eq-Decides (λ a b. Decides-like (a.0 == b.0) (λ e. ap (λ n. record { 0 = n }) e) (ap (λ k. k.0)) (Decides-eqb a.0 b.0)) c.as_slice-2.result.now c.args.kids.now c.eq.result c.eq.ensures in (
      λ t. same_node _ _ _ _ (cc)
          (sym c.as_slice.ensures ∙ same_text c.as_slice.result.now c.args.text.now (sym (not_false _ (sym c.ne.ensures ∙ c.if-ne.false))))
          (sym c.as_slice-2.ensures ∙ kids.0 t),
      λ e. kids.1 (c.as_slice-2.ensures ∙ ap (λ node. node.kids) e),
    )
