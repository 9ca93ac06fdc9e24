use Rattle.std.proofs.Common.{◌≡◌, ◌≤◌, ◌+◌, ◌<◌, ◌==◌, ℕ, ℤ, Bool, not, List, length, set, get_or, ap, sym, ◌∙◌, arith}
use Rattle.std.proofs.lemmas.List.{with_items_is, length-set}
use Rattle.std.proofs.lemmas.Bool.{ne_eqb, eq-eqb}
use Rattle.std.specs.Vec.{with_item}
use Rattle.ap_graph.specs.Contest.{Contest, entered_in}
use Rattle.ap_graph.proofs.Contests.{entered_same, entered-set}
use Rattle.ap_graph.proofs.tournament.Tournament.set.Goals as goal
use Rattle.ap_graph.proofs.tournament.Tournament.set.Goals.{then-takes_part, else-takes_part}

pub returns : goal.returns
returns c =
    let priorities : List ℤ = c.self.inside.priorities.items in
    let nodes : List ℕ = c.self.inside.nodes.items in
    let n : ℕ = length c.self.inside.priorities.items in
    let leaf : ℕ = c.if-takes_part.leaf in
    let count : c.len-count.result ≡ length c.self.inside.priorities.items = omega arith in
    let inside : c.args.number < length c.self.inside.priorities.items = omega (arith, c.requires, ap (λ (v : Contest). length v.priorities) c.self.view_is) in
    let taken : not (leaf == n) ≡ c.args.takes_part = elim c.if-takes_part.branch [
      | then-takes_part w ↦ ap (λ (k : ℕ). not (k == n)) w.leaf-is ∙ ap not (ne_eqb c.args.number n (λ e. omega (arith, e, inside))) ∙ sym w.if-takes_part.true
      | else-takes_part w ↦ ap (λ (k : ℕ). not (k == n)) w.leaf-is ∙ ap not (eq-eqb c.len-count.result n count) ∙ sym w.if-takes_part.false
    ] in
    let mid : c.deref_mut.result.now ≡ set nodes (n + c.args.number) leaf = c.deref_mut.ensures.value ∙ ap (λ (k : ℕ). set nodes (k + c.args.number) leaf) count in
    let same_priorities : c.deref.result.now ≡ priorities = c.deref.ensures.value in
    let places : length c.raise.new.nodes ≡ length c.deref_mut.result.now =
    omega (arith, c.raise.ensures.tree.places, c.requires, ap length same_priorities, ap length mid, length-set nodes (n + c.args.number) leaf, c.self.invariant.decided.places) in
    let kept = with_items_is (with_item c.self.inside.nodes (c.len-count.result + c.args.number) leaf) c.raise.new.nodes
    (omega (arith, places, ap length mid, length-set nodes (n + c.args.number) leaf, c.self.inside.nodes.ok.0)) in
    let below : (k : ℕ) → n ≤ k → get_or c.raise.new.nodes k 0 ≡ get_or c.deref_mut.result.now k 0 = λ k high. c.raise.ensures.leaves k (omega (arith, high, ap length same_priorities)) in
    let now : entered_in n c.raise.new.nodes ≡ set (entered_in n nodes) c.args.number c.args.takes_part =
    entered_same n c.deref_mut.result.now c.raise.new.nodes places below ∙ ap (entered_in n) mid ∙ entered-set n nodes c.args.number leaf c.args.takes_part taken in
    let make : List ℤ → List Bool → Contest = λ p e. record { priorities = p; entered = e } in
    ap (make priorities) (ap (entered_in n) kept ∙ now) ∙ ap (λ (v : Contest). make v.priorities (set v.entered c.args.number c.args.takes_part)) c.self.view_is
