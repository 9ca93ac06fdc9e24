use Rattle.std.proofs.Common.{◌≡◌, ◌<◌, ◌≤◌, ℕ, true, false, length, get_or, sym, ◌∙◌, ap, subst, arith}
use Rattle.ap_graph.specs.Contest.{Contest, entered_in, goes_before}
use Rattle.ap_graph.proofs.Contests.{nobody, root_entered, root_goes_first}
use Rattle.ap_graph.proofs.tournament.Tournament.first.Goals as goal

pub returns-in-Some-clause-entered : goal.returns-in-Some-clause-entered
returns-in-Some-clause-entered c =
    let root : get_or c.self.inside.nodes.items 1 0 ≡ c.in-Some.first.now = ap (λ l. get_or l 1 0) (sym c.deref.ensures.value) ∙ sym (c.in-Some.ensures.lookup.3.1 0) in
    let low : get_or c.self.inside.nodes.items 1 0 < length c.self.inside.priorities.items = omega (arith, root) in
    subst (λ (v : Contest). get_or v.entered c.in-Some.first.now false ≡ true) c.self.view_is
    (subst (λ (w : ℕ). get_or (entered_in (length c.self.inside.priorities.items) c.self.inside.nodes.items) w false ≡ true) root
    (root_entered c.self.inside.priorities.items c.self.inside.nodes.items c.self.invariant low))

pub returns-in-Some-clause-first : goal.returns-in-Some-clause-first
returns-in-Some-clause-first c =
    let root : get_or c.self.inside.nodes.items 1 0 ≡ c.in-Some.first.now = ap (λ l. get_or l 1 0) (sym c.deref.ensures.value) ∙ sym (c.in-Some.ensures.lookup.3.1 0) in
    subst (λ (v : Contest). (j : ℕ) → j < length v.priorities → get_or v.entered j false ≡ true → goes_before v.priorities j c.in-Some.first.now ≡ false) c.self.view_is
    (subst (λ (w : ℕ). (j : ℕ) → j < length c.self.inside.priorities.items → get_or (entered_in (length c.self.inside.priorities.items) c.self.inside.nodes.items) j false ≡ true →
    goes_before c.self.inside.priorities.items j w ≡ false) root
    (root_goes_first c.self.inside.priorities.items c.self.inside.nodes.items c.self.invariant))

pub returns-in_default-clause-none : goal.returns-in_default-clause-none
returns-in_default-clause-none c =
    let root : get_or c.self.inside.nodes.items 1 0 ≡ c.in-Some.first.now = ap (λ l. get_or l 1 0) (sym c.deref.ensures.value) ∙ sym (c.in-Some.ensures.lookup.3.1 0) in
    let there : 1 < length c.self.inside.nodes.items = omega (arith, c.in-Some.ensures.lookup.3.0, ap length c.deref.ensures.value) in
    let small : get_or c.self.inside.nodes.items 1 0 ≤ length c.self.inside.priorities.items = c.self.invariant.decided.low 1 0 there in
    let none : get_or c.self.inside.nodes.items 1 0 ≡ length c.self.inside.priorities.items = omega (arith, root) in
    subst (λ (v : Contest). (i : ℕ) → i < length v.priorities → get_or v.entered i false ≡ false) c.self.view_is
    (nobody c.self.inside.priorities.items c.self.inside.nodes.items c.self.invariant none)
