use Rattle.std.proofs.Common.{◌≡◌, ◌-◌, ℕ, List, [], Contains, Some, None, ap, ◌∙◌, sym, subst, length, get_or, take, drop, ⊎_elim}
use Rattle.std.specs.HashMap.{get}
use Rattle.ap_content.specs.Sound.{HasNode}
use Rattle.ap_content.proofs.Indexing.{eq}
use Rattle.ap_content.proofs.Members.{Contains-cons_cases, Contains-none}
use Rattle.ap_content.proofs.Totals.{cons-again, nothing-left}
use Rattle.ap_content.proofs.arena.Arena.find.Goals as goal
use Rattle.ap_content.proofs.arena.Arena.find.Goals.{in-Some+else-has_node, in_default}

pub loop-rest-preserved : goal.loop-rest-preserved
loop-rest-preserved c = λ d n has node.
    let rest = c.loop-rest.rest.now in
    let pad : List ℕ × ℕ = ([], 0) in
    let all = cons-again pad rest c.in-len1-up.len_at_least in
    ⊎_elim
    (λ same.
    let there : HasNode c.args.self.now.slots (get_or rest 0 pad).1 (record { tag = c.args.tag; text = c.args.text.now; kids = c.args.kids.now }) =
    subst (λ k. HasNode c.args.self.now.slots k (record { tag = c.args.tag; text = c.args.text.now; kids = c.args.kids.now })) (sym (ap (λ p. p.1) same)) node in
    let found = c.has_node-in-len1-up.ensures.1 there in
    absurd (cc))
    (λ later. later)
    (Contains-cons_cases (get_or rest 0 pad) (take (length rest - 1) (drop 1 rest)) (d, n) (subst (λ xs. Contains xs (d, n)) (sym all) (c.loop-rest.invariant d n has node)))

pub returns-clause-absent : goal.returns-clause-absent
returns-clause-absent c = λ n x e same node.
    ⊎_elim
    (λ f.
    let there : get eq c.args.self.now.index.first c.args.digest.now ≡ Some n = sym (ap (get eq c.args.self.now.index.first) same) ∙ f in
    let first : c.first.result ≡ Some n = c.first.ensures ∙ there in
    elim c.match-first.branch [
      | in-Some+else-has_node w ↦
          let one : Some w.in-Some.n ≡ Some n = sym w.in-Some.is ∙ first in
          let found = w.has_node.ensures.1 (subst (λ k. HasNode c.args.self.now.slots k (record { tag = c.args.tag; text = c.args.text.now; kids = c.args.kids.now })) (cc) (record { interned = x; there = e; same = node })) in
          absurd (cc)
      | in_default w ↦ let never : None ≡ Some n = sym w.in_default.is ∙ first in absurd (cc)
    ])
    (λ clash.
    let left = c.loop-rest.invariant x.digest n clash (record { interned = x; there = e; same = node }) in
    Contains-none _ (subst (λ xs. Contains xs (x.digest, n)) (nothing-left c.loop-rest.rest.now c.in_default-rest.len_below) left))
    (c.requires n x e)
