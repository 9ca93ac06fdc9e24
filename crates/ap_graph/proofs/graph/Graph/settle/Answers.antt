use Rattle.std.proofs.Common.{◌≡◌, ◌<◌, ℕ, true, false, List, length, get_or, set, Contains, sym, ◌∙◌, ap, subst, arith}
use Rattle.std.proofs.lemmas.List.{get_or_default}
use Rattle.ap_text.specs.declared.job_id.JobId.{JobId}
use Rattle.ap_graph.specs.Ids.{name_at}
use Rattle.std.proofs.Common.{◌≤◌, ◌+◌, All}
use Rattle.std.proofs.lemmas.List.{with_items_is}
use Rattle.ap_graph.specs.declared.node.Progress.{Progress}
use Rattle.ap_graph.specs.declared.node.Progress.TheVariants.{Pending, Settled}
use Rattle.ap_graph.specs.Contest.{Contest}
use Rattle.ap_graph.specs.Rows.{row_at, count_of}
use Rattle.ap_graph.specs.Jobs.{GraphJob, is_job, has_settled, with_progress}
use Rattle.ap_graph.specs.Held.{MatchesWaits, IsCount}
use Rattle.ap_graph.proofs.Graphs.{id_known, length_progress, settled_by, settled_stays, changes_told, dependents_within, dependents_enough, settle_matches, settle_keeps, seen}
use Rattle.ap_graph.proofs.graph.Graph.settle.Goals as goal

pub place_of-place-requires-clause-has : goal.place_of-place-requires-clause-has
place_of-place-requires-clause-has c = subst (λ (l : List JobId). Contains l c.args.id.now) (sym c.deref.ensures.value)
    (id_known c.self.inside.ids.items c.self.inside.jobs.items c.self.inside.dependents c.self.inside.cyclic.items c.self.inside.progress.items c.self.inside.waiting.items c.self.inside.ready c.self.invariant.0 c.self.invariant.1 c.args.id.now
    (subst (λ (v : List GraphJob). is_job v c.args.id.now ≡ true) (sym c.self.view_is) c.requires.known))

pub returns-then-is_settled : goal.returns-then-is_settled
returns-then-is_settled c =
    let i : ℕ = c.place_of-place.result in
    let ids = c.self.inside.ids.items in
    let within : i < length ids = subst (λ (l : List JobId). i < length l) c.deref.ensures.value c.place_of-place.ensures.within in
    let named : name_at ids i ≡ c.args.id.now = ap (λ (l : List JobId). name_at l i) (sym c.deref.ensures.value) ∙ c.place_of-place.ensures.named in
    let long : i < length c.self.inside.progress.items = omega (arith, length_progress c.self.inside.ids.items c.self.inside.jobs.items c.self.inside.dependents c.self.inside.cyclic.items c.self.inside.progress.items c.self.inside.waiting.items c.self.inside.ready c.self.invariant.0 c.self.invariant.1, within) in
    let stands : get_or c.self.inside.progress.items i Pending ≡ c.index.result.now = get_or_default c.self.inside.progress.items i Pending c.index.result.now long ∙ sym c.index.ensures in
    let done : get_or c.self.inside.progress.items i Pending ≡ Settled = settled_by (get_or c.self.inside.progress.items i Pending) (ap has_settled stands ∙ sym c.is_settled.ensures ∙ c.if-is_settled.true) in
    subst (λ (v : List GraphJob). v ≡ with_progress c.args.id.now Settled v) c.self.view_is
    (settled_stays c.self.inside.ids.items c.self.inside.jobs.items c.self.inside.dependents c.self.inside.cyclic.items c.self.inside.progress.items c.self.inside.waiting.items c.self.inside.ready c.self.invariant.0 c.self.invariant.1 i within done ∙ ap (λ (w : JobId). with_progress w Settled (seen c.self.inside.ids.items c.self.inside.jobs.items c.self.inside.dependents c.self.inside.cyclic.items c.self.inside.progress.items c.self.inside.waiting.items c.self.inside.ready c.self.invariant.0 c.self.invariant.1)) named)

pub release-requires-clause-within : goal.release-requires-clause-within
release-requires-clause-within c =
    subst (λ (w : List ℕ). All (λ place. place < length w) c.row.result.now) (sym c.deref_mut.ensures.value)
    (subst (λ (r : List ℕ). All (λ place. place < length c.self.inside.waiting.items) r) (sym c.row.ensures) (dependents_within c.self.inside.ids.items c.self.inside.jobs.items c.self.inside.dependents c.self.inside.cyclic.items c.self.inside.progress.items c.self.inside.waiting.items c.self.inside.ready c.self.invariant.0 c.self.invariant.1 c.place_of-place.result))

pub release-requires-clause-enough : goal.release-requires-clause-enough
release-requires-clause-enough c =
    let i : ℕ = c.place_of-place.result in
    let ids = c.self.inside.ids.items in
    let within : i < length ids = subst (λ (l : List JobId). i < length l) c.deref.ensures.value c.place_of-place.ensures.within in
    let named : name_at ids i ≡ c.args.id.now = ap (λ (l : List JobId). name_at l i) (sym c.deref.ensures.value) ∙ c.place_of-place.ensures.named in
    let long : i < length c.self.inside.progress.items = omega (arith, length_progress c.self.inside.ids.items c.self.inside.jobs.items c.self.inside.dependents c.self.inside.cyclic.items c.self.inside.progress.items c.self.inside.waiting.items c.self.inside.ready c.self.invariant.0 c.self.invariant.1, within) in
    let stands : get_or c.self.inside.progress.items i Pending ≡ c.index.result.now = get_or_default c.self.inside.progress.items i Pending c.index.result.now long ∙ sym c.index.ensures in
    let still : has_settled (get_or c.self.inside.progress.items i Pending) ≡ false = ap has_settled stands ∙ sym c.is_settled.ensures ∙ c.if-is_settled.false in
    subst (λ (w : List ℕ). (k : ℕ) → k < length w → count_of k c.row.result.now ≤ get_or w k 0) (sym c.deref_mut.ensures.value)
    (subst (λ (r : List ℕ). (k : ℕ) → k < length c.self.inside.waiting.items → count_of k r ≤ get_or c.self.inside.waiting.items k 0) (sym c.row.ensures)
    (dependents_enough c.self.inside.ids.items c.self.inside.jobs.items c.self.inside.dependents c.self.inside.cyclic.items c.self.inside.progress.items c.self.inside.waiting.items c.self.inside.ready c.self.invariant.0 c.self.invariant.1 i within still))

pub release-requires-clause-entered : goal.release-requires-clause-entered
release-requires-clause-entered c =
    let i : ℕ = c.place_of-place.result in
    let ids = c.self.inside.ids.items in
    let within : i < length ids = subst (λ (l : List JobId). i < length l) c.deref.ensures.value c.place_of-place.ensures.within in
    let named : name_at ids i ≡ c.args.id.now = ap (λ (l : List JobId). name_at l i) (sym c.deref.ensures.value) ∙ c.place_of-place.ensures.named in
    let long : i < length c.self.inside.progress.items = omega (arith, length_progress c.self.inside.ids.items c.self.inside.jobs.items c.self.inside.dependents c.self.inside.cyclic.items c.self.inside.progress.items c.self.inside.waiting.items c.self.inside.ready c.self.invariant.0 c.self.invariant.1, within) in
    let stands : get_or c.self.inside.progress.items i Pending ≡ c.index.result.now = get_or_default c.self.inside.progress.items i Pending c.index.result.now long ∙ sym c.index.ensures in
    let still : has_settled (get_or c.self.inside.progress.items i Pending) ≡ false = ap has_settled stands ∙ sym c.is_settled.ensures ∙ c.if-is_settled.false in
    subst (λ (p : List Progress). MatchesWaits p c.deref_mut.result.now c.set.new.self.entered) (sym c.deref-2.ensures.value)
    (subst (λ (w : List ℕ). MatchesWaits (set c.self.inside.progress.items i Settled) w c.set.new.self.entered) (sym c.deref_mut.ensures.value)
    (subst (λ (r : Contest). MatchesWaits (set c.self.inside.progress.items i Settled) c.self.inside.waiting.items r.entered) (sym c.set.ensures)
    (settle_matches c.self.inside.ids.items c.self.inside.jobs.items c.self.inside.dependents c.self.inside.cyclic.items c.self.inside.progress.items c.self.inside.waiting.items c.self.inside.ready c.self.invariant.0 c.self.invariant.1 i within still)))

pub invariant_of-self : goal.invariant_of-self
invariant_of-self c =
    let i : ℕ = c.place_of-place.result in
    let ids = c.self.inside.ids.items in
    let within : i < length ids = subst (λ (l : List JobId). i < length l) c.deref.ensures.value c.place_of-place.ensures.within in
    let named : name_at ids i ≡ c.args.id.now = ap (λ (l : List JobId). name_at l i) (sym c.deref.ensures.value) ∙ c.place_of-place.ensures.named in
    let long : i < length c.self.inside.progress.items = omega (arith, length_progress c.self.inside.ids.items c.self.inside.jobs.items c.self.inside.dependents c.self.inside.cyclic.items c.self.inside.progress.items c.self.inside.waiting.items c.self.inside.ready c.self.invariant.0 c.self.invariant.1, within) in
    let stands : get_or c.self.inside.progress.items i Pending ≡ c.index.result.now = get_or_default c.self.inside.progress.items i Pending c.index.result.now long ∙ sym c.index.ensures in
    let still : has_settled (get_or c.self.inside.progress.items i Pending) ≡ false = ap has_settled stands ∙ sym c.is_settled.ensures ∙ c.if-is_settled.false in
    let value : c.deref_mut.result.now ≡ c.self.inside.waiting.items = c.deref_mut.ensures.value in
    let places : length c.release.new.waiting ≡ length c.self.inside.waiting.items = c.release.auto.waiting ∙ ap length value in
    let kept = with_items_is c.self.inside.waiting c.release.new.waiting (omega (arith, places, c.self.inside.waiting.ok.0)) in
    let released : (k : ℕ) → k < length c.self.inside.waiting.items → get_or c.release.new.waiting k 0 + count_of k (row_at c.self.inside.dependents i) ≡ get_or c.self.inside.waiting.items k 0 = λ k in_k.
    ap (λ (r : List ℕ). get_or c.release.new.waiting k 0 + count_of k r) (sym c.row.ensures) ∙ c.release.ensures.waiting k (omega (arith, in_k, ap length value)) ∙ ap (λ (w : List ℕ). get_or w k 0) value in
    let matches = subst (λ (p : List Progress). MatchesWaits p c.release.new.waiting c.release.new.ready.entered) c.deref-2.ensures.value c.release.ensures.entered in
    let priorities = c.release.ensures.priorities ∙ ap (λ (r : Contest). r.priorities) c.set.ensures in (
      c.self.invariant.0,
      subst (λ (w : List ℕ). IsCount c.self.inside.jobs.items (set c.self.inside.progress.items i Settled) w c.release.new.ready) (sym kept)
          (settle_keeps c.self.inside.ids.items c.self.inside.jobs.items c.self.inside.dependents c.self.inside.cyclic.items c.self.inside.progress.items c.self.inside.waiting.items c.self.inside.ready c.self.invariant.0 c.self.invariant.1 i within still c.release.new.waiting c.release.new.ready places released priorities matches),
    )

pub returns : goal.returns
returns c =
    let i : ℕ = c.place_of-place.result in
    let ids = c.self.inside.ids.items in
    let within : i < length ids = subst (λ (l : List JobId). i < length l) c.deref.ensures.value c.place_of-place.ensures.within in
    let named : name_at ids i ≡ c.args.id.now = ap (λ (l : List JobId). name_at l i) (sym c.deref.ensures.value) ∙ c.place_of-place.ensures.named in
    let long : i < length c.self.inside.progress.items = omega (arith, length_progress c.self.inside.ids.items c.self.inside.jobs.items c.self.inside.dependents c.self.inside.cyclic.items c.self.inside.progress.items c.self.inside.waiting.items c.self.inside.ready c.self.invariant.0 c.self.invariant.1, within) in
    let stands : get_or c.self.inside.progress.items i Pending ≡ c.index.result.now = get_or_default c.self.inside.progress.items i Pending c.index.result.now long ∙ sym c.index.ensures in
    changes_told c.self.inside.ids.items c.self.inside.jobs.items c.self.inside.dependents c.self.inside.cyclic.items c.self.inside.progress.items c.self.inside.waiting.items c.self.inside.ready c.self.invariant.0 c.self.invariant.1 i Settled within ∙ ap (λ (w : JobId). with_progress w Settled (seen c.self.inside.ids.items c.self.inside.jobs.items c.self.inside.dependents c.self.inside.cyclic.items c.self.inside.progress.items c.self.inside.waiting.items c.self.inside.ready c.self.invariant.0 c.self.invariant.1)) named ∙ ap (with_progress c.args.id.now Settled) c.self.view_is
