use Rattle.std.proofs.Common.{◌≡◌, ◌<◌, ℕ, Bool, true, List, length, get_or, Contains, sym, ◌∙◌, ap, subst, arith}
use Rattle.std.proofs.lemmas.List.{get_or_default}
use Rattle.ap_text.specs.declared.job_id.JobId.{JobId}
use Rattle.ap_graph.specs.Ids.{name_at}
use Rattle.ap_graph.specs.Jobs.{GraphJob, is_job, state_of}
use Rattle.ap_graph.specs.declared.node.Progress.TheVariants.{Pending, Issued, Settled}
use Rattle.ap_graph.specs.declared.node.State.TheVariants.{Waiting, Ready, Issued as IssuedState, Settled as SettledState}
use Rattle.std.proofs.lemmas.Bool.{eq-eqb, ne_eqb}
use Rattle.std.proofs.Common.{cond}
use Rattle.ap_graph.proofs.Graphs.{id_known, state_is, seen, length_progress, length_waiting}
use Rattle.ap_graph.proofs.graph.Graph.state.Goals as goal

pub place_of-place-requires-clause-has : goal.place_of-place-requires-clause-has
place_of-place-requires-clause-has c = subst (λ (l : List JobId). Contains l c.args.id.now) (sym c.deref.ensures.value)
    (id_known c.self.inside.ids.items c.self.inside.jobs.items c.self.inside.dependents c.self.inside.cyclic.items c.self.inside.progress.items c.self.inside.waiting.items c.self.inside.ready c.self.invariant.0 c.self.invariant.1 c.args.id.now
    (subst (λ (v : List GraphJob). is_job v c.args.id.now ≡ true) (sym c.self.view_is) c.requires))

pub returns-in-Issued : goal.returns-in-Issued
returns-in-Issued c =
    let i : ℕ = c.place_of-place.result in
    let ids = c.self.inside.ids.items in
    let within : i < length ids = subst (λ (l : List JobId). i < length l) c.deref.ensures.value c.place_of-place.ensures.within in
    let named : name_at ids i ≡ c.args.id.now = ap (λ (l : List JobId). name_at l i) (sym c.deref.ensures.value) ∙ c.place_of-place.ensures.named in
    let long : i < length c.self.inside.progress.items = omega (arith, length_progress c.self.inside.ids.items c.self.inside.jobs.items c.self.inside.dependents c.self.inside.cyclic.items c.self.inside.progress.items c.self.inside.waiting.items c.self.inside.ready c.self.invariant.0 c.self.invariant.1, within) in
    let stands : get_or c.self.inside.progress.items i Pending ≡ Issued = get_or_default c.self.inside.progress.items i Pending c.index.result.now long ∙ sym c.index.ensures ∙ c.in-Issued.is in
    sym (subst (λ (v : List GraphJob). state_of v c.args.id.now ≡ IssuedState) c.self.view_is
    (subst (λ (w : JobId). state_of (seen c.self.inside.ids.items c.self.inside.jobs.items c.self.inside.dependents c.self.inside.cyclic.items c.self.inside.progress.items c.self.inside.waiting.items c.self.inside.ready c.self.invariant.0 c.self.invariant.1) w ≡ IssuedState) named
    (state_is c.self.inside.ids.items c.self.inside.jobs.items c.self.inside.dependents c.self.inside.cyclic.items c.self.inside.progress.items c.self.inside.waiting.items c.self.inside.ready c.self.invariant.0 c.self.invariant.1 i Issued within stands)))

pub returns-in-Settled : goal.returns-in-Settled
returns-in-Settled c =
    let i : ℕ = c.place_of-place.result in
    let ids = c.self.inside.ids.items in
    let within : i < length ids = subst (λ (l : List JobId). i < length l) c.deref.ensures.value c.place_of-place.ensures.within in
    let named : name_at ids i ≡ c.args.id.now = ap (λ (l : List JobId). name_at l i) (sym c.deref.ensures.value) ∙ c.place_of-place.ensures.named in
    let long : i < length c.self.inside.progress.items = omega (arith, length_progress c.self.inside.ids.items c.self.inside.jobs.items c.self.inside.dependents c.self.inside.cyclic.items c.self.inside.progress.items c.self.inside.waiting.items c.self.inside.ready c.self.invariant.0 c.self.invariant.1, within) in
    let stands : get_or c.self.inside.progress.items i Pending ≡ Settled = get_or_default c.self.inside.progress.items i Pending c.index.result.now long ∙ sym c.index.ensures ∙ c.in-Settled.is in
    sym (subst (λ (v : List GraphJob). state_of v c.args.id.now ≡ SettledState) c.self.view_is
    (subst (λ (w : JobId). state_of (seen c.self.inside.ids.items c.self.inside.jobs.items c.self.inside.dependents c.self.inside.cyclic.items c.self.inside.progress.items c.self.inside.waiting.items c.self.inside.ready c.self.invariant.0 c.self.invariant.1) w ≡ SettledState) named
    (state_is c.self.inside.ids.items c.self.inside.jobs.items c.self.inside.dependents c.self.inside.cyclic.items c.self.inside.progress.items c.self.inside.waiting.items c.self.inside.ready c.self.invariant.0 c.self.invariant.1 i Settled within stands)))

pub returns-then-index-eq0 : goal.returns-then-index-eq0
returns-then-index-eq0 c =
    let i : ℕ = c.place_of-place.result in
    let ids = c.self.inside.ids.items in
    let within : i < length ids = subst (λ (l : List JobId). i < length l) c.deref.ensures.value c.place_of-place.ensures.within in
    let named : name_at ids i ≡ c.args.id.now = ap (λ (l : List JobId). name_at l i) (sym c.deref.ensures.value) ∙ c.place_of-place.ensures.named in
    let long : i < length c.self.inside.progress.items = omega (arith, length_progress c.self.inside.ids.items c.self.inside.jobs.items c.self.inside.dependents c.self.inside.cyclic.items c.self.inside.progress.items c.self.inside.waiting.items c.self.inside.ready c.self.invariant.0 c.self.invariant.1, within) in
    let stands : get_or c.self.inside.progress.items i Pending ≡ Pending = get_or_default c.self.inside.progress.items i Pending c.index.result.now long ∙ sym c.index.ensures ∙ c.in-Pending.is in
    let wide : i < length c.self.inside.waiting.items = omega (arith, length_waiting c.self.inside.ids.items c.self.inside.jobs.items c.self.inside.dependents c.self.inside.cyclic.items c.self.inside.progress.items c.self.inside.waiting.items c.self.inside.ready c.self.invariant.0 c.self.invariant.1, within) in
    let reads : c.index-in-Pending.result.now ≡ get_or c.self.inside.waiting.items i 0 = c.index-in-Pending.ensures ∙ get_or_default c.self.inside.waiting.items i c.index-in-Pending.result.now 0 wide in
    sym (subst (λ (v : List GraphJob). state_of v c.args.id.now ≡ Ready) c.self.view_is
    (subst (λ (w : JobId). state_of (seen c.self.inside.ids.items c.self.inside.jobs.items c.self.inside.dependents c.self.inside.cyclic.items c.self.inside.progress.items c.self.inside.waiting.items c.self.inside.ready c.self.invariant.0 c.self.invariant.1) w ≡ Ready) named
    (state_is c.self.inside.ids.items c.self.inside.jobs.items c.self.inside.dependents c.self.inside.cyclic.items c.self.inside.progress.items c.self.inside.waiting.items c.self.inside.ready c.self.invariant.0 c.self.invariant.1 i Pending within stands ∙ ap (λ (t : Bool). cond t Ready Waiting) (eq-eqb (get_or c.self.inside.waiting.items i 0) 0 (sym reads ∙ c.if-index-eq0.true)))))

pub returns-else-index-eq0 : goal.returns-else-index-eq0
returns-else-index-eq0 c =
    let i : ℕ = c.place_of-place.result in
    let ids = c.self.inside.ids.items in
    let within : i < length ids = subst (λ (l : List JobId). i < length l) c.deref.ensures.value c.place_of-place.ensures.within in
    let named : name_at ids i ≡ c.args.id.now = ap (λ (l : List JobId). name_at l i) (sym c.deref.ensures.value) ∙ c.place_of-place.ensures.named in
    let long : i < length c.self.inside.progress.items = omega (arith, length_progress c.self.inside.ids.items c.self.inside.jobs.items c.self.inside.dependents c.self.inside.cyclic.items c.self.inside.progress.items c.self.inside.waiting.items c.self.inside.ready c.self.invariant.0 c.self.invariant.1, within) in
    let stands : get_or c.self.inside.progress.items i Pending ≡ Pending = get_or_default c.self.inside.progress.items i Pending c.index.result.now long ∙ sym c.index.ensures ∙ c.in-Pending.is in
    let wide : i < length c.self.inside.waiting.items = omega (arith, length_waiting c.self.inside.ids.items c.self.inside.jobs.items c.self.inside.dependents c.self.inside.cyclic.items c.self.inside.progress.items c.self.inside.waiting.items c.self.inside.ready c.self.invariant.0 c.self.invariant.1, within) in
    let reads : c.index-in-Pending.result.now ≡ get_or c.self.inside.waiting.items i 0 = c.index-in-Pending.ensures ∙ get_or_default c.self.inside.waiting.items i c.index-in-Pending.result.now 0 wide in
    sym (subst (λ (v : List GraphJob). state_of v c.args.id.now ≡ Waiting) c.self.view_is
    (subst (λ (w : JobId). state_of (seen c.self.inside.ids.items c.self.inside.jobs.items c.self.inside.dependents c.self.inside.cyclic.items c.self.inside.progress.items c.self.inside.waiting.items c.self.inside.ready c.self.invariant.0 c.self.invariant.1) w ≡ Waiting) named
    (state_is c.self.inside.ids.items c.self.inside.jobs.items c.self.inside.dependents c.self.inside.cyclic.items c.self.inside.progress.items c.self.inside.waiting.items c.self.inside.ready c.self.invariant.0 c.self.invariant.1 i Pending within stands ∙ ap (λ (t : Bool). cond t Ready Waiting) (ne_eqb (get_or c.self.inside.waiting.items i 0) 0 (λ e. omega (arith, e, reads))))))
