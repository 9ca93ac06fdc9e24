use Rattle.std.proofs.Common.{◌≡◌, ◌<◌, ℕ, List, length, set, Contains, sym, ◌∙◌, ap, subst}
use Rattle.ap_text.specs.declared.job_id.JobId.{JobId}
use Rattle.ap_graph.specs.Ids.{name_at}
use Rattle.ap_graph.specs.declared.node.State.TheVariants.{Ready}
use Rattle.ap_graph.specs.Jobs.{GraphJob, state_of, with_progress}
use Rattle.ap_graph.specs.declared.node.Progress.TheVariants.{Issued}
use Rattle.ap_graph.specs.Contest.{Contest}
use Rattle.ap_graph.specs.Held.{IsCount}
use Rattle.ap_graph.proofs.Graphs.{id_known, ready_is_job, issue_keeps, changes_told, seen}
use Rattle.ap_graph.proofs.graph.Graph.issue.Goals as goal

pub place_of-place-requires-clause-has : goal.place_of-place-requires-clause-has
place_of-place-requires-clause-has c = subst (λ (l : List JobId). Contains l c.args.id.now) (sym c.deref.ensures.value)
    (id_known c.self.inside.ids.items c.self.inside.jobs.items c.self.inside.dependents c.self.inside.cyclic.items c.self.inside.progress.items c.self.inside.waiting.items c.self.inside.ready c.self.invariant.0 c.self.invariant.1 c.args.id.now
    (ready_is_job _ c.args.id.now (subst (λ (v : List GraphJob). state_of v c.args.id.now ≡ Ready) (sym c.self.view_is) c.requires)))

pub invariant_of-self : goal.invariant_of-self
invariant_of-self c =
    let i : ℕ = c.place_of-place.result in
    let ids = c.self.inside.ids.items in
    let within : i < length ids = subst (λ (l : List JobId). i < length l) c.deref.ensures.value c.place_of-place.ensures.within in
    let named : name_at ids i ≡ c.args.id.now = ap (λ (l : List JobId). name_at l i) (sym c.deref.ensures.value) ∙ c.place_of-place.ensures.named in
    let is_ready : state_of (seen c.self.inside.ids.items c.self.inside.jobs.items c.self.inside.dependents c.self.inside.cyclic.items c.self.inside.progress.items c.self.inside.waiting.items c.self.inside.ready c.self.invariant.0 c.self.invariant.1) (name_at ids i) ≡ Ready =
    subst (λ (w : JobId). state_of (seen c.self.inside.ids.items c.self.inside.jobs.items c.self.inside.dependents c.self.inside.cyclic.items c.self.inside.progress.items c.self.inside.waiting.items c.self.inside.ready c.self.invariant.0 c.self.invariant.1) w ≡ Ready) (sym named)
    (subst (λ (v : List GraphJob). state_of v c.args.id.now ≡ Ready) (sym c.self.view_is) c.requires) in (
      c.self.invariant.0,
      subst (λ (r : Contest). IsCount c.self.inside.jobs.items (set c.self.inside.progress.items i Issued) c.self.inside.waiting.items r) (sym c.set.ensures)
          (issue_keeps c.self.inside.ids.items c.self.inside.jobs.items c.self.inside.dependents c.self.inside.cyclic.items c.self.inside.progress.items c.self.inside.waiting.items c.self.inside.ready c.self.invariant.0 c.self.invariant.1 i within is_ready),
    )

pub returns : goal.returns
returns c =
    let i : ℕ = c.place_of-place.result in
    let ids = c.self.inside.ids.items in
    let within : i < length ids = subst (λ (l : List JobId). i < length l) c.deref.ensures.value c.place_of-place.ensures.within in
    let named : name_at ids i ≡ c.args.id.now = ap (λ (l : List JobId). name_at l i) (sym c.deref.ensures.value) ∙ c.place_of-place.ensures.named in
    changes_told c.self.inside.ids.items c.self.inside.jobs.items c.self.inside.dependents c.self.inside.cyclic.items c.self.inside.progress.items c.self.inside.waiting.items c.self.inside.ready c.self.invariant.0 c.self.invariant.1 i Issued within ∙ ap (λ (w : JobId). with_progress w Issued (seen c.self.inside.ids.items c.self.inside.jobs.items c.self.inside.dependents c.self.inside.cyclic.items c.self.inside.progress.items c.self.inside.waiting.items c.self.inside.ready c.self.invariant.0 c.self.invariant.1)) named ∙ ap (with_progress c.args.id.now Issued) c.self.view_is
