use Rattle.std.proofs.Common.{◌≡◌, ◌<◌, ◌↔◌, ℕ, true, false, List, length, get_or, Contains, sym, ◌∙◌, ap, subst, arith}
use Rattle.std.proofs.lemmas.List.{get_or_default}
use Rattle.ap_text.specs.declared.job_id.JobId.{JobId}
use Rattle.ap_graph.specs.Ids.{name_at}
use Rattle.std.specs.Bool.{IsTrue}
use Rattle.ap_graph.specs.Nodes.{IsOnCycle}
use Rattle.ap_graph.specs.Jobs.{GraphJob, is_job, nodes_of}
use Rattle.ap_graph.proofs.Graphs.{id_known, cycle_told, seen, length_cyclic}
use Rattle.ap_graph.proofs.graph.Graph.on_cycle.Goals as goal

pub place_of-requires-clause-has : goal.place_of-requires-clause-has
place_of-requires-clause-has c = subst (λ (l : List JobId). Contains l c.args.id.now) (sym c.deref.ensures.value)
    (id_known c.self.inside.ids.items c.self.inside.jobs.items c.self.inside.dependents c.self.inside.cyclic.items c.self.inside.progress.items c.self.inside.waiting.items c.self.inside.ready c.self.invariant.0 c.self.invariant.1 c.args.id.now
    (subst (λ (v : List GraphJob). is_job v c.args.id.now ≡ true) (sym c.self.view_is) c.requires))

pub returns : goal.returns
returns c =
    let i : ℕ = c.place_of.result in
    let ids = c.self.inside.ids.items in
    let within : i < length ids = subst (λ (l : List JobId). i < length l) c.deref.ensures.value c.place_of.ensures.within in
    let named : name_at ids i ≡ c.args.id.now = ap (λ (l : List JobId). name_at l i) (sym c.deref.ensures.value) ∙ c.place_of.ensures.named in
    let told = length_cyclic c.self.inside.ids.items c.self.inside.jobs.items c.self.inside.dependents c.self.inside.cyclic.items c.self.inside.progress.items c.self.inside.waiting.items c.self.inside.ready c.self.invariant.0 c.self.invariant.1 in
    let read : c.index.result.now ≡ get_or c.self.inside.cyclic.items i false = c.index.ensures ∙ get_or_default c.self.inside.cyclic.items i c.index.result.now false (omega (arith, told, within)) in
    let both = cycle_told c.self.inside.ids.items c.self.inside.jobs.items c.self.inside.dependents c.self.inside.cyclic.items c.self.inside.progress.items c.self.inside.waiting.items c.self.inside.ready c.self.invariant.0 c.self.invariant.1 i within in
    subst (λ (v : List GraphJob). IsTrue c.index.result.now ↔ IsOnCycle (nodes_of v) c.args.id.now) c.self.view_is
    (subst (λ (w : JobId). IsTrue c.index.result.now ↔ IsOnCycle (nodes_of (seen c.self.inside.ids.items c.self.inside.jobs.items c.self.inside.dependents c.self.inside.cyclic.items c.self.inside.progress.items c.self.inside.waiting.items c.self.inside.ready c.self.invariant.0 c.self.invariant.1)) w) named
    (λ t. both.0 (sym read ∙ t), λ o. read ∙ both.1 o))
