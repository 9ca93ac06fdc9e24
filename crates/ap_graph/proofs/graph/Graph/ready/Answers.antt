use Rattle.std.proofs.Common.{◌≡◌, ◌<◌, ℕ, List, length, Contains, sym, ◌∙◌, subst, arith}
use Rattle.std.proofs.lemmas.List.{get_or_default}
use Rattle.ap_text.specs.declared.job_id.JobId.{JobId}
use Rattle.ap_graph.specs.Ids.{name_at}
use Rattle.ap_graph.specs.Jobs.{GraphJob, state_of, IsNext}
use Rattle.ap_graph.specs.Ids.{nobody}
use Rattle.ap_graph.specs.declared.node.State.TheVariants.{Ready}
use Rattle.std.proofs.Common.{◌≢◌}
use Rattle.ap_graph.proofs.Graphs.{next_told, none_told, seen, length-priorities}
use Rattle.ap_graph.proofs.graph.Graph.ready.Goals as goal

pub returns-in-Some-clause-next : goal.returns-in-Some-clause-next
returns-in-Some-clause-next c =
    let i : ℕ = c.in-Some.place in
    let ids = c.self.inside.ids.items in
    let within : i < length ids = omega (arith, c.in-Some.ensures.within, length-priorities c.self.inside.ids.items c.self.inside.jobs.items c.self.inside.dependents c.self.inside.cyclic.items c.self.inside.progress.items c.self.inside.waiting.items c.self.inside.ready c.self.invariant.0 c.self.invariant.1) in
    let read : c.index.result.now ≡ name_at ids i = c.index.ensures ∙ get_or_default ids i c.index.result.now nobody within in
    subst (λ (v : List GraphJob). IsNext v c.index.result.now) c.self.view_is
    (subst (λ (w : JobId). IsNext (seen c.self.inside.ids.items c.self.inside.jobs.items c.self.inside.dependents c.self.inside.cyclic.items c.self.inside.progress.items c.self.inside.waiting.items c.self.inside.ready c.self.invariant.0 c.self.invariant.1) w) (sym read)
    (next_told c.self.inside.ids.items c.self.inside.jobs.items c.self.inside.dependents c.self.inside.cyclic.items c.self.inside.progress.items c.self.inside.waiting.items c.self.inside.ready c.self.invariant.0 c.self.invariant.1 i within c.in-Some.ensures.entered c.in-Some.ensures.first))

pub returns-in-None-clause-none : goal.returns-in-None-clause-none
returns-in-None-clause-none c = subst (λ (v : List GraphJob). (job : GraphJob) → Contains v job → state_of v job.node.id ≢ Ready) c.self.view_is
    (none_told c.self.inside.ids.items c.self.inside.jobs.items c.self.inside.dependents c.self.inside.cyclic.items c.self.inside.progress.items c.self.inside.waiting.items c.self.inside.ready c.self.invariant.0 c.self.invariant.1 c.in-None.ensures.none)
