use Rattle.std.proofs.Common.{◌≡◌, ℕ, List, length, map, replicate, sym, ◌∙◌, ap, subst, arith}
use Rattle.ap_graph.specs.declared.job.Job.{Job}
use Rattle.ap_graph.specs.declared.node.Progress.{Progress}
use Rattle.ap_graph.specs.declared.node.Progress.TheVariants.{Pending}
use Rattle.ap_graph.specs.Contest.{Contest}
use Rattle.ap_graph.specs.Rows.{IsClosed, IsReverse}
use Rattle.ap_graph.specs.Groups.{TellsCycles}
use Rattle.ap_graph.specs.Held.{all_targets, all_waits, MatchesWaits}
use Rattle.ap_graph.proofs.Graphs.{targets_closed, waits_closed, count_starts}
use Rattle.ap_graph.proofs.graph.Graph.of.Goals as goal

pub cycles-requires : goal.cycles-requires
cycles-requires c = subst (λ (l : List (List ℕ)). IsClosed l) (sym (c.in_ok-edge_arrows.ensures ∙ ap all_targets c.deref.ensures.value)) (targets_closed (length c.args.ids.items) c.args.jobs.items c.requires.places c.requires.within)

pub reverse-requires : goal.reverse-requires
reverse-requires c = subst (λ (l : List (List ℕ)). IsClosed l) (sym (c.in_ok-waits.ensures ∙ ap all_waits c.deref-2.ensures.value)) (waits_closed (length c.args.ids.items) c.args.jobs.items c.requires.places c.requires.within)

pub invariant_of-result : goal.invariant_of-result
invariant_of-result c =
    let jobs = c.args.jobs.items in
    let waits : c.in_ok-waits.waits ≡ all_waits c.args.jobs.items = c.in_ok-waits.ensures ∙ ap all_waits c.deref-2.ensures.value in
    let targets : c.in_ok-edge_arrows.field-0 ≡ all_targets c.args.jobs.items = c.in_ok-edge_arrows.ensures ∙ ap all_targets c.deref.ensures.value in
    let counts : c.in_ok-waiting.waiting.items ≡ map length (all_waits c.args.jobs.items) = c.in_ok-waiting.ensures ∙ ap (map length) waits in
    let all : c.len.result ≡ length c.args.jobs.items = omega arith in
    let pending : c.in_ok-progress.progress.items ≡ replicate (length c.args.jobs.items) Pending =
    c.in_ok-progress.ensures.items_if_clones_equal (λ y e. e) ∙ ap (λ (n : ℕ). replicate n Pending) all in
    let priorities : c.enter_free.new.ready.priorities ≡ map (λ job. job.priority) c.args.jobs.items =
    c.enter_free.ensures.priorities ∙ ap (λ (r : Contest). r.priorities) c.in_ok-ready.ensures ∙ c.in_ok-priorities.ensures ∙ ap (map (λ (job : Job). job.priority)) c.deref-3.ensures.value in
    let matches : MatchesWaits c.in_ok-progress.progress.items c.in_ok-waiting.waiting.items c.enter_free.new.ready.entered =
    subst (λ (p : List Progress). MatchesWaits p c.in_ok-waiting.waiting.items c.enter_free.new.ready.entered) c.deref-5.ensures.value
    (subst (λ (w : List ℕ). MatchesWaits c.deref-5.result.now w c.enter_free.new.ready.entered) c.deref-4.ensures.value c.enter_free.ensures.entered) in (
      record {
        rises = c.requires.rises;
        places = c.requires.places;
        within = c.requires.within;
        reversed = subst (λ (l : List (List ℕ)). IsReverse l c.in_ok-dependents.dependents) waits c.in_ok-dependents.ensures;
        cycles = subst (λ (l : List (List ℕ)). TellsCycles l c.in_ok-cyclic.cyclic.items) targets c.in_ok-cyclic.ensures;
      },
      count_starts c.args.jobs.items c.in_ok-progress.progress.items c.in_ok-waiting.waiting.items c.enter_free.new.ready pending counts priorities matches,
    )
