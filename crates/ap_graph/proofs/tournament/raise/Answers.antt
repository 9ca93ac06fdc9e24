use Rattle.std.proofs.Common.{◌<◌, ℕ, length, set, ◌∙◌, ap, arith}
use Rattle.std.proofs.lemmas.List.{get_or-set_other}
use Rattle.ap_graph.proofs.Contests.{decided}
use Rattle.ap_graph.proofs.tournament.raise.Goals as goal

pub loop-at-preserved : goal.loop-at-preserved
loop-at-preserved c =
    let places = c.loop-at.invariant.tree.places in
    let inside : c.loop-at.at < length c.args.priorities.now = omega (arith, places, c.loop-at.invariant.inside, c.requires.tree.places, c.requires.from) in
    record {
      tree = decided c.args.priorities.now c.loop-at.nodes _ c.loop-at.at (omega arith) inside (ap (λ (w : ℕ). set c.loop-at.nodes c.loop-at.at w) c.winner.ensures) c.loop-at.invariant.tree;
      inside = omega (arith, c.loop-at.invariant.inside);
      leaves = λ k high. get_or-set_other c.loop-at.nodes c.loop-at.at k c.winner.result 0 (λ e. omega (arith, e, high)) ∙ c.loop-at.invariant.leaves k high;
    }
