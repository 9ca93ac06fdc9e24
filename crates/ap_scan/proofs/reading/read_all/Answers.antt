use Rattle.std.proofs.Common.{rules}
use Rattle.ap_scan.specs.Winners.{Files}
use Rattle.ap_scan.specs.Limits.{first_over, all_seen}
use Rattle.ap_scan.specs.Reads.{winners_in, those_there}
use Rattle.ap_scan.proofs.ReadSteps.{read-step, limit-step, rises-step, folded-step, there-step, few-step, small-step}
use Rattle.ap_scan.proofs.reading.read_all.Goals as goal

pub loop-candidate-preserved : goal.loop-candidate-preserved
loop-candidate-preserved g c =
    let next = c.in-Some.ensures.steps.0 in
    let before = c.loop-candidate.invariant in
    record {
      read = rw c.in_ok-keep.ensures (read-step (g.T.Tree.files c.args.tree.now) (g.T.Tree.files c.loop-candidate.tree) c.in-Some.candidate c.next.new.self.rest.items c.loop-candidate.candidate-iterator.rest.items c.in-Ok.seen
          before.same next c.in-Ok.ensures.seen c.loop-candidate.winners.items (λ (files : Files). those_there (winners_in files c.args.candidates.items)) before.read);
      limit = limit-step (g.T.Tree.files c.args.tree.now) (g.T.Tree.files c.loop-candidate.tree) c.in-Some.candidate c.next.new.self.rest.items c.loop-candidate.candidate-iterator.rest.items c.in-Ok.seen
          before.same next c.in-Ok.ensures.seen c.loop-candidate.total c.in-Ok-total_with.total (λ (files : Files). first_over 0 (all_seen (winners_in files c.args.candidates.items)))
          c.in-Ok-total_with.ensures.sum c.in-Ok-total_with.ensures.within before.limit;
      rises = λ rise. rw c.in_ok-keep.ensures (rises-step c.loop-candidate.winners.items c.in-Some.candidate c.in-Ok.seen c.next.new.self.rest.items c.loop-candidate.candidate-iterator.rest.items next (before.rises rise));
      folded = λ folded. (folded-step c.in-Some.candidate c.next.new.self.rest.items c.loop-candidate.candidate-iterator.rest.items next (before.folded folded)).1;
      there = λ folded. rw c.in_ok-keep.ensures (there-step c.loop-candidate.winners.items c.in-Some.candidate c.in-Ok.seen
          (folded-step c.in-Some.candidate c.next.new.self.rest.items c.loop-candidate.candidate-iterator.rest.items next (before.folded folded)).0 (before.there folded));
      fewer = rw c.in_ok-keep.ensures (few-step c.loop-candidate.winners.items c.in-Some.candidate c.in-Ok.seen c.next.new.self.rest.items c.loop-candidate.candidate-iterator.rest.items _ next before.fewer);
      small = rw c.in_ok-keep.ensures (small-step c.loop-candidate.winners.items c.in-Some.candidate c.in-Ok.seen c.loop-candidate.total c.in-Ok-total_with.total c.in-Ok-total_with.ensures.sum before.small);
      within = c.in-Ok-total_with.ensures.within;
      same = search rules;
      later = search rules;
    }
