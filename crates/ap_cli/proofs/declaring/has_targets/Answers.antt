use Rattle.ap_engine.specs.Asked.{meanings_of}
use Rattle.ap_cli.proofs.Targeting.{after_targeted, targeted_after}
use Rattle.ap_cli.proofs.declaring.has_targets.Goals as goal

pub loop-rest-preserved : goal.loop-rest-preserved
loop-rest-preserved g c =
    let builders = meanings_of g.B.Builders.declares g.B.Builders.creates g.B.Builders.makes in
    let winner = c.winner-item.result in
    record {
      of_rest = λ targeted. c.loop-rest.invariant.of_rest (after_targeted builders c.args.config.now c.loop-rest.rest.now winner c.in-len1-up.len_at_least c.winner-item.is targeted);
      in_rest = λ targeted. targeted_after builders c.args.config.now c.loop-rest.rest.now winner c.in-len1-up.len_at_least c.winner-item.is
          (c.in_ok-is_targeted.ensures.none c.if-branch.false) (c.loop-rest.invariant.in_rest targeted);
    }
