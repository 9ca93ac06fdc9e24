use Rattle.ap_cli.proofs.JobFiles.{one_laid}
use Rattle.ap_cli.proofs.lay.lay.Goals as goal

pub loop-rest-preserved : goal.loop-rest-preserved
loop-rest-preserved c = λ things jobs are.
    one_laid things c.args.contents.now jobs _ c.push.new.self.items _ c.push-in-len1-up.new.self.items c.in_ok-file.file c.in_ok-file.id c.loop-rest.rest.now c.row-item.result c.in-len1-up.len_at_least c.row-item.is
    c.in_ok-push.ensures.items c.in_ok-push-2.ensures.items
    (c.in_ok-file.ensures.laid things) (c.in_ok-file.ensures.id things) (c.in_ok-file.ensures.made things) (c.loop-rest.invariant things jobs are)
