use Rattle.std.proofs.Common.{◌≡◌, Some}
use Rattle.std.specs.HashMap.{get}
use Rattle.ap_content.proofs.Indexing.{eq, taken_still, taken_only}
use Rattle.ap_content.proofs.index.forget_first.Goals as goal

pub returns-then-m-n-clause-still : goal.returns-then-m-n-clause-still
returns-then-m-n-clause-still c = λ d m apart e.
    let there : get eq c.args.first.now c.args.digest.now ≡ Some c.args.n = cc (c.in-Some.ensures.value) in
    taken_still (get eq c.args.first.now) (get eq c.remove.new.self) c.args.digest.now c.remove.ensures.updates.0 d m c.args.n there apart e

pub returns-then-m-n-clause-only : goal.returns-then-m-n-clause-only
returns-then-m-n-clause-only c = λ d m e.
    (taken_only (get eq c.args.first.now) (get eq c.remove.new.self) c.args.digest.now c.remove.ensures.updates.0 d m e).0
