use Rattle.std.proofs.Common.{◌∙◌}
use Rattle.ap_db.specs.CommitLaw.{after_puts}
use Rattle.ap_db.proofs.Planning.{ok_both, err_then, Sweeps, TakesOut, PutsBack, AreSwept, AreBack, well_put, found_right, swept_then, back_then}
use Rattle.ap_db.proofs.state.State.plan_drops.Goals as goal

pub drop_unnamed-requires : goal.drop_unnamed-requires
drop_unnamed-requires c =
    let r = c.requires in
    let s = c.args.self.now in
    let k = c.args.contents.now in
    let w = c.args.written.now.items in
    let are = c.deref.ensures.value ∙ c.in_ok-found.ensures in (
      after_puts r.1 r.2,
      well_put s s k c.deref.result.now w w c.args.loose.now c.args.defined.now c.args.olds.now are r.0 r.1 r.2 r.3 r.4,
      r.5.stands,
      found_right s s k c.deref.result.now w w c.args.loose.now c.args.defined.now c.args.olds.now are r.0 r.1 r.2 r.3 r.4 r.5,
    )

pub returns-clause-swept : goal.returns-clause-swept
returns-clause-swept c =
    let s = c.args.self.now in
    let n = c.drop_unnamed.new.self in
    let k = c.args.contents.now in
    let f = c.deref.result.now in
    let w = c.args.written.now.items in
    let v = c.drop_unnamed.new.items.items in
    let are = c.deref.ensures.value ∙ c.in_ok-found.ensures in
    ok_both (Sweeps s n k f w v) (λ dropped. TakesOut s n k f w v dropped.items) (λ dropped. AreSwept s n k f w v c.args.loose.now c.args.defined.now c.args.olds.now dropped.items) c.drop_unnamed.result
    (λ dropped sweeps out. swept_then s n k f w v c.args.loose.now c.args.defined.now c.args.olds.now are dropped.items sweeps out) c.drop_unnamed.ensures.stands c.drop_unnamed.ensures.out

pub returns-clause-undone : goal.returns-clause-undone
returns-clause-undone c =
    let s = c.args.self.now in
    let n = c.drop_unnamed.new.self in
    let k = c.args.contents.now in
    let f = c.deref.result.now in
    let w = c.args.written.now.items in
    let v = c.drop_unnamed.new.items.items in
    let are = c.deref.ensures.value ∙ c.in_ok-found.ensures in
    err_then (PutsBack s n k f w v) (AreBack s n k f w v c.args.loose.now c.args.defined.now c.args.olds.now) c.drop_unnamed.result
    (λ back. back_then s n k f w v c.args.loose.now c.args.defined.now c.args.olds.now are back) c.drop_unnamed.ensures.undone
