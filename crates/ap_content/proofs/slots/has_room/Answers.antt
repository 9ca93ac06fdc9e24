use Rattle.std.proofs.Common.{◌≡◌, arith, ap, ⊎_elim}
use Rattle.ap_content.specs.Counting.{kid_times}
use Rattle.ap_content.proofs.Totals.{kid_times-le-length, nothing-left}
use Rattle.ap_content.proofs.slots.has_room.Goals as goal

pub returns : goal.returns
returns c = λ _ n x here.
    let most = kid_times-le-length n c.args.kids.now in
    let fit = c.requires n x here in
    let none : kid_times n c.loop-rest.rest.now ≡ 0 = ap (kid_times n) (nothing-left c.loop-rest.rest.now c.in_default.len_below) in
    ⊎_elim (λ h. omega (arith, h)) (λ h. omega (arith, h)) (c.loop-rest.invariant n x here)
