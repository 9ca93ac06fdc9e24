use Rattle.std.proofs.Common.{◌<◌, ℕ, length, arith, get_or}
use Rattle.std.proofs.lemmas.List.{get_or_default}
use Rattle.ap_graph.proofs.RowFacts.{back_more}
use Rattle.ap_graph.proofs.reverse.add_back.Goals as goal

pub loop-target-preserved : goal.loop-target-preserved
loop-target-preserved c =
    let targets = c.args.targets.now in
    let i = c.loop-target.target-index in
    let within : i < length targets = omega arith in
    let target : ℕ = get_or targets i 0 in
    let inside : target < length c.args.back.now = c.requires i 0 within in
    back_more c.args.back.now c.loop-target.back c.add.new.self c.args.from targets i target within (get_or_default targets i 0 target within)
    (omega (arith, inside, c.loop-target.invariant.places)) c.in_ok-add.ensures c.loop-target.invariant
