use Rattle.std.proofs.Common.{List, [], length, arith, ap}
use Rattle.ap_disk.specs.History.{Event}
use Rattle.ap_disk.proofs.Replays.{length-log_of}
use Rattle.ap_disk.proofs.call_log.CallLog.len.Goals as goal

pub returns : goal.returns
returns c =
    let all = length-log_of [] c.self.inside.calls.items c.self.inside.kept.items in
    let same = ap (λ (l : List Event). length l) c.self.view_is in
    grind (arith, all, same, c.len.ensures, c.self.inside.calls.ok.0)
