use Rattle.ap_disk.proofs.Replays.{moment_read, moment_there}
use Rattle.ap_disk.proofs.call_log.CallLog.moment.Goals as goal

pub returns-in-Some : goal.returns-in-Some
returns-in-Some c =
    let found = c.in-Some.ensures.lookup in
    let inside = c.self.inside in
    moment_read inside.calls.items inside.kept.items c.args.self.now c.deref.result.now c.args.call c.in-Some.call.now c.self.view_is c.deref.ensures.value c.requires.first found.3.0 (found.3.1 c.in-Some.call.now)

pub returns-in-None : goal.returns-in-None
returns-in-None c =
    let inside = c.self.inside in
    absurd (moment_there inside.calls.items inside.kept.items c.args.self.now c.deref.result.now c.args.call c.self.view_is c.deref.ensures.value c.requires.first c.requires.last c.in-None.ensures.lookup.3)
