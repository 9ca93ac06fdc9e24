use Rattle.std.proofs.Common.{List, [], ◌∷◌, ◌∙◌, ap, inl, arith}
use Rattle.ap_disk.specs.History.{Event}
use Rattle.ap_disk.specs.CallLog.{event_of}
use Rattle.ap_disk.proofs.Logs.{counts-push, log_of-push_quiet}
use Rattle.ap_disk.proofs.call_log.CallLog.push.Goals as goal

pub invariant_of-self : goal.invariant_of-self
invariant_of-self c =
    rw c.in-Ok.ensures.items (omega (arith, counts-push c.self.inside.calls.items c.args.call, c.requires, c.self.invariant))

pub returns-in-Ok-clause-recorded : goal.returns-in-Ok-clause-recorded
returns-in-Ok-clause-recorded c _ =
    let behind : List Event → List Event = λ log. event_of c.args.call [] ∷ log in
    rw c.in-Ok.ensures.items
    (log_of-push_quiet c.self.inside.calls.items c.self.inside.kept.items c.args.call c.self.invariant ∙ ap behind c.self.view_is)

pub returns-in-Ok-clause-either : goal.returns-in-Ok-clause-either
returns-in-Ok-clause-either c =
    let behind : List Event → List Event = λ log. event_of c.args.call [] ∷ log in
    inl (rw c.in-Ok.ensures.items
    (log_of-push_quiet c.self.inside.calls.items c.self.inside.kept.items c.args.call c.self.invariant ∙ ap behind c.self.view_is))
