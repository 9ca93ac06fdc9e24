use Rattle.std.proofs.Common.{List, ◌∷◌, length, ◌∙◌, ap, inl, arith}
use Rattle.std.proofs.lemmas.List.{length-append}
use Rattle.ap_disk.specs.History.{Event, wrote}
use Rattle.ap_disk.specs.declared.call.Step.TheVariants.{Wrote}
use Rattle.ap_disk.proofs.Logs.{counts-push, log_of-push_write}
use Rattle.ap_disk.proofs.call_log.CallLog.push_write.Goals as goal

pub invariant_of-self-in-Ok-push : goal.invariant_of-self-in-Ok-push
invariant_of-self-in-Ok-push c =
    rw (c.in-Ok-push.ensures.items, c.in-Ok.ensures.items)
    (omega (arith, counts-push c.self.inside.calls.items (record { time = c.args.time; step = Wrote c.args.at (length c.args.bytes.now) }), c.self.invariant, length-append c.self.inside.kept.items c.args.bytes.now))

pub returns-in-Ok-push-clause-recorded : goal.returns-in-Ok-push-clause-recorded
returns-in-Ok-push-clause-recorded c _ =
    let behind : List Event → List Event = λ log. record { time = c.args.time; change = wrote c.args.at c.args.bytes.now } ∷ log in
    rw (c.in-Ok-push.ensures.items, c.in-Ok.ensures.items)
    (log_of-push_write c.self.inside.calls.items c.self.inside.kept.items c.args.bytes.now c.args.time c.args.at c.self.invariant ∙ ap behind c.self.view_is)

pub returns-in-Ok-push-clause-either : goal.returns-in-Ok-push-clause-either
returns-in-Ok-push-clause-either c =
    let behind : List Event → List Event = λ log. record { time = c.args.time; change = wrote c.args.at c.args.bytes.now } ∷ log in
    inl (rw (c.in-Ok-push.ensures.items, c.in-Ok.ensures.items)
    (log_of-push_write c.self.inside.calls.items c.self.inside.kept.items c.args.bytes.now c.args.time c.args.at c.self.invariant ∙ ap behind c.self.view_is))
