use Rattle.ap_db.proofs.Stepping.{step_taken, step_unknown, step_unlawful, match_none, match_some}
use Rattle.ap_db.proofs.Told.{err_moved}
use Rattle.ap_db.proofs.reading.take_item.Goals as goal

pub returns-in-Ok-None-clause-refused : goal.returns-in-Ok-None-clause-refused
returns-in-Ok-None-clause-refused c = λ e stored replays. step_unknown stored c.args.bytes.now (match_none c.in-Ok-None.field-0 _ _ c.in-Ok-None.field-0-is c.in-Ok-None.ensures.read)

pub returns-in-Ok-clause-taken : goal.returns-in-Ok-clause-taken
returns-in-Ok-clause-taken c = λ stored replays.
    let read = match_some c.in-Ok-Some.field-0 c.in-Ok-Some.read _ _ c.in-Ok-Some.field-0-is c.in-Ok-Some.ensures.read in
    let applied = c.in-Ok.ensures.applied stored replays in
    (applied.0, step_taken stored applied.0 c.args.bytes.now c.in-Ok-Some.read.1.now c.in-Ok-Some.read.0 read applied.1, applied.2)

pub returns-in-Err-apply-clause-refused : goal.returns-in-Err-apply-clause-refused
returns-in-Err-apply-clause-refused c = λ e stored replays.
    let read = match_some c.in-Ok-Some.field-0 c.in-Ok-Some.read _ _ c.in-Ok-Some.field-0-is c.in-Ok-Some.ensures.read in
    step_unlawful stored c.args.bytes.now c.in-Ok-Some.read.1.now c.in-Ok-Some.read.0 read (c.in-Err-apply.ensures.refused (err_moved c.in-Err-apply.stop _ e) stored replays)
