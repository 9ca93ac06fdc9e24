use Rattle.std.specs.Prelude.{◌≡◌, Some}
use Rattle.ap_db.specs.Stored.{Stored, first_step}
use Rattle.ap_db.specs.Replaying.{Replays}
use Rattle.ap_db.specs.Payloads.{TakesItem}
use Rattle.ap_db.proofs.Stepping.{if_ok, step_keeps}
use Rattle.ap_db.proofs.reading.Reading.take_item.Goals as goal

-- each step keeps it well stored
pub returns-clause-taken : goal.returns-clause-taken
returns-clause-taken c = if_ok
    (λ after. (stored : Stored) → Replays c.args.self.now.replay c.args.self.now.contents stored → (next : Stored) × (first_step stored c.args.bytes.now ≡ Some (next, after.now)) × Replays c.take_item.new.replay c.take_item.new.contents next)
    (λ after. TakesItem c.args.self.now (record { replay = c.take_item.new.replay; contents = c.take_item.new.contents }) c.args.bytes.now after.now)
    c.take_item.result
    (λ after taken stored reads.
    let next = taken stored reads.replays in
    (next.0, next.1, record { replays = next.2; well = step_keeps stored next.0 c.args.bytes.now after.now reads.well next.1 }))
    c.take_item.ensures.taken
