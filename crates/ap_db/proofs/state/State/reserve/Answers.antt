use Rattle.std.proofs.Common.{◌+◌, arith}
use Rattle.ap_db.proofs.PutRoom.{room_made, then_ok}
use Rattle.ap_db.proofs.state.State.reserve.Goals as goal

pub returns-clause-room : goal.returns-clause-room
returns-clause-room c =
    then_ok c.reserve_rows.result
    (λ places contents stored plain stands are.
    room_made stored c.args.items.now plain c.args.self.now c.reserve_rows.new.self contents (c.count_sources.result + 1) (c.count_creates.result + 1) (c.count_jobs.result + 1) stands are
    (omega (arith, c.count_sources.ensures.count)) (omega (arith, c.count_creates.ensures.count)) (omega (arith, c.count_jobs.ensures.count)) places
    (omega (arith, c.if-names-ge18446744073709551614.false)))
    c.reserve_rows.ensures.room
