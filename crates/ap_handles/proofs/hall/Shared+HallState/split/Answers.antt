use Rattle.std.proofs.Common.{rules}
use Rattle.ap_handles.proofs.Holding.{held_none}
use Rattle.ap_handles.proofs.hall.Shared+HallState.split.Goals as goal

pub returns-clause-split : goal.returns-clause-split
returns-clause-split c = (search rules, search rules, search rules, search rules, search rules, held_none c.in_ok-split.field-0.number c.in_ok-split.field-0.seen (search rules))
