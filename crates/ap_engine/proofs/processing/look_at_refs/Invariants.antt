use Rattle.std.proofs.Common.{All, take}
use Rattle.ap_rows.specs.Typed.{TypedRef}
use Rattle.ap_engine.proofs.processing.look_at_refs.Given as goal

abbrev pub invariant-loop-row : goal.invariant-loop-row
invariant-loop-row l = All TypedRef (take l.row-index l.refs)
