use Rattle.ap_handles.specs.Calls.{IsAtRest}
use Rattle.ap_handles.proofs.tests.visits.Given as goal

abbrev pub invariant-loop-round : goal.invariant-loop-round
invariant-loop-round g l = IsAtRest l.hall l.seat
