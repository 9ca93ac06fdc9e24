use Rattle.ap_turn.specs.Seats.{IsIdleAt, HasGiven}
use Rattle.ap_turn.proofs.tests.add_all.Given as goal

abbrev pub invariant-loop-i : goal.invariant-loop-i
invariant-loop-i g l = IsIdleAt l.turn l.seat × HasGiven l.i l.initial.seat l.seat
