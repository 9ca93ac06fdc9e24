use Rattle.std.proofs.Common.{◌≡◌}
use Rattle.ap_turn.specs.Seats.{IsSameSeat}
use Rattle.ap_turn.proofs.turn.Turn.wait_to_draw.Given as goal

abbrev pub invariant-loop : goal.invariant-loop
invariant-loop g l = IsSameSeat l.initial.seat l.seat × (l.seat.me ≡ l.initial.seat.me)
