use Rattle.std.proofs.Common.{Some}
use Rattle.ap_turn.proofs.turn.Turn.give.Given as goal

abbrev pub ghosts-put_and_pass : goal.ghosts-put_and_pass
ghosts-put_and_pass g a = record { entry = Some (g.E.Says.entry a.says.now a.value) }
