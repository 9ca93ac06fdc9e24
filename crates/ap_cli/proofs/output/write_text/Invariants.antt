use Rattle.std.proofs.Common.{◌≡◌, ◌≤◌, ◌+◌, ℕ, List, ◌++◌, length}
use Rattle.ap_tree.specs.Written.{Gains}
use Rattle.ap_cli.proofs.output.write_text.Given as goal

abbrev pub invariant-loop-rest : goal.invariant-loop-rest
invariant-loop-rest g l = record {
  done : List ℕ;
  split : done ++ l.rest ≡ l.text;
  gained : Gains (g.O.Sink.written l.fn.out) (g.O.Sink.written l.out) done;
  room : g.O.Sink.room l.fn.out ≤ g.O.Sink.room l.out + length done;
  later : g.O.Sink.faults l.fn.out ≤ g.O.Sink.faults l.out;
}

abbrev pub decreases-loop-rest : goal.decreases-loop-rest
decreases-loop-rest g l = length l.rest
