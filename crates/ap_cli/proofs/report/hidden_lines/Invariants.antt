use Rattle.std.proofs.Common.{◌≡◌, ◌++◌, length, flat_map}
use Rattle.ap_cli.specs.Lines.{hidden_line_lem}
use Rattle.ap_cli.proofs.report.hidden_lines.Given as goal

abbrev pub invariant-loop-rest : goal.invariant-loop-rest
invariant-loop-rest l = l.text.items ++ flat_map hidden_line_lem l.rest ≡ flat_map hidden_line_lem l.hidden

abbrev pub decreases-loop-rest : goal.decreases-loop-rest
decreases-loop-rest l = length l.rest
