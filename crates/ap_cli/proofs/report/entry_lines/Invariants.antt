use Rattle.std.proofs.Common.{◌≡◌, ◌++◌, length, flat_map}
use Rattle.ap_cli.specs.Lines.{entry_line_lem}
use Rattle.ap_cli.proofs.report.entry_lines.Given as goal

abbrev pub invariant-loop-rest : goal.invariant-loop-rest
invariant-loop-rest l = l.text.items ++ flat_map entry_line_lem l.rest ≡ flat_map entry_line_lem l.entries

abbrev pub decreases-loop-rest : goal.decreases-loop-rest
decreases-loop-rest l = length l.rest
