use Rattle.std.proofs.Common.{◌≡◌, ◌++◌, length}
use Rattle.std.specs.Str.Lines.{lines}
use Rattle.ap_samples.specs.Directives.{directives_in}
use Rattle.ap_samples.proofs.reading.read_directives.Given as goal

abbrev pub invariant-loop-line : goal.invariant-loop-line
invariant-loop-line l = l.directives.items ++ directives_in (lines l.rest) ≡ directives_in (lines l.bytes)

abbrev pub decreases-loop-line : goal.decreases-loop-line
decreases-loop-line l = length l.rest
