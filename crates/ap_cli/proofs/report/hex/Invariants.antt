use Rattle.std.proofs.Common.{◌≡◌, ◌++◌, length, flat_map}
use Rattle.ap_cli.specs.Lines.{byte_hex_lem}
use Rattle.ap_cli.proofs.report.hex.Given as goal

abbrev pub invariant-loop-rest : goal.invariant-loop-rest
invariant-loop-rest l = l.text.items ++ flat_map byte_hex_lem l.rest ≡ flat_map byte_hex_lem l.bytes

abbrev pub decreases-loop-rest : goal.decreases-loop-rest
decreases-loop-rest l = length l.rest
