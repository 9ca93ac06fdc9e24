use Rattle.std.proofs.Common.{◌≡◌, ◌≤◌, ◌+◌, ◌*◌, length}
use Rattle.ap_rows.specs.Readers.{value_onto}
use Rattle.ap_rows.proofs.Digits.{count_of}
use Rattle.ap_rows.proofs.fields.value_of.Given as goal

-- the rest is still to come behind the digits so far, and there is room for it
abbrev pub invariant-loop-rest : goal.invariant-loop-rest
invariant-loop-rest l =
    (value_onto l.n l.rest ≡ value_onto 0 l.digits) × ((l.n + 1) * count_of (length l.rest) ≤ count_of (length l.digits))

abbrev pub decreases-loop-rest : goal.decreases-loop-rest
decreases-loop-rest l = length l.rest
