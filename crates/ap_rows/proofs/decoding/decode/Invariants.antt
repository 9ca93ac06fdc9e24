use Rattle.std.proofs.Common.{◌≡◌, ◌≤◌, ◌+◌, ◌-◌, length}
use Rattle.ap_rows.specs.Grammar.{decoded, items_from}
use Rattle.ap_rows.specs.Listing.{change_behind}
use Rattle.ap_rows.proofs.decoding.decode.Given as goal

-- the items so far, and those of the bytes that are left, are the change
abbrev pub invariant-loop-reader : goal.invariant-loop-reader
invariant-loop-reader l =
    (decoded l.bytes ≡ change_behind l.items.items (items_from (length l.bytes - length l.items.items) (length l.bytes - length l.reader) l.reader))
    × (length l.items.items + length l.reader ≤ length l.bytes)

abbrev pub decreases-loop-reader : goal.decreases-loop-reader
decreases-loop-reader l = length l.reader
