use Rattle.std.proofs.Common.{◌≡◌, ◌+◌, length}
use Rattle.ap_tree.specs.Slots.{slot_of}
use Rattle.ap_tree.proofs.edits.slot.Given as goal

abbrev pub invariant-loop-rest : goal.invariant-loop-rest
invariant-loop-rest l = (l.at + slot_of l.rest l.path ≡ slot_of l.files l.path) × (l.at + length l.rest ≡ length l.files)

abbrev pub decreases-loop-rest : goal.decreases-loop-rest
decreases-loop-rest l = length l.rest
