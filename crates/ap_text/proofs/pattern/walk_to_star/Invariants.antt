use Rattle.std.proofs.Common.{◌≤◌, length}
use denote.Text.{Utf8}
use denote.Shadow.{shadow}
use Rattle.std.specs.Str.{chars}
use Rattle.ap_text.proofs.Walking.{Walking}
use Rattle.ap_text.proofs.pattern.walk_to_star.Given as goal

abbrev pub invariant-loop-mark : goal.invariant-loop-mark
invariant-loop-mark l = shadow (Utf8 l.marks) × shadow (Utf8 l.left)
    × Walking (chars l.fn.pattern) (chars l.fn.text) (chars l.marks) (chars l.left)
    × (length l.marks ≤ length l.fn.pattern) × (length l.left ≤ length l.fn.text)

abbrev pub decreases-loop-mark : goal.decreases-loop-mark
decreases-loop-mark l = length l.marks
