use Rattle.std.proofs.Common.{◌≡◌, ◌+◌, length}
use denote.Text.{Utf8}
use denote.Shadow.{shadow}
use Rattle.std.specs.Str.{chars}
use Rattle.ap_text.specs.Wild.{wild_chars, some_end}
use Rattle.ap_text.proofs.pattern.some_end_matches.Given as goal

abbrev pub invariant-loop-after : goal.invariant-loop-after
invariant-loop-after l = shadow (Utf8 l.marks) × shadow (Utf8 l.left)
    × (some_end (wild_chars (chars l.marks)) (chars l.left) ≡ some_end (wild_chars (chars l.fn.pattern)) (chars l.fn.text))

abbrev pub decreases-loop-after : goal.decreases-loop-after
decreases-loop-after l = length l.marks + length l.left
